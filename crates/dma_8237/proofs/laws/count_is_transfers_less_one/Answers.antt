use Rattle.std.proofs.Common.{add-one}
use Rattle.dma_8237.proofs.Runs.{after_transfers_on_the_way, after_transfers_at_the_end}
use Rattle.dma_8237.proofs.laws.count_is_transfers_less_one.Goals as goal

pub returns-clause-on_the_way : goal.returns-clause-on_the_way
returns-clause-on_the_way _ = after_transfers_on_the_way

pub returns-clause-at_the_end : goal.returns-clause-at_the_end
returns-clause-at_the_end _ = λ channel small. rw add-one (after_transfers_at_the_end channel small)
