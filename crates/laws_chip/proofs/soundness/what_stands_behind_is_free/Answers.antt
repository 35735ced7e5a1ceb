use Rattle.laws_chip.proofs.WholeTransfers.{byte_free, step_free}
use Rattle.laws_chip.proofs.soundness.what_stands_behind_is_free.Goals as goal

pub returns-clause-comes : goal.returns-clause-comes
returns-clause-comes c = byte_free

pub returns-clause-released : goal.returns-clause-released
returns-clause-released c = step_free
