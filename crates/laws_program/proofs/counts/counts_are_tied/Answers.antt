use Rattle.laws_program.proofs.Archives.{over_ties}
use Rattle.laws_program.proofs.counts.counts_are_tied.Goals as goal

pub returns : goal.returns
returns c = over_ties
