use Rattle.floppy_tools.proofs.Tied.{does_ties}
use Rattle.floppy_tools.proofs.laws.counts_of_a_run.Goals as goal

pub returns : goal.returns
returns c = does_ties
