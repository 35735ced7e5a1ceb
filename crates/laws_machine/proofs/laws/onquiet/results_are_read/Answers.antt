use Rattle.laws_machine.proofs.OnQuiet.Accesses.{results_given}
use Rattle.laws_machine.proofs.laws.onquiet.results_are_read.Goals as goal

pub returns : goal.returns
returns c = results_given
