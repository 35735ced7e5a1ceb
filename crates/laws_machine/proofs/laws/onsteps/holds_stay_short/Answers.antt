use Rattle.laws_machine.proofs.OnSteps.Runs as short
use Rattle.laws_machine.proofs.laws.onsteps.holds_stay_short.Goals as goal

pub returns : goal.returns
returns c = short.holds_stay_short
