use Rattle.laws_chip.proofs.NextStages.{call_goes}
use Rattle.laws_chip.proofs.soundness.no_command_is_silent.Goals as goal

pub returns : goal.returns
returns c = call_goes
