use Rattle.laws_program.proofs.StepCauses.{each_tells}
use Rattle.laws_program.proofs.steps.steps_tell_causes.Goals as goal

pub returns : goal.returns
returns c = each_tells
