use Rattle.laws_program.proofs.Stepping.{each_alone}
use Rattle.laws_program.proofs.steps.steps_keep_other_fields.Goals as goal

pub returns : goal.returns
returns c = each_alone
