use Rattle.laws_program.proofs.Stepping.{each_keeps}
use Rattle.laws_program.proofs.steps.steps_keep_guarded_media.Goals as goal

pub returns : goal.returns
returns c = each_keeps
