use Rattle.laws_program.proofs.StepCauses.{each_formats}
use Rattle.laws_program.proofs.steps.steps_format_tracks.Goals as goal

pub returns : goal.returns
returns c = each_formats
