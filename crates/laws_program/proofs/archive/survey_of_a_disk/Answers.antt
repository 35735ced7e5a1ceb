use Rattle.laws_program.proofs.Archives.{survey_tells}
use Rattle.laws_program.proofs.archive.survey_of_a_disk.Goals as goal

pub returns : goal.returns
returns c spares old new before after = survey_tells spares old new before after c.args._name.now
