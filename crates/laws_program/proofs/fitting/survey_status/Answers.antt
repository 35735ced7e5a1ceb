use Rattle.laws_program.proofs.Fits.{survey_ends}
use Rattle.laws_program.proofs.fitting.survey_status.Goals as goal

pub returns : goal.returns
returns c = survey_ends c.args._name.now
