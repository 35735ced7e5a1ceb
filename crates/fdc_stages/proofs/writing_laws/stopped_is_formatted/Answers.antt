use Rattle.fdc_stages.proofs.Ended.{stopped_formatted}
use Rattle.fdc_stages.proofs.writing_laws.stopped_is_formatted.Goals as goal

pub returns : goal.returns
returns c = λ past numbers handed was stopped. stopped_formatted c.args._ending c.args._stage past numbers handed was stopped
