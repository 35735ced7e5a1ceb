use Rattle.fdc_stages.proofs.Causes.{no_sector_of}
use Rattle.fdc_stages.proofs.laws.no_sector_is_heard.Goals as goal

pub returns : goal.returns
returns c = λ past missed. no_sector_of past c.args._wanted missed
