use Rattle.fdc_stages.proofs.Causes.{no_mark_of}
use Rattle.fdc_stages.proofs.laws.no_mark_is_heard.Goals as goal

pub returns : goal.returns
returns c = λ past missed. no_mark_of past c.args._wanted missed
