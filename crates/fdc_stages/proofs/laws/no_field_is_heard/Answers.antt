use Rattle.fdc_stages.proofs.Causes.{no_field_of}
use Rattle.fdc_stages.proofs.laws.no_field_is_heard.Goals as goal

pub returns : goal.returns
returns c = λ past told read. no_field_of past c.args._key read.cause
