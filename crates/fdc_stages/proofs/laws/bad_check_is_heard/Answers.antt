use Rattle.fdc_stages.proofs.Causes.{bad_check_of}
use Rattle.fdc_stages.proofs.laws.bad_check_is_heard.Goals as goal

pub returns : goal.returns
returns c = λ past told read. bad_check_of past c.args._key told c.requires read
