use Rattle.fdc_stages.proofs.Causes.{identified_of}
use Rattle.fdc_stages.proofs.laws.missed_is_identified.Goals as goal

pub returns : goal.returns
returns c = λ past missed. identified_of past c.args._key c.args._ending missed
