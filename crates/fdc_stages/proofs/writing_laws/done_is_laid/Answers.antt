use Rattle.fdc_stages.proofs.Ended.{whole_laid}
use Rattle.fdc_stages.proofs.writing_laws.done_is_laid.Goals as goal

pub returns : goal.returns
returns c = λ past numbers handed formatted. whole_laid past numbers handed c.args._deleted formatted
