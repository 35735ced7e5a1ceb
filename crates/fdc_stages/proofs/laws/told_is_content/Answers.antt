use Rattle.fdc_stages.proofs.Lawful.{reading_told}
use Rattle.fdc_stages.proofs.laws.told_is_content.Goals as goal

pub returns : goal.returns
returns c = λ past told reads. reading_told past c.args._key told c.args._stage reads
