use Rattle.fdc_stages.proofs.Ended.{first_written}
use Rattle.fdc_stages.proofs.writing_laws.written_is_first.Goals as goal

pub returns : goal.returns
returns c = λ past handed written. first_written past c.args._key c.args._deleted handed written.begun
