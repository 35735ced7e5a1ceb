use Rattle.fdc_stages.proofs.Ended.{whole_written}
use Rattle.fdc_stages.proofs.writing_laws.done_is_written.Goals as goal

pub returns : goal.returns
returns c = λ past handed written. whole_written past c.args._key c.args._deleted handed c.args._marked written
