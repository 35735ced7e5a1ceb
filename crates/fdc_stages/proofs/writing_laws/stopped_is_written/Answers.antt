use Rattle.fdc_stages.proofs.Ended.{stopped_written}
use Rattle.fdc_stages.proofs.writing_laws.stopped_is_written.Goals as goal

pub returns : goal.returns
returns c = λ past handed was stopped. stopped_written c.args._ending c.args._stage past c.args._key c.args._deleted handed was stopped
