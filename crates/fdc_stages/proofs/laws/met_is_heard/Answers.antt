use Rattle.fdc_stages.proofs.Causes.{met_heard}
use Rattle.fdc_stages.proofs.laws.met_is_heard.Goals as goal

pub returns : goal.returns
returns c = λ past separator met. met_heard c.args._index past c.args._key separator met
