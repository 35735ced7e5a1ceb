use Rattle.fdc_stages.proofs.Causes.{found_of}
use Rattle.fdc_stages.proofs.laws.done_is_found.Goals as goal

pub returns : goal.returns
returns c = λ past told given read start. found_of past c.args._key told given c.args._deleted c.requires read start
