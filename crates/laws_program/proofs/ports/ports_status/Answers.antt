use Rattle.laws_program.proofs.PortStatus.{ports_end}
use Rattle.laws_program.proofs.ports.ports_status.Goals as goal

pub returns : goal.returns
returns c = ports_end c.args._file.now
