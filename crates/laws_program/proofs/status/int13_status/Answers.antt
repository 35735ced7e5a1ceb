use Rattle.laws_program.proofs.Archives.{int13_ends}
use Rattle.laws_program.proofs.status.int13_status.Goals as goal

pub returns : goal.returns
returns c spares old new ended = int13_ends c.args._file.now spares old new ended
