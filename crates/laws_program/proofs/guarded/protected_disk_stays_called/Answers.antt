use Rattle.laws_program.proofs.Protected.{calls_stay}
use Rattle.laws_program.proofs.guarded.protected_disk_stays_called.Goals as goal

pub returns : goal.returns
returns c = calls_stay c.args._name.now c.args._file.now
