use Rattle.laws_program.proofs.Fits.{ports_seeks}
use Rattle.laws_program.proofs.seeks.ports_seeks_end.Goals as goal

pub returns : goal.returns
returns c = ports_seeks c.args._file.now
