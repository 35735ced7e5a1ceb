use Rattle.laws_program.proofs.Endings.{exports_well}
use Rattle.laws_program.proofs.flat.flat_file_of_a_disk.Goals as goal

pub returns : goal.returns
returns c = exports_well c.args._name.now c.args._flat.now
