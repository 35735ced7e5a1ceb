use Rattle.laws_program.proofs.Endings.{imports_well}
use Rattle.laws_program.proofs.flat.disk_of_a_flat_file.Goals as goal

pub returns : goal.returns
returns c = imports_well c.args._flat.now c.args._name.now
