use Rattle.laws_program.proofs.Endings.{formats_well}
use Rattle.laws_program.proofs.format.format_of_a_disk.Goals as goal

pub returns : goal.returns
returns c = formats_well c.args._name.now c.args._cylinders
