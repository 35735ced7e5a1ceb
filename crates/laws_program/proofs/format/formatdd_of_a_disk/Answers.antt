use Rattle.laws_program.proofs.Endings.{formats_dd_well}
use Rattle.laws_program.proofs.format.formatdd_of_a_disk.Goals as goal

pub returns : goal.returns
returns c = formats_dd_well c.args._name.now c.args._cylinders
