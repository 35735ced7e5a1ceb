use Rattle.laws_program.proofs.Endings.{copies_well}
use Rattle.laws_program.proofs.copy.copy_of_a_disk.Goals as goal

pub returns : goal.returns
returns c = copies_well c.args._from.now c.args._to.now
