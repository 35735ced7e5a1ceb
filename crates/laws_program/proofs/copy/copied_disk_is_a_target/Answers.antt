use Rattle.laws_program.proofs.Endings.{copy_target}
use Rattle.laws_program.proofs.copy.copied_disk_is_a_target.Goals as goal

pub returns : goal.returns
returns c old new files after disk stores image = copy_target c.args._from.now c.args._to.now files after disk old new stores image
