use Rattle.laws_commands.proofs.CopiedDisk.{copies_disk}
use Rattle.laws_commands.proofs.copies.copies_disk.Goals as goal
use Rattle.laws_commands.proofs.Common.{laid_tidy}

pub returns : goal.returns
returns c old new files disk course after =
    copies_disk laid_tidy c.args._from.now c.args._to.now disk files old new after course
