use Rattle.laws_program.proofs.Archives.{fromimd_makes}
use Rattle.laws_program.proofs.archive.disk_of_an_imd.Goals as goal

pub returns : goal.returns
returns c spares old new before after = fromimd_makes spares old new before after c.args._imd.now c.args._name.now
