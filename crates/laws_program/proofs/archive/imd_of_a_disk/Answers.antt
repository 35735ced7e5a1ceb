use Rattle.laws_program.proofs.Archives.{toimd_makes}
use Rattle.laws_program.proofs.archive.imd_of_a_disk.Goals as goal

pub returns : goal.returns
returns c spares old new before after = toimd_makes spares old new before after c.args._name.now c.args._imd.now
