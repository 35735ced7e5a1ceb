use Rattle.laws_program.proofs.Archives.{remaster_makes}
use Rattle.laws_program.proofs.archive.disk_laid_anew.Goals as goal

pub returns : goal.returns
returns c spares old new before after = remaster_makes spares old new before after c.args._from.now c.args._to.now
