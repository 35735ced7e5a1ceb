use Rattle.laws_program.proofs.Fits.{remaster_ends}
use Rattle.laws_program.proofs.fitting.remaster_status.Goals as goal

pub returns : goal.returns
returns c spares old new ended files told = remaster_ends spares old new ended files told c.args._from.now c.args._to.now
