use Rattle.laws_program.proofs.Fits.{fromimd_ends}
use Rattle.laws_program.proofs.fitting.fromimd_status.Goals as goal

pub returns : goal.returns
returns c spares old new ended files told = fromimd_ends spares old new ended files told c.args._imd.now c.args._name.now
