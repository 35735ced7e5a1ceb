use Rattle.laws_program.proofs.Fits.{toimd_ends}
use Rattle.laws_program.proofs.fitting.toimd_status.Goals as goal

pub returns : goal.returns
returns c spares old new ended files told = toimd_ends spares old new ended files told c.args._name.now c.args._imd.now
