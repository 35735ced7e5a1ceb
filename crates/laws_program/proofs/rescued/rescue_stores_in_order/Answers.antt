use Rattle.laws_program.proofs.Rescues.{rescue_orders}
use Rattle.laws_program.proofs.rescued.rescue_stores_in_order.Goals as goal

pub returns : goal.returns
returns c = rescue_orders c.args._from.now c.args._to.now c.args._log.now
