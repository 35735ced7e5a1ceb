use Rattle.laws_commands.proofs.Order.{stores_in_order}
use Rattle.laws_commands.proofs.rescue_order.rescue_stores_the_log_last.Goals as goal

pub returns : goal.returns
returns c old new course ended = stores_in_order c.args._from.now c.args._to.now c.args._log.now old new course ended
