use Rattle.laws_machine.proofs.Common.{Window}
use Rattle.laws_machine.proofs.OnOrders.Punctual.{begins_on_time}
use Rattle.laws_machine.proofs.laws.onwrites.holding.a_write_begins_on_time.Goals as goal

pub returns : goal.returns
returns c = λ scene deleted. begins_on_time (Window deleted) scene
