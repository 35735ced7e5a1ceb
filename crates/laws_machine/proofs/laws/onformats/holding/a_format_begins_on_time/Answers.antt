use Rattle.laws_machine.proofs.Common.{Track}
use Rattle.laws_machine.proofs.OnOrders.Punctual.{begins_on_time}
use Rattle.laws_machine.proofs.laws.onformats.holding.a_format_begins_on_time.Goals as goal

pub returns : goal.returns
returns c = λ scene numbers. begins_on_time (Track numbers) scene
