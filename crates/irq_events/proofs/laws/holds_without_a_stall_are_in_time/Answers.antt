use Rattle.irq_events.proofs.InTime.{in_time}
use Rattle.irq_events.proofs.laws.holds_without_a_stall_are_in_time.Goals as goal

pub returns : goal.returns
returns c = in_time
