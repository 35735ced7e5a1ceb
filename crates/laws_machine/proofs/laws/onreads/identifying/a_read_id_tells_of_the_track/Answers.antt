use Rattle.laws_machine.proofs.OnOrders.Ends.{id_ended}
use Rattle.laws_machine.proofs.laws.onreads.identifying.a_read_id_tells_of_the_track.Goals as goal

pub returns-clause-ended : goal.returns-clause-ended
returns-clause-ended c = id_ended
