use Rattle.laws_machine.proofs.OnOrders.Ends.{read_ended}
use Rattle.laws_machine.proofs.laws.onreads.a_read_tells_of_the_track.Goals as goal

pub returns-clause-ended : goal.returns-clause-ended
returns-clause-ended c = read_ended
