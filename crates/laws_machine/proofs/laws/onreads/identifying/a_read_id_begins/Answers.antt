use Rattle.laws_machine.proofs.Common.{Identify}
use Rattle.laws_machine.proofs.OnOrders.Accesses.{begins}
use Rattle.laws_machine.proofs.OnReads.Beginnings.{begins_quietly}
use Rattle.laws_machine.proofs.laws.onreads.identifying.a_read_id_begins.Goals as goal

pub returns-clause-begins : goal.returns-clause-begins
returns-clause-begins c = begins Identify

pub returns-clause-counts : goal.returns-clause-counts
returns-clause-counts c = begins_quietly Identify tt
