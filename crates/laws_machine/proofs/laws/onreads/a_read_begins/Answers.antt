use Rattle.laws_machine.proofs.Common.{Read}
use Rattle.laws_machine.proofs.OnReads.Beginnings.{begins_quietly}
use Rattle.laws_machine.proofs.laws.onreads.a_read_begins.Goals as goal

pub returns-clause-counts : goal.returns-clause-counts
returns-clause-counts c = begins_quietly Read tt
