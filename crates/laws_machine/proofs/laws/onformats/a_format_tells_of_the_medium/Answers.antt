use Rattle.laws_machine.proofs.Common.{Track}
use Rattle.laws_machine.proofs.OnOrders.Ends.{ended, only}
use Rattle.laws_machine.proofs.laws.onformats.a_format_tells_of_the_medium.Goals as goal

pub returns-clause-only : goal.returns-clause-only
returns-clause-only c = λ scene numbers keys board size are was. only (Track numbers) scene keys board (size, are) was

pub returns-clause-ended : goal.returns-clause-ended
returns-clause-ended c = λ scene numbers keys board size are was. ended (Track numbers) scene keys board (size, are) was
