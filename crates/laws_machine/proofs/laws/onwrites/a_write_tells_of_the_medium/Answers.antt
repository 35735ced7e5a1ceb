use Rattle.std.proofs.Common.{[]}
use Rattle.laws_machine.proofs.Common.{controller_of, drive_in, Window}
use Rattle.laws_machine.proofs.OnOrders.Ends.{ended, only}
use Rattle.laws_machine.proofs.OnWrites.Results.{ended_well}
use Rattle.laws_machine.proofs.laws.onwrites.a_write_tells_of_the_medium.Goals as goal

pub returns-clause-only : goal.returns-clause-only
returns-clause-only c = λ scene deleted board size was. only (Window deleted) scene [] board size was

pub returns-clause-ended : goal.returns-clause-ended
returns-clause-ended c = λ scene deleted board size was. ended (Window deleted) scene [] board size was

pub returns-clause-undisturbed : goal.returns-clause-undisturbed
returns-clause-undisturbed c = λ scene deleted board ending results read size was is calm on_time.
    ended_well scene deleted (drive_in board scene.bay) (controller_of board).phase ending results read is calm on_time (ended (Window deleted) scene [] board size was)
