use Rattle.std.proofs.Common.{arith}
use Rattle.machine_commands.proofs.Common.{board_of}
use Rattle.machine_commands.proofs.Awaiting.{settles_by}
use Rattle.machine_commands.proofs.machine.CommandedMachine.settle.Goals as goal

pub returns-clause-settles : goal.returns-clause-settles
returns-clause-settles g c =
    settles_by (board_of g.D.Drive.state c.args.self.now) _ _ c.wait.ensures.runs c.take_irq.ensures.after (omega arith)
