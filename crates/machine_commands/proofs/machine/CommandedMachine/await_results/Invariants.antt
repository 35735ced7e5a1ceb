use Rattle.std.proofs.Common.{◌≡◌}
use Rattle.machine_commands.proofs.Common.{Watches, board_of}
use Rattle.machine_commands.proofs.machine.CommandedMachine.await_results.Given as goal

abbrev pub invariant-loop-watch : goal.invariant-loop-watch
invariant-loop-watch g l = Watches l._watch (board_of g.D.Drive.state l.fn.self) (board_of g.D.Drive.state l.self) × (l.self.motors ≡ l.fn.self.motors)
