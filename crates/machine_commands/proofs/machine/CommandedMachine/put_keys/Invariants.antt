use Rattle.std.proofs.Common.{◌≡◌, length}
use Rattle.machine_commands.proofs.Common.{memory_of, board_of, PutsKeys}
use Rattle.machine_commands.proofs.machine.CommandedMachine.put_keys.Given as goal

abbrev pub invariant-loop-i : goal.invariant-loop-i
invariant-loop-i g l = PutsKeys l.c l.h l.i (board_of g.D.Drive.state l.fn.self) (board_of g.D.Drive.state l.self) × (l.self.motors ≡ l.fn.self.motors)
    × (length (memory_of (board_of g.D.Drive.state l.self)) ≡ 1048576)
