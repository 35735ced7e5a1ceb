use Rattle.std.proofs.Common.{◌≡◌, take}
use Rattle.machine_commands.proofs.Common.{Sends, board_of}
use Rattle.machine_commands.proofs.machine.CommandedMachine.send.Given as goal

abbrev pub invariant-loop-byte : goal.invariant-loop-byte
invariant-loop-byte g l = Sends (take l.byte-index l.bytes) (board_of g.D.Drive.state l.fn.self) (board_of g.D.Drive.state l.self)
    × (l.self.motors ≡ l.fn.self.motors)
