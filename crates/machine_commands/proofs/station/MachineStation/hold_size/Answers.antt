use Rattle.std.proofs.Common.{length, sym, ap, ◌∙◌}
use Rattle.machine_commands.proofs.Common.{Board, memory_of, board_of}
use Rattle.machine_commands.proofs.Landing.{user_size}
use Rattle.machine_commands.proofs.station.MachineStation.hold_size.Goals as goal

pub returns : goal.returns
returns g c = user_size (memory_of (board_of g.D.Drive.state c.args.self.now.machine)) (ap (λ (b : Board). length (memory_of b)) (sym c.machine.ensures) ∙ c.ram-byte.ensures.length)
