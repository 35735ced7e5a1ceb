use Rattle.std.proofs.Common.{sym, ◌∙◌}
use Rattle.machine_commands.proofs.Common.{memory_of, board_of}
use Rattle.machine_commands.proofs.Landing.{user_at}
use Rattle.machine_commands.proofs.commands.CommandedMachineCommands.memory.Goals as goal

pub returns : goal.returns
returns g c = record { byte = c.ram.ensures.byte ∙ sym (user_at (memory_of (board_of g.D.Drive.state c.args.self.now)) c.args.address c.requires.address) }
