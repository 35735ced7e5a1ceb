use Rattle.machine_commands.proofs.Common.{board_of}
use Rattle.machine_commands.proofs.Awaiting.{puts_byte}
use Rattle.machine_commands.proofs.machine.CommandedMachine.put_byte.Goals as goal

pub returns-clause-byte : goal.returns-clause-byte
returns-clause-byte g c = puts_byte c.args.address c.args.value (board_of g.D.Drive.state c.args.self.now) _ c.requires.page c.ram_set.ensures
