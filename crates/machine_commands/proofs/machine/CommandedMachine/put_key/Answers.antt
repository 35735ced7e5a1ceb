use Rattle.std.proofs.Common.{arith}
use Rattle.machine_commands.proofs.Common.{board_of}
use Rattle.machine_commands.proofs.Awaiting.{puts_key}
use Rattle.machine_commands.proofs.machine.CommandedMachine.put_key.Goals as goal

pub returns-clause-key : goal.returns-clause-key
returns-clause-key g c =
    let length = c.requires.memory in
    let range = c.requires.range in
    puts_key c.args.address c.args.c c.args.h c.args.r (board_of g.D.Drive.state c.args.self.now) _ _ _ _ (omega arith) c.put_byte.ensures.byte c.put_byte-2.ensures.byte c.put_byte-3.ensures.byte c.put_byte-4.ensures.byte
