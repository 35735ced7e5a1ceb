use Rattle.std.proofs.Common.{refl, arith}
use Rattle.machine_commands.proofs.Common.{user_bytes, board_of}
use Rattle.machine_commands.proofs.ReadEndings.{read_after, reads_back, size_range}
use Rattle.machine_commands.proofs.commands.CommandedMachineCommands.read_back.Goals as goal

pub returns : goal.returns
returns g c =
    let range = size_range c.args.key.n c.requires.coded in
    let old = board_of g.D.Drive.state c.args.self.now in
    let new = board_of g.D.Drive.state c.read_to-outcome.new.self in
    let after = read_after c.args.self.now.motors c.args.bay c.args.key c.args.rate user_bytes c.read_to-outcome.result old new c.requires.idle c.requires.bay c.requires.head
    c.requires.coded c.requires.spun (omega arith) (omega arith) c.read_to-outcome.ensures.sends c.keep_ranges.ensures.first c.keep_ranges.ensures.second in
    record {
      step = rw c.mark_of.ensures
          (reads_back c.args.self.now.motors c.args.bay c.args.key c.args.rate user_bytes c.read_to-outcome.result old new c.requires.idle c.requires.bay c.requires.head
          c.requires.coded c.requires.spun (omega arith) (omega arith) c.read_to-outcome.ensures.sends refl);
      costs = after.1;
      sound = c.keep_ranges.ensures.sound;
      idle = rw c.read_to-outcome.ensures.motors after.0;
    }
