use Rattle.std.proofs.Common.{arith}
use Rattle.machine_commands.proofs.Common.{content_size, board_of}
use Rattle.machine_commands.proofs.ReadEndings.{in_page, read_after, reads_data, size_range}
use Rattle.machine_commands.proofs.commands.CommandedMachineCommands.read.Goals as goal

pub returns : goal.returns
returns g c =
    let range = size_range c.args.key.n c.requires.coded in
    let below = c.requires.range in
    let page = in_page c.args.address (content_size c.args.key.n) range.0 c.requires.page in
    let old = board_of g.D.Drive.state c.args.self.now in
    let new = board_of g.D.Drive.state c.read_to-outcome.new.self in
    let after = read_after c.args.self.now.motors c.args.bay c.args.key c.args.rate c.args.address c.read_to-outcome.result old new c.requires.idle c.requires.bay c.requires.head
    c.requires.coded c.requires.spun (omega arith) page c.read_to-outcome.ensures.sends c.keep_ranges.ensures.first c.keep_ranges.ensures.second in
    record {
      step = rw c.mark_of.ensures
          (reads_data c.args.self.now.motors c.args.bay c.args.key c.args.rate c.args.address c.read_to-outcome.result old new c.requires.idle c.requires.bay c.requires.head
          c.requires.coded c.requires.spun (omega arith) page c.read_to-outcome.ensures.sends c.requires.range);
      costs = after.1;
      sound = c.keep_ranges.ensures.sound;
      idle = rw c.read_to-outcome.ensures.motors after.0;
    }
