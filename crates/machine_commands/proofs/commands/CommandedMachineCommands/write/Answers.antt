use Rattle.machine_commands.proofs.Common.{content_size, board_of}
use Rattle.machine_commands.proofs.ReadEndings.{in_page, size_range}
use Rattle.machine_commands.proofs.WriteDone.{write_done}
use Rattle.machine_commands.proofs.commands.CommandedMachineCommands.write.Goals as goal

pub returns : goal.returns
returns g c =
    let range = size_range c.args.key.n c.requires.coded in
    let is = write_done c.args.self.now.motors c.args.bay c.args.key c.args.rate c.args.address c.args.deleted c.write_sector-outcome.result (board_of g.D.Drive.state c.args.self.now)
    (board_of g.D.Drive.state c.write_sector-outcome.new.self) c.requires.idle c.requires.bay c.requires.head c.requires.coded c.requires.range
    (in_page c.args.address (content_size c.args.key.n) range.0 c.requires.page) c.requires.spun c.requires.unprotected c.write_sector-outcome.ensures.sends c.keep_ranges.ensures.first c.keep_ranges.ensures.second in
    record {
      step = rw c.told.ensures (is.change, is.writes);
      costs = is.costs;
      sound = c.keep_ranges.ensures.sound;
      idle = rw c.write_sector-outcome.ensures.motors is.idle;
    }
