use Rattle.std.proofs.Common.{◌∙◌}
use Rattle.machine_commands.proofs.Common.{board_of}
use Rattle.machine_commands.proofs.Awaiting.{format_whole, track_as}
use Rattle.machine_commands.proofs.commands.CommandedMachineCommands.format.Goals as goal

pub returns : goal.returns
returns g c =
    let is = format_whole c.args.self.now.motors c.args.bay (record { c = c.args.c; h = c.args.h; rate = c.args.rate; gap3 = c.args.gap3; fill = c.args.fill }) c.format_track-outcome.result
    (board_of g.D.Drive.state c.args.self.now) (board_of g.D.Drive.state c.put_keys.new.self) (board_of g.D.Drive.state c.format_track-outcome.new.self)
    c.requires.idle c.requires.bay c.requires.head c.requires.spun c.requires.unprotected c.keep_memory.ensures.length c.put_keys.ensures.few c.put_keys.ensures.keys
    (track_as _ _ c.args.bay (record { c = c.args.c; h = c.args.h; rate = c.args.rate; gap3 = c.args.gap3; fill = c.args.fill }) c.format_track-outcome.result (board_of g.D.Drive.state c.put_keys.new.self)
    (board_of g.D.Drive.state c.format_track-outcome.new.self) c.put_keys.ensures.motors (c.format_track-outcome.ensures.sends c.args.c)) c.keep_ranges.ensures.first c.keep_ranges.ensures.second in
    record {
      step = rw c.told.ensures (is.laying, is.formats);
      costs = is.costs;
      sound = c.keep_ranges.ensures.sound;
      idle = rw (c.format_track-outcome.ensures.motors ∙ c.put_keys.ensures.motors) is.idle;
    }
