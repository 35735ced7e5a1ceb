use Rattle.machine_commands.proofs.Common.{board_of}
use Rattle.machine_commands.proofs.Landing.{sound_of}
use Rattle.machine_commands.proofs.machine.CommandedMachine.keep_ranges.Goals as goal

pub returns-clause-sound : goal.returns-clause-sound
returns-clause-sound g c =
    sound_of (board_of g.D.Drive.state c.args.self.now) c.faults-first.ensures.range c.faults-second.ensures.range c.keep_memory.ensures.length c.keep_memory.ensures.bytes
