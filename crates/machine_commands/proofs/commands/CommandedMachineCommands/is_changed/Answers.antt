use Rattle.machine_commands.proofs.Common.{board_of, rig_of, turn_same}
use Rattle.machine_commands.proofs.Selecting.{reads_line, line_idle, line_asks}
use Rattle.std.proofs.Common.{arith}
use Rattle.machine_commands.proofs.Lasting.{rig_costs, line_costs}
use Rattle.machine_commands.proofs.commands.CommandedMachineCommands.is_changed.Goals as goal

pub returns-clause-line : goal.returns-clause-line
returns-clause-line g c =
    (reads_line c.args.self.now.motors c.args.bay c.read_line-changed.result (board_of g.D.Drive.state c.args.self.now) (board_of g.D.Drive.state c.read_line-changed.new.self)
    c.requires.idle c.requires.bay c.read_line-changed.ensures.reads).line

pub returns-clause-asks : goal.returns-clause-asks
returns-clause-asks g c =
    line_asks c.args.self.now.motors c.args.bay c.read_line-changed.result (board_of g.D.Drive.state c.args.self.now) (board_of g.D.Drive.state c.read_line-changed.new.self)
    c.requires.idle c.requires.bay c.read_line-changed.ensures.reads

pub returns-clause-idle : goal.returns-clause-idle
returns-clause-idle g c =
    rw c.read_line-changed.ensures.motors
    (line_idle c.args.self.now.motors c.args.bay c.read_line-changed.result (board_of g.D.Drive.state c.args.self.now) (board_of g.D.Drive.state c.read_line-changed.new.self)
    c.requires.idle c.requires.bay c.read_line-changed.ensures.reads c.keep_ranges.ensures.first c.keep_ranges.ensures.second)

pub returns-clause-costs : goal.returns-clause-costs
returns-clause-costs g c =
    let old = board_of g.D.Drive.state c.args.self.now in
    let new = board_of g.D.Drive.state c.read_line-changed.new.self in
    rig_costs c.args.bay 0 0 2 0 old new (turn_same c.args.bay (rig_of old) (rig_of new) (returns-clause-asks g c).media) (omega arith) (line_costs c.args.self.now.motors c.args.bay c.read_line-changed.result old new c.read_line-changed.ensures.reads)
