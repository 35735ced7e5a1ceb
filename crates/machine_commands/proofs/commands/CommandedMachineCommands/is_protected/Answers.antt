use Rattle.machine_commands.proofs.Common.{board_of, rig_of, turn_same}
use Rattle.machine_commands.proofs.Statuses.{status_tells, status_idle, status_asks}
use Rattle.std.proofs.Common.{arith}
use Rattle.machine_commands.proofs.Lasting.{rig_costs, drive_costs}
use Rattle.machine_commands.proofs.commands.CommandedMachineCommands.is_protected.Goals as goal

pub returns-clause-line : goal.returns-clause-line
returns-clause-line g c =
    status_tells c.args.self.now.motors c.args.bay c.sense_drive-status.result (board_of g.D.Drive.state c.args.self.now) (board_of g.D.Drive.state c.sense_drive-status.new.self)
    c.requires.idle c.requires.bay c.sense_drive-status.ensures.senses

pub returns-clause-asks : goal.returns-clause-asks
returns-clause-asks g c =
    status_asks c.args.self.now.motors c.args.bay c.sense_drive-status.result (board_of g.D.Drive.state c.args.self.now) (board_of g.D.Drive.state c.sense_drive-status.new.self)
    c.requires.idle c.requires.bay c.sense_drive-status.ensures.senses

pub returns-clause-idle : goal.returns-clause-idle
returns-clause-idle g c =
    rw c.sense_drive-status.ensures.motors
    (status_idle c.args.self.now.motors c.args.bay c.sense_drive-status.result (board_of g.D.Drive.state c.args.self.now) (board_of g.D.Drive.state c.sense_drive-status.new.self)
    c.requires.idle c.requires.bay c.sense_drive-status.ensures.senses c.keep_ranges.ensures.first c.keep_ranges.ensures.second)

pub returns-clause-costs : goal.returns-clause-costs
returns-clause-costs g c =
    let old = board_of g.D.Drive.state c.args.self.now in
    let new = board_of g.D.Drive.state c.sense_drive-status.new.self in
    rig_costs c.args.bay 0 0 4 0 old new (turn_same c.args.bay (rig_of old) (rig_of new) (returns-clause-asks g c).media) (omega arith) (drive_costs c.args.self.now.motors c.args.bay c.sense_drive-status.result old new c.sense_drive-status.ensures.senses)
