use Rattle.machine_commands.proofs.Common.{board_of, rig_of, turn_same}
use Rattle.machine_commands.proofs.Landing.{starts_asking, starts_spinning, start_idle}
use Rattle.std.proofs.Common.{arith}
use Rattle.machine_commands.proofs.Lasting.{rig_costs, motor_costs}
use Rattle.machine_commands.proofs.commands.CommandedMachineCommands.start_motor.Goals as goal

pub returns-clause-asks : goal.returns-clause-asks
returns-clause-asks g c =
    starts_asking c.args.self.now.motors c.args.bay (board_of g.D.Drive.state c.args.self.now) (board_of g.D.Drive.state c.spin_up.new.self) c.requires.idle c.requires.bay c.spin_up.ensures.starts

pub returns-clause-spun : goal.returns-clause-spun
returns-clause-spun g c =
    starts_spinning c.args.self.now.motors c.args.bay (board_of g.D.Drive.state c.args.self.now) (board_of g.D.Drive.state c.spin_up.new.self) c.requires.idle c.requires.bay c.spin_up.ensures.starts

pub returns-clause-idle : goal.returns-clause-idle
returns-clause-idle g c =
    rw c.spin_up.ensures.motors
    (start_idle c.args.self.now.motors c.args.bay (board_of g.D.Drive.state c.args.self.now) (board_of g.D.Drive.state c.spin_up.new.self) c.requires.idle c.requires.bay c.spin_up.ensures.starts
    c.keep_ranges.ensures.first c.keep_ranges.ensures.second)

pub returns-clause-costs : goal.returns-clause-costs
returns-clause-costs g c =
    let old = board_of g.D.Drive.state c.args.self.now in
    let new = board_of g.D.Drive.state c.spin_up.new.self in
    rig_costs c.args.bay 0 6250 1 6250 old new (turn_same c.args.bay (rig_of old) (rig_of new) (returns-clause-asks g c).media) (omega arith) (motor_costs c.args.self.now.motors c.args.bay old new c.spin_up.ensures.starts)
