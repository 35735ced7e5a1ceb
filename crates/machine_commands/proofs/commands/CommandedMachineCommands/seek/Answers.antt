use Rattle.machine_commands.proofs.Common.{board_of, rig_of, turn_same}
use Rattle.machine_commands.proofs.SeekRigs.{seeks, seek_idle}
use Rattle.std.proofs.Common.{arith}
use Rattle.machine_commands.proofs.Lasting.{rig_costs, seek_costs}
use Rattle.machine_commands.proofs.commands.CommandedMachineCommands.seek.Goals as goal

pub returns-clause-step : goal.returns-clause-step
returns-clause-step g c =
    seeks c.args.self.now.motors c.args.bay c.args.target (board_of g.D.Drive.state c.args.self.now) (board_of g.D.Drive.state c.step_toward.new.self) c.requires.idle c.requires.bay c.requires.target c.step_toward.ensures.sends

pub returns-clause-idle : goal.returns-clause-idle
returns-clause-idle g c =
    rw c.step_toward.ensures.motors
    (seek_idle c.args.self.now.motors c.args.bay c.args.target (board_of g.D.Drive.state c.args.self.now) (board_of g.D.Drive.state c.step_toward.new.self) c.requires.idle c.requires.bay c.requires.target
    c.step_toward.ensures.sends c.keep_ranges.ensures.first c.keep_ranges.ensures.second)

pub returns-clause-costs : goal.returns-clause-costs
returns-clause-costs g c =
    let old = board_of g.D.Drive.state c.args.self.now in
    let new = board_of g.D.Drive.state c.step_toward.new.self in
    rig_costs c.args.bay 0 81 7 81 old new (turn_same c.args.bay (rig_of old) (rig_of new) (returns-clause-step g c).moves.media) (omega arith) (seek_costs c.args.self.now.motors c.args.bay c.args.target old new c.step_toward.ensures.sends)
