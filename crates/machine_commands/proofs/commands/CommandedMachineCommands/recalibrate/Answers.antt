use Rattle.machine_commands.proofs.Common.{board_of, rig_of, turn_same}
use Rattle.machine_commands.proofs.SeekRigs.{recalibrates, recalibrate_idle}
use Rattle.std.proofs.Common.{arith}
use Rattle.machine_commands.proofs.Lasting.{rig_costs, recalibrate_costs}
use Rattle.machine_commands.proofs.commands.CommandedMachineCommands.recalibrate.Goals as goal

pub returns-clause-step : goal.returns-clause-step
returns-clause-step g c =
    recalibrates c.args.self.now.motors c.args.bay c.step_outward-status.result (board_of g.D.Drive.state c.args.self.now) (board_of g.D.Drive.state c.step_outward-status.new.self)
    c.requires.idle c.requires.bay c.step_outward-status.ensures.sends

pub returns-clause-idle : goal.returns-clause-idle
returns-clause-idle g c =
    rw c.step_outward-status.ensures.motors
    (recalibrate_idle c.args.self.now.motors c.args.bay c.step_outward-status.result (board_of g.D.Drive.state c.args.self.now) (board_of g.D.Drive.state c.step_outward-status.new.self)
    c.requires.idle c.requires.bay c.step_outward-status.ensures.sends c.keep_ranges.ensures.first c.keep_ranges.ensures.second)

pub returns-clause-costs : goal.returns-clause-costs
returns-clause-costs g c =
    let old = board_of g.D.Drive.state c.args.self.now in
    let new = board_of g.D.Drive.state c.step_outward-status.new.self in
    rig_costs c.args.bay 0 81 6 81 old new (turn_same c.args.bay (rig_of old) (rig_of new) (returns-clause-step g c).moves.media) (omega arith) (recalibrate_costs c.args.self.now.motors c.args.bay c.step_outward-status.result old new c.step_outward-status.ensures.sends)
