use Rattle.machine_commands.proofs.Common.{board_of, rig_of, turn_same}
use Rattle.machine_commands.proofs.Statuses.{resets_all, resets_idle}
use Rattle.std.proofs.Common.{arith}
use Rattle.machine_commands.proofs.Lasting.{rig_costs, resets_cost}
use Rattle.machine_commands.proofs.commands.CommandedMachineCommands.reset.Goals as goal

pub returns-clause-resets : goal.returns-clause-resets
returns-clause-resets g c = resets_all (board_of g.D.Drive.state c.args.self.now) (board_of g.D.Drive.state c.set_up.new.self) c.set_up.ensures.resets

pub returns-clause-idle : goal.returns-clause-idle
returns-clause-idle g c =
    rw c.set_up.ensures.motors
    (resets_idle (board_of g.D.Drive.state c.args.self.now) (board_of g.D.Drive.state c.set_up.new.self) c.set_up.ensures.resets
    c.keep_ranges.ensures.first c.keep_ranges.ensures.second)

pub returns-clause-costs : goal.returns-clause-costs
returns-clause-costs g c =
    let old = board_of g.D.Drive.state c.args.self.now in
    let new = board_of g.D.Drive.state c.set_up.new.self in
    rig_costs 0 0 2 22 2 old new (turn_same 0 (rig_of old) (rig_of new) (returns-clause-resets g c).media) (omega arith) (resets_cost old new c.set_up.ensures.resets)
