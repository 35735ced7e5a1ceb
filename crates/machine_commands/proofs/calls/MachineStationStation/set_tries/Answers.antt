use Rattle.std.proofs.Common.{length, sym, ap, ◌∙◌}
use Rattle.machine_commands.proofs.Common.{goes_on_itself, rig_shown, flags_shown, all_counts, station_shown}
use Rattle.machine_commands.proofs.calls.MachineStationStation.set_tries.Goals as goal

pub returns-clause-step : goal.returns-clause-step
returns-clause-step g c =
    let state = g.D.Drive.state in
    let self = c.args.self.now in
    c.set_tries.ensures.step (rig_shown state self.machine) (length self.spare.items) (all_counts state self.spare.items)

pub returns-clause-counts : goal.returns-clause-counts
returns-clause-counts g c = goes_on_itself (station_shown g.D.Drive.state c.args.self.now).counters

pub returns-clause-ready : goal.returns-clause-ready
returns-clause-ready g c =
    let state = g.D.Drive.state in
    let self = c.args.self.now in
    let step = c.set_tries.ensures.step (rig_shown state self.machine) (length self.spare.items) (all_counts state self.spare.items) in
    record {
      idle = c.requires.ready.idle;
      attached = c.set_tries.ensures.attached (rig_shown state self.machine) c.requires.ready.attached;
      flags = c.requires.ready.flags ∙ sym (ap flags_shown step.becomes);
      spare = c.requires.ready.spare;
    }
