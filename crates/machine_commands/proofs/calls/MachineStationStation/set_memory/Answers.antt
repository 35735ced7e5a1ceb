use Rattle.std.proofs.Common.{length}
use Rattle.machine_commands.proofs.Common.{all_counts}
use Rattle.machine_commands.proofs.StationHandling.{goes_on, sets_memory, flags_memory, attached_memory}
use Rattle.machine_commands.proofs.calls.MachineStationStation.set_memory.Goals as goal

pub returns-clause-step : goal.returns-clause-step
returns-clause-step g c = sets_memory c.args.self.now.driver _ _ _ _ _ _ c.set_memory.ensures.step

pub returns-clause-size : goal.returns-clause-size
returns-clause-size g c = c.hold_size.ensures

pub returns-clause-counts : goal.returns-clause-counts
returns-clause-counts g c = goes_on _ _ _ c.set_memory.ensures.step.counts

pub returns-clause-ready : goal.returns-clause-ready
returns-clause-ready g c =
    let self = c.args.self.now in
    record {
      idle = c.set_memory.ensures.idle c.requires.ready.idle;
      attached = attached_memory _ _ _ c.args.address c.args.byte c.set_memory.ensures.step c.requires.ready.attached;
      flags = flags_memory self.driver _ _ (length self.spare.items) (all_counts g.D.Drive.state self.spare.items) c.args.address c.args.byte self.flags c.set_memory.ensures.step c.requires.ready.flags;
      spare = c.requires.ready.spare;
    }
