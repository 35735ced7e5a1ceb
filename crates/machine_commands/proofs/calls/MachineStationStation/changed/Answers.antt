use Rattle.std.proofs.Common.{sym, ◌∙◌}
use Rattle.machine_commands.proofs.StationHandling.{goes_on, flags_told}
use Rattle.machine_commands.proofs.calls.MachineStationStation.changed.Goals as goal

pub returns-clause-step : goal.returns-clause-step
returns-clause-step g c = c.changed.ensures.step _ _

pub returns-clause-counts : goal.returns-clause-counts
returns-clause-counts g c = goes_on _ _ _ c.changed.ensures.counts

pub returns-clause-ready : goal.returns-clause-ready
returns-clause-ready g c = record {
  idle = c.changed.ensures.idle;
  attached = c.changed.ensures.attached;
  flags = c.requires.ready.flags ∙ sym (flags_told _ c.args.bay c.changed.result _ (returns-clause-step g c));
  spare = c.requires.ready.spare;
}
