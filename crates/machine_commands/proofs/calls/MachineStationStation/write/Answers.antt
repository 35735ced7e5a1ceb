use Rattle.std.proofs.Common.{sym, ◌∙◌}
use Rattle.machine_commands.proofs.StationHandling.{goes_on, flags_write}
use Rattle.machine_commands.proofs.calls.MachineStationStation.write.Goals as goal

pub returns-clause-step : goal.returns-clause-step
returns-clause-step g c = c.write.ensures.step _ _

pub returns-clause-counts : goal.returns-clause-counts
returns-clause-counts g c = goes_on _ _ _ c.write.ensures.counts

pub returns-clause-ready : goal.returns-clause-ready
returns-clause-ready g c = record {
  idle = c.write.ensures.idle;
  attached = c.write.ensures.attached;
  flags = c.requires.ready.flags ∙ sym (flags_write _ c.args.bay c.args.key c.args.address c.args.deleted c.write.result _ (returns-clause-step g c));
  spare = c.requires.ready.spare;
}
