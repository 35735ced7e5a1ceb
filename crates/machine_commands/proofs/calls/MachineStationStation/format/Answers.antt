use Rattle.std.proofs.Common.{sym, ◌∙◌}
use Rattle.machine_commands.proofs.StationHandling.{goes_on, flags_format}
use Rattle.machine_commands.proofs.calls.MachineStationStation.format.Goals as goal

pub returns-clause-step : goal.returns-clause-step
returns-clause-step g c = c.format.ensures.step _ _

pub returns-clause-counts : goal.returns-clause-counts
returns-clause-counts g c = goes_on _ _ _ c.format.ensures.counts

pub returns-clause-ready : goal.returns-clause-ready
returns-clause-ready g c = record {
  idle = c.format.ensures.idle;
  attached = c.format.ensures.attached;
  flags = c.requires.ready.flags ∙ sym (flags_format _ c.args.bay c.args.c c.args.h c.args.gap3 c.args.fill c.format.result _ (returns-clause-step g c));
  spare = c.requires.ready.spare;
}
