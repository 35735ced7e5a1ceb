use Rattle.std.proofs.Common.{sym, ◌∙◌}
use Rattle.machine_commands.proofs.StationHandling.{goes_on, flags_read}
use Rattle.machine_commands.proofs.calls.MachineStationStation.read.Goals as goal

pub returns-clause-step : goal.returns-clause-step
returns-clause-step g c = c.read.ensures.step _ _

pub returns-clause-counts : goal.returns-clause-counts
returns-clause-counts g c = goes_on _ _ _ c.read.ensures.counts

pub returns-clause-ready : goal.returns-clause-ready
returns-clause-ready g c = record {
  idle = c.read.ensures.idle;
  attached = c.read.ensures.attached;
  flags = c.requires.ready.flags ∙ sym (flags_read _ c.args.bay c.args.key c.args.address c.read.result _ (returns-clause-step g c));
  spare = c.requires.ready.spare;
}
