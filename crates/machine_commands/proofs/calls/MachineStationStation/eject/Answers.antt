use Rattle.std.proofs.Common.{sym, ◌∙◌}
use Rattle.std.specs.Prelude.{None}
use Rattle.machine_commands.proofs.Common.{fresh_bay, flags_of}
use Rattle.machine_commands.proofs.Selecting.{flags_set}
use Rattle.machine_commands.proofs.StationHandling.{is_nothing, is_something, goes_on, ejects, flags_ejected, flags_none_ejected, attached_ejected, ejected_goes_on}
use Rattle.machine_commands.proofs.calls.MachineStationStation.eject.Goals as goal

pub returns-then-is_none-clause-step : goal.returns-then-is_none-clause-step
returns-then-is_none-clause-step g c = ejects c.args.self.now.driver _ _ _ _ _ c.eject-medium.result c.eject-medium.ensures.step

pub returns-then-is_none-clause-counts : goal.returns-then-is_none-clause-counts
returns-then-is_none-clause-counts g c = goes_on _ _ _ (ejected_goes_on _ _ c.args.bay c.eject-medium.result c.eject-medium.ensures.step)

pub returns-then-is_none-clause-ready : goal.returns-then-is_none-clause-ready
returns-then-is_none-clause-ready g c = record {
  idle = c.eject-medium.ensures.idle c.requires.ready.idle;
  attached = attached_ejected _ _ _ c.args.bay c.eject-medium.result c.requires.bay c.eject-medium.ensures.step c.requires.ready.attached;
  flags = c.requires.ready.flags
      ∙ sym (flags_none_ejected _ c.args.bay c.eject-medium.result _ (is_nothing _ _ c.is_none.ensures c.if-is_none.true) (returns-then-is_none-clause-step g c));
  spare = c.requires.ready.spare;
}

pub returns-clause-step : goal.returns-clause-step
returns-clause-step g c = ejects c.args.self.now.driver _ _ _ _ _ c.eject-medium.result c.eject-medium.ensures.step

pub returns-clause-counts : goal.returns-clause-counts
returns-clause-counts g c = goes_on _ _ _ (ejected_goes_on _ _ c.args.bay c.eject-medium.result c.eject-medium.ensures.step)

pub returns-clause-ready : goal.returns-clause-ready
returns-clause-ready g c = record {
  idle = c.eject-medium.ensures.idle c.requires.ready.idle;
  attached = attached_ejected _ _ _ c.args.bay c.eject-medium.result c.requires.bay c.eject-medium.ensures.step c.requires.ready.attached;
  flags = flags_set _ _ c.args.bay _ _ (flags_of (fresh_bay None)) c.exchange_medium.ensures c.requires.ready.flags
      (flags_ejected _ c.args.bay c.eject-medium.result _ (is_something _ _ c.is_none.ensures c.if-is_none.false) (returns-clause-step g c));
  spare = c.requires.ready.spare;
}
