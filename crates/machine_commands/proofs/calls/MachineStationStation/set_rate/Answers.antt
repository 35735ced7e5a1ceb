use Rattle.std.proofs.Common.{sym, ◌∙◌}
use Rattle.machine_commands.proofs.Selecting.{rate_set}
use Rattle.machine_commands.proofs.StationHandling.{goes_on, flags_rate_set, flags_rate_refused}
use Rattle.machine_commands.proofs.calls.MachineStationStation.set_rate.Goals as goal

pub returns-then-is_err-clause-step : goal.returns-then-is_err-clause-step
returns-then-is_err-clause-step g c = c.set_rate-answer.ensures.step _ _

pub returns-then-is_err-clause-counts : goal.returns-then-is_err-clause-counts
returns-then-is_err-clause-counts g c = goes_on _ _ _ c.set_rate-answer.ensures.counts

pub returns-then-is_err-clause-ready : goal.returns-then-is_err-clause-ready
returns-then-is_err-clause-ready g c = record {
  idle = c.set_rate-answer.ensures.idle;
  attached = c.set_rate-answer.ensures.attached;
  flags = c.requires.ready.flags
      ∙ sym (flags_rate_refused _ c.args.bay c.args.rate c.set_rate-answer.result _ (sym c.is_err.ensures.value ∙ c.if-is_err.true) (returns-then-is_err-clause-step g c));
  spare = c.requires.ready.spare;
}

pub returns-clause-step : goal.returns-clause-step
returns-clause-step g c = c.set_rate-answer.ensures.step _ _

pub returns-clause-counts : goal.returns-clause-counts
returns-clause-counts g c = goes_on _ _ _ c.set_rate-answer.ensures.counts

pub returns-clause-ready : goal.returns-clause-ready
returns-clause-ready g c = record {
  idle = c.set_rate-answer.ensures.idle;
  attached = c.set_rate-answer.ensures.attached;
  flags = rate_set _ _ c.args.bay _ _ c.args.rate c.set_rate.ensures c.requires.ready.flags
      (flags_rate_set _ c.args.bay c.args.rate c.set_rate-answer.result _ (sym c.is_err.ensures.value ∙ c.if-is_err.false) (returns-clause-step g c));
  spare = c.requires.ready.spare;
}
