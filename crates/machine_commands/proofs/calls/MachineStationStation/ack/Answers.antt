use Rattle.std.proofs.Common.{sym, ◌∙◌, ap, arith}
use Rattle.std.specs.Prelude.{if◌then◌else◌}
use Rattle.machine_commands.proofs.Common.{R500, rig_shown, notes_of}
use Rattle.machine_commands.proofs.Selecting.{rate_set}
use Rattle.machine_commands.proofs.StationHandling.{goes_on, flags_acked, flags_no_bay}
use Rattle.machine_commands.proofs.calls.MachineStationStation.ack.Goals as goal

pub returns-then-bay-gt1-clause-step : goal.returns-then-bay-gt1-clause-step
returns-then-bay-gt1-clause-step g c = c.ack-answer.ensures.step _ _

pub returns-then-bay-gt1-clause-counts : goal.returns-then-bay-gt1-clause-counts
returns-then-bay-gt1-clause-counts g c = goes_on _ _ _ c.ack-answer.ensures.counts

pub returns-then-bay-gt1-clause-ready : goal.returns-then-bay-gt1-clause-ready
returns-then-bay-gt1-clause-ready g c = record {
  idle = c.ack-answer.ensures.idle;
  attached = c.ack-answer.ensures.attached;
  flags = c.requires.ready.flags ∙ sym (flags_no_bay _ c.args.bay c.ack-answer.result _ (omega arith) (returns-then-bay-gt1-clause-step g c));
  spare = c.requires.ready.spare;
}

pub returns-clause-step : goal.returns-clause-step
returns-clause-step g c = c.ack-answer.ensures.step _ _

pub returns-clause-counts : goal.returns-clause-counts
returns-clause-counts g c = goes_on _ _ _ c.ack-answer.ensures.counts

pub returns-clause-ready : goal.returns-clause-ready
returns-clause-ready g c = record {
  idle = c.ack-answer.ensures.idle;
  attached = c.ack-answer.ensures.attached;
  flags = rate_set _ _ c.args.bay _ _ c.rate_after-rate.result c.set_rate.ensures c.requires.ready.flags
      (flags_acked c.ack-answer.new.self (rig_shown g.D.Drive.state c.ack-answer.new.machine) _ _ _ c.args.bay c.rate_after-rate.result c.ack-answer.result (omega arith) (returns-clause-step g c)
      (c.rate_after-rate.ensures ∙ ap (λ told. if told then (notes_of c.ack-answer.new.self c.args.bay).rate else R500) c.is_ok.ensures.value));
  spare = c.requires.ready.spare;
}
