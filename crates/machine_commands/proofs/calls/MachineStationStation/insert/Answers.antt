use Rattle.std.proofs.Common.{length, sym, ◌∙◌}
use Rattle.std.specs.Prelude.{Some}
use Rattle.machine_commands.proofs.Common.{fresh_bay, rig_shown, flags_of, all_counts}
use Rattle.machine_commands.proofs.Selecting.{flags_set}
use Rattle.machine_commands.proofs.StationHandling.{goes_on, inserts, flags_inserted, flags_given_back, attached_inserted, inserted_goes_on}
use Rattle.machine_commands.proofs.calls.MachineStationStation.insert.Goals as goal

pub returns-then-is_err-clause-step : goal.returns-then-is_err-clause-step
returns-then-is_err-clause-step g c =
    let state = g.D.Drive.state in
    let self = c.args.self.now in
    inserts self.driver (rig_shown state self.machine) (rig_shown state c.insert-answer.new.self) (length self.spare.items) (all_counts state self.spare.items) c.args.bay c.args.medium c.insert-answer.result c.insert-answer.ensures.step

pub returns-then-is_err-clause-counts : goal.returns-then-is_err-clause-counts
returns-then-is_err-clause-counts g c = goes_on _ _ _ (inserted_goes_on _ _ c.args.bay c.args.medium c.insert-answer.result c.insert-answer.ensures.step)

pub returns-then-is_err-clause-ready : goal.returns-then-is_err-clause-ready
returns-then-is_err-clause-ready g c = record {
  idle = c.insert-answer.ensures.idle c.requires.ready.idle;
  attached = attached_inserted _ _ _ c.args.bay c.args.medium c.insert-answer.result c.requires.bay c.insert-answer.ensures.step c.requires.ready.attached;
  flags = c.requires.ready.flags
      ∙ sym (flags_given_back _ c.args.bay c.args.medium c.insert-answer.result _ (sym c.is_err.ensures.value ∙ c.if-is_err.true) (returns-then-is_err-clause-step g c));
  spare = c.requires.ready.spare;
}

pub returns-clause-step : goal.returns-clause-step
returns-clause-step g c =
    let state = g.D.Drive.state in
    let self = c.args.self.now in
    inserts self.driver (rig_shown state self.machine) (rig_shown state c.insert-answer.new.self) (length self.spare.items) (all_counts state self.spare.items) c.args.bay c.args.medium c.insert-answer.result c.insert-answer.ensures.step

pub returns-clause-counts : goal.returns-clause-counts
returns-clause-counts g c = goes_on _ _ _ (inserted_goes_on _ _ c.args.bay c.args.medium c.insert-answer.result c.insert-answer.ensures.step)

pub returns-clause-ready : goal.returns-clause-ready
returns-clause-ready g c = record {
  idle = c.insert-answer.ensures.idle c.requires.ready.idle;
  attached = attached_inserted _ _ _ c.args.bay c.args.medium c.insert-answer.result c.requires.bay c.insert-answer.ensures.step c.requires.ready.attached;
  flags = flags_set _ _ c.args.bay _ _ (flags_of (fresh_bay (Some c.args.medium))) c.exchange_medium.ensures c.requires.ready.flags
      (flags_inserted _ c.args.bay c.args.medium c.insert-answer.result _ (sym c.is_err.ensures.value ∙ c.if-is_err.false) (returns-clause-step g c));
  spare = c.requires.ready.spare;
}
