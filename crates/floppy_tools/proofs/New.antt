-- Runs on a new machine.
use Rattle.std.proofs.Common.{◌≡◌, ℕ, List, [], ◌∷◌, ap, subst, Option, Some, None}
use Rattle.std.specs.Prelude.{IfSome, IsSomeAnd, Ok}
use Rattle.floppy_tools.proofs.Common.{Files, file_at, Status, DriveState, Plan, plan_spelled, all_counts, Outside}
use Rattle.drive_model.specs.ScriptDrive.{script_state}
use Rattle.drive_model.specs.declared.script.ScriptDrive.{ScriptDrive}
use Rattle.pc_bus.specs.declared.machine.MachineOf.{MachineOf}
use Rattle.floppy_tools.specs.Runs.{parts_of, RunsNew, RunsPlanned}

-- what is counted of two spare drives
pub counts_of_spares : {D : Type 0} (state : D → DriveState) (drives : List D) (first second : D) → drives ≡ first ∷ second ∷ [] → all_counts state drives ≡ all_counts (λ drive. drive) (state first ∷ state second ∷ [])
counts_of_spares state drives first second same = ap (all_counts state) same

-- reading the plan left the files and the report
pub as_planned : (name : List ℕ) (words : List (List ℕ)) (plan : Plan) (told mid_told : Option Files) (report mid_report : Option (List (List ℕ))) (machine : Option (MachineOf ScriptDrive)) (after : Outside) (ended : Status) → IfSome told (λ files. IsSomeAnd (file_at files name) (λ text. plan_spelled text ≡ Ok plan)) → mid_told ≡ told → mid_report ≡ report → IfSome machine (λ left. RunsNew script_state (parts_of plan) words (record { files = mid_told; report = mid_report }) left after ended) → IfSome machine (λ left. RunsPlanned name words (record { files = told; report = report }) left after ended)
as_planned name words plan told mid_told report mid_report None after ended spelled same_files same_report runs = tt
as_planned name words plan told mid_told report mid_report (Some left) after ended spelled same_files same_report runs = record {
  plan = plan;
  spelled = spelled;
  runs = subst (λ files. RunsNew script_state (parts_of plan) words (record { files = files; report = report }) left after ended) same_files
      (subst (λ report. RunsNew script_state (parts_of plan) words (record { files = mid_told; report = report }) left after ended) same_report runs);
}
