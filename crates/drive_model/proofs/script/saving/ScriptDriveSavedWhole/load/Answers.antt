use Rattle.std.proofs.Common.{sym}
use Rattle.drive_model.proofs.Saved.{same_script_drive}
use Rattle.drive_model.proofs.script.saving.ScriptDriveSavedWhole.load.Goals as goal

pub returns : goal.returns
returns c = record {
  gives = λ value rest fits left.
      let mechanics = c.in_ok-mechanics.ensures.gives value.mechanics _ fits left in
      let plan = c.in_ok-plan.ensures.gives value.plan _ fits mechanics.1 in
      let faults = c.load-faults.ensures.gives value.faults rest fits plan.1 in
      (same_script_drive value _ _ _ _ mechanics.0 plan.0 (sym faults.0), faults.1);
}
