use Rattle.drive_model.proofs.Saved.{each_fits}
use Rattle.drive_model.proofs.plan.saving.PlanSavedWhole.load.Goals as goal

pub returns : goal.returns
returns c = record { gives = λ value rest fits left. c.in_ok-faults.ensures value rest (each_fits value) left }
