use Rattle.std.proofs.Common.{List, refl, subst}
use Rattle.telwyddus_c.proofs.Common.{Fault, lists_of, Replans}
use Rattle.telwyddus_c.proofs.controller.drives.plan_bay.Goals as goal

pub returns-in-Ok : goal.returns-in-Ok
returns-in-Ok c = (
  lists_of c.in-Ok.plan,
  c.in-Ok.ensures,
  refl,
  subst (λ (faults : List Fault). Replans c.args.bay faults c.args.controller.now c.replan.new.controller) c.faults_for-faults.ensures c.replan.ensures,
)
