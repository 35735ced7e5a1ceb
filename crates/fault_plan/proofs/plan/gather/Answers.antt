use Rattle.fault_plan.proofs.Plans.{plan_for_more}
use Rattle.fault_plan.proofs.plan.gather.Goals as goal

pub loop-line-preserved : goal.loop-line-preserved
loop-line-preserved c =
    plan_for_more _ _ _ _ _ c.loop-line-test.true c.loop-line.invariant c.in_ok-add.ensures
