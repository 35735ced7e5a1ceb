use Rattle.std.proofs.Common.{◌≡◌, take}
use Rattle.fault_plan.specs.Plan.{lists_of, plan_for}
use Rattle.fault_plan.proofs.plan.gather.Given as goal

abbrev pub invariant-loop-line : goal.invariant-loop-line
invariant-loop-line l = lists_of l.plan ≡ plan_for (take l.line-index l.lines)
