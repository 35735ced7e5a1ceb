use Rattle.std.proofs.Common.{◌≡◌, ◌++◌, replicate}
use Rattle.fault_plan.proofs.plan.push_copies.Given as goal

abbrev pub invariant-loop : goal.invariant-loop
invariant-loop g l = l.items.items ≡ l.initial.items.items ++ replicate l.counter l.item
