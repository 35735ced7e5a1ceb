-- Plans of more lines.
use Rattle.std.proofs.Common.{◌≡◌, ℕ, ◌+◌, ◌<◌, List, [], ◌∷◌, ◌++◌, length, take, get_or}
use Rattle.std.proofs.lemmas.Grind.{flat_map-append}
use Rattle.std.proofs.lemmas.List.{take_more}
use Rattle.std.proofs.lemmas.List.Elements.{filter_map-append}
use Rattle.fault_plan.specs.Plan.{Plan, plan_for, joined}
use Rattle.fault_plan.specs.declared.line.PlanLine.{PlanLine}

-- the plan of all lines: what the first lines say, and then what the others say
pub plan_for_append : (first others : List PlanLine)
    → plan_for (first ++ others) ≡ joined (plan_for first) (plan_for others)
unfolding plan_for
plan_for_append first others = simp (filter_map-append, flat_map-append)

-- the plan of the lines up to line i: what the lines before it say, and then what line i says
pub plan_for_more : (lines : List PlanLine) (i : ℕ) (d : PlanLine) (kept more : Plan) → i < length lines
    → kept ≡ plan_for (take i lines) → more ≡ joined kept (plan_for (get_or lines i d ∷ []))
    → more ≡ plan_for (take (i + 1) lines)
plan_for_more lines i d kept more within before e =
    let taken = take_more lines i d within in
    let both = plan_for_append (take i lines) (get_or lines i d ∷ []) in
    rw (taken, both, ← before) e
