-- What is made by the text of a plan.
use Rattle.std.specs.Prelude.{◌≡◌, ◌==◌, ℕ, List, Option, None, Ok, Err, MatchBool}
use Rattle.telwyddus_c.specs.Common.{Plan, plan_spelled}
use Rattle.telwyddus_c.specs.Slots.{Fills}

-- a text spells a plan, and this is what the plan makes
abbrev pub IsPlannedBy : {V : Type 0} → (Plan → V → Type 0) → List ℕ → V → Type 0
IsPlannedBy planned text value = (plan : Plan) × (plan_spelled text ≡ Ok plan) × planned plan value

-- a slot is filled with what the text's plan makes. The codes 0, 2 and 3 are as for any slot. If the slot is empty and
-- the text is no plan, the code is 9: the number of its first bad line is reported, and the slot stays
abbrev pub FillsPlanned : {V : Type 0} → (Plan → V → Type 0) → List ℕ → ℕ → (was line : ℕ) → Option V → Option V → Type 0
FillsPlanned planned text code was line old new =
    MatchBool (code == 9) ((old ≡ None) × (plan_spelled text ≡ Err line) × (new ≡ old)) (Fills (IsPlannedBy planned text) code old new × (line ≡ was))
