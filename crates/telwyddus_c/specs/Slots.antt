-- What a call makes of a slot, by the code that it answers. No call answers a code that isn't named.
use Rattle.std.specs.Prelude.{◌≡◌, ◌≤◌, ◌<◌, ℕ, ◌==◌, Option, None, Some, IsSome, MatchBool, ⊤}

-- a call is done, 0, or refused by one other code
abbrev pub DoneOr : (refusal code : ℕ) → Type 0 → Type 0 → Type 0
DoneOr refusal code done refused = MatchBool (code == 0) done (MatchBool (code == refusal) refused ⊥)

-- a call on what a slot holds. If the slot holds nothing, the code is 1. The slot then stays empty, and so does all
-- else stay
abbrev pub Serves : {V : Type 0} → (ℕ → V → V → Type 0) → Type 0 → ℕ → Option V → Option V → Type 0
Serves called stays code None new = (code ≡ 1) × (new ≡ None) × stays
Serves {V} called stays code (Some old) new = (after : V) × (new ≡ Some after) × called code old after

-- a call that fills a slot. If the slot holds something already, the code is 2, whatever was asked. The slot then
-- stays, and so does all else. Each other code is that of an empty slot
abbrev pub FullOr : {V : Type 0} → (code : ℕ) → Option V → Option V → (stays filled : Type 0) → Type 0
FullOr code old new stays filled = MatchBool (code == 2) (IsSome old × (new ≡ old) × stays) ((old ≡ None) × filled)

-- an empty slot is filled: code 0. If memory is out, the code is 3 and the slot stays
abbrev pub Fills : {V : Type 0} → (V → Type 0) → ℕ → Option V → Option V → Type 0
Fills {V} made code old new =
    FullOr code old new ⊤
    (MatchBool (code == 0) ((value : V) × (new ≡ Some value) × made value)
    (MatchBool (code == 3) (new ≡ old) ⊥))

-- what a slot holds is freed: code 0. If the slot holds nothing, the code is 1
abbrev pub Frees : {V : Type 0} → ℕ → Option V → Option V → Type 0
Frees code old new = DoneOr 1 code (IsSome old × (new ≡ None)) ((old ≡ None) × (new ≡ None))

-- what a slot holds goes into another slot: code 0. If the other slot holds something already, the code is 2, and if
-- there is nothing to move, it is 1. Then both slots stay
abbrev pub Moves : {V : Type 0} → (code : ℕ) → (from left to got : Option V) → Type 0
Moves code from left to got =
    FullOr code to got (left ≡ from) (DoneOr 1 code (IsSome from × (left ≡ None) × (got ≡ from)) ((from ≡ None) × (left ≡ None) × (got ≡ None)))

-- a bay is 0 or 1. For any other number the code is 4, and all stays
pub record InBay (bay code : ℕ) (stays served : Type 0) : Type 0 where
  pub out_of_range : 1 < bay → (code ≡ 4) × stays
  pub within : bay ≤ 1 → served
