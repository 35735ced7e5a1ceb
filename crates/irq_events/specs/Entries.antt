-- The lists of a machine's timing (pace), used up from their front.
use Rattle.std.specs.Prelude.{◌≡◌, ℕ, zero, suc, ◌-◌, Bool, false, nat_le, if◌then◌else◌, List, [], ◌∷◌, Option, Some, None}

-- the next entry, 0 where none is left
abbrev pub next_entry : List ℕ → ℕ
next_entry [] = 0
next_entry (entry ∷ _) = entry

-- the entries after it
abbrev pub rest_of : List ℕ → List ℕ
rest_of [] = []
rest_of (_ ∷ rest) = rest

-- a spurious interrupt comes in this device step: the first entry counts the steps to it, this one included, and 0
-- counts as 1
abbrev pub is_stray_due : List ℕ → Bool
is_stray_due [] = false
is_stray_due (steps ∷ _) = nat_le steps 1

-- the spurious interrupts that are to come after this device step
abbrev pub strays_after : List ℕ → List ℕ
strays_after [] = []
strays_after (steps ∷ rest) = if nat_le steps 1 then rest else (steps - 1) ∷ rest

-- the spurious interrupts that are to come: the next one and those after it
abbrev pub coming : Option ℕ → List ℕ → List ℕ
coming None rest = []
coming (Some steps) rest = steps ∷ rest

-- no spurious interrupt comes in so many device steps
unfoldable pub AreQuiet : ℕ → List ℕ → Type 0
AreQuiet zero strays = Unit {0}
AreQuiet (suc count) strays = (is_stray_due strays ≡ false) × AreQuiet count (strays_after strays)

-- the spurious interrupts that are to come after so many device steps
unfoldable pub strays_later : ℕ → List ℕ → List ℕ
strays_later zero strays = strays
strays_later (suc count) strays = strays_later count (strays_after strays)
