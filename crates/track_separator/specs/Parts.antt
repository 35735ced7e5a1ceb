-- A part of a revolution and the whole of it.
use Rattle.std.specs.Prelude.{◌≡◌, ℕ, ◌+◌, ◌*◌, ◌<◌, ◌≤◌, Bool, true, false, List, [], ◌∷◌, ◌++◌, length, slice_index}

-- the words of a revolution so far are `fed`, and then one more comes
abbrev pub with_word : List ℕ → ℕ → List ℕ
with_word fed word = fed ++ word ∷ []

-- the words since the index; there are none if the index came after this word
abbrev pub turn_after : Bool → List ℕ → ℕ → List ℕ
turn_after true fed word = []
turn_after false fed word = with_word fed word

-- what ends before the cell `end` has its last cell in the last word
pub record EndsInLast (fed : List ℕ) (end : ℕ) : Type 0 where
  pub inside : end ≤ 16 * length fed
  pub last : 16 * length fed < end + 16

-- a revolution begins with these words
pub record IsPart (fed whole : List ℕ) : Type 0 where
  pub longer : length fed ≤ length whole
  pub same : (k : ℕ) → k < length fed → slice_index whole k ≡ slice_index fed k
