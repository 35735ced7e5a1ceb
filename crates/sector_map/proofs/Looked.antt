-- Steps of the searches for a data mark and for an address field.
use Rattle.std.proofs.Common.{◌≡◌, ℕ, ◌+◌, ◌-◌, ◌*◌, ◌<◌, ◌≤◌, Bool, false, Option, None, Some, is_some, MatchOption, List, length, min, subst, arith, inl, inr}
use Rattle.sector_map.proofs.Common.{cases_lt, Chrn, IsDataMark, data_cells, IsFirstDataMark, HasDataField, one_first}

-- what doesn't hold below a place, nor at it, doesn't hold below the next place
pub none_more : (P : ℕ → Type 0) (p : ℕ) → ((k : ℕ) → k < p → P k → ⊥) → (P p → ⊥) → (k : ℕ) → k < p + 1 → P k → ⊥
none_more P p below here k h held =
    elim (cases_lt k p) [
      | inl lower ↦ below k lower held
      | inr upper ↦ let e : k ≡ p = omega arith in here (subst P e held)
    ]

-- if no data mark begins up to the end of its reach, or of the track, the address field has none
pub no_data_mark : (track : List ℕ) (p past q : ℕ) → past ≡ min (p + 160 + 960) (16 * length track - 63) → past ≤ q → ((k : ℕ) (deleted : Bool) → k < q → IsDataMark track p k deleted → ⊥) → (k : ℕ) (deleted : Bool) → IsDataMark track p k deleted → ⊥
no_data_mark track p past q e h below k deleted mark =
    let near = mark.near in
    let inside = mark.run.sound.inside in
    below k deleted (omega arith) mark

-- the data field of the first data mark isn't wholly inside the track
pub field_outside : (track : List ℕ) (p n q : ℕ) (deleted : Bool) → IsFirstDataMark track p q deleted → 16 * length track < q + data_cells n → (k : ℕ) (other : Bool) → HasDataField track p n k other → ⊥
field_outside track p n q deleted first outside k other field =
    let same = one_first track p k q other deleted field.first first in
    let inside = field.inside in
    absurd (omega arith)

-- if no key was given for something, it has no key
pub none_given : (given : Option Chrn) (P : Chrn → Type 0) → is_some given ≡ false → MatchOption given ((key : Chrn) → P key → ⊥) P → (key : Chrn) → P key → ⊥
none_given None P e none = none
none_given (Some found) P e is = cc
