-- Sectors of a track, and when no field of it can be mistaken.
use Rattle.std.specs.Prelude.{◌≡◌, ℕ, ◌+◌, ◌<◌, ◌≤◌, Bool, List}
use Rattle.flop_base.specs.declared.key.Chrn.{Chrn}
use Rattle.track_model.specs.declared.Look.TheVariants.{Found}
use Rattle.track_model.specs.Marks.{IsRun, IsAddressMark}
use Rattle.track_model.specs.Fields.{IsAddressAt, IsDataMark, IsWhole, content_at}
use Rattle.track_model.specs.Looks.{LookAt}

-- some address field of the key has this mark and this content, by its first data mark
abbrev pub IsSector : List ℕ → Chrn → Bool → List ℕ → Type 0
IsSector track key deleted content =
    (p : ℕ) × (place : ℕ) × IsAddressAt track p key × LookAt track p key.n (Found deleted place)
    × (content ≡ content_at track place key.n)

-- some address field of the key has this mark and this content, by any of its data marks
abbrev pub IsUnder : List ℕ → Chrn → Bool → List ℕ → Type 0
IsUnder track key deleted content =
    (p : ℕ) × (q : ℕ) × IsAddressAt track p key × IsDataMark track p q deleted × IsWhole track q key.n content

-- the address field at p has at most one data mark
abbrev pub IsLone : List ℕ → ℕ → Type 0
IsLone track p =
    (q r : ℕ) (deleted other : Bool) → IsDataMark track p q deleted → IsDataMark track p r other → q ≡ r

-- no run begins between the mark byte of an address mark at p and the end of its field
abbrev pub HasNoRunWithin : List ℕ → ℕ → Type 0
HasNoRunWithin track p = (q : ℕ) → p + 48 ≤ q → q < p + 160 → IsRun track q → ⊥

-- a track is Plain if no run begins within an address field
abbrev pub IsPlain : List ℕ → Type 0
IsPlain track = (p : ℕ) → IsAddressMark track p → HasNoRunWithin track p

-- an address mark at p is Clear if no run begins within its field, and the mark begins within no other field
pub record IsClear (track : List ℕ) (p : ℕ) : Type 0 where
  pub mark : IsAddressMark track p
  pub inner : HasNoRunWithin track p
  pub outer : (k : ℕ) → IsAddressMark track k → k + 48 ≤ p → p < k + 160 → ⊥
