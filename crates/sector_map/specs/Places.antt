-- What a regular track requires of each place.
use Rattle.std.specs.Prelude.{◌≡◌, ℕ, ◌+◌, ◌-◌, ◌<◌, ◌≤◌, List}
use Rattle.sector_map.specs.Common.{Chrn, cells_at, IsInside, IsRun, IsAddressMark, IsAddressAt, IsSizeCode, HasNoRunWithin, window_place, window_end, span_cells}

-- no run begins at or after the first of these cells and before the second
abbrev pub HasNoRun : List ℕ → ℕ → ℕ → Type 0
HasNoRun track from to = (q : ℕ) → from ≤ q → q < to → IsRun track q → ⊥

-- no mark A1 begins at or after the first of these cells and before the second
abbrev pub HasNoMark : List ℕ → ℕ → ℕ → Type 0
HasNoMark track from to = (q : ℕ) → from ≤ q → q < to → cells_at track q ≡ 0x4489 → ⊥

-- a later address field has another key, and begins behind the span of this address field
pub record IsApart (p : ℕ) (key : Chrn) (q : ℕ) (other : Chrn) : Type 0 where
  pub differs : key ≡ other → ⊥
  pub behind : p + span_cells key.n ≤ q

-- all address fields behind the one at p are apart from it
abbrev pub StandsAlone : List ℕ → ℕ → Chrn → Type 0
StandsAlone track p key = (q : ℕ) (other : Chrn) → p < q → IsAddressAt track q other → IsApart p key q other

-- what is required of an address field at p
pub record IsFieldRegular (track : List ℕ) (c h p : ℕ) (key : Chrn) : Type 0 where
  pub cylinder : key.c ≡ c
  pub head : key.h ≡ h
  pub coded : IsSizeCode key.n
  pub inside : IsInside track p (span_cells key.n)
  pub gap : HasNoMark track (p + 160) (window_place p - 15)
  pub end : HasNoMark track (window_end p key.n) (window_end p key.n + 48)
  pub alone : StandsAlone track p key

-- what is required of a place
pub record IsPlaceRegular (track : List ℕ) (c h p : ℕ) : Type 0 where
  pub plain : IsAddressMark track p → HasNoRunWithin track p
  pub field : (key : Chrn) → IsAddressAt track p key → IsFieldRegular track c h p key
