-- Tracks on which each data field can be overwritten without the others.
use Rattle.std.specs.Prelude.{◌≡◌, ℕ, ◌+◌, ◌*◌, ◌<◌, ◌≤◌, List}
use Rattle.flop_base.specs.declared.key.Chrn.{Chrn}
use Rattle.track_model.specs.Cells.{cells_at, IsInside}
use Rattle.track_model.specs.Fields.{IsAddressAt, IsSizeCode, content_size}
use Rattle.track_model.specs.Sectors.{IsPlain}
use Rattle.track_model.specs.Windows.{window_place, window_end}

-- how many cells a sector's span has. It goes from the address field past all that the window and the data can reach
abbrev pub span_cells : ℕ → ℕ
span_cells n = 160 + 16 * (67 + content_size n)

-- each intact address field has a size code from 1 to 6
abbrev pub HasSizes : List ℕ → Type 0
HasSizes track = (p : ℕ) (key : Chrn) → IsAddressAt track p key → IsSizeCode key.n

-- the keys are distinct, have this cylinder and head, and size codes from 1 to 6
pub record HasKeys (track : List ℕ) (c h : ℕ) : Type 0 where
  pub distinct : (p q : ℕ) (key : Chrn) → IsAddressAt track p key → IsAddressAt track q key → p ≡ q
  pub cylinder : (p : ℕ) (key : Chrn) → IsAddressAt track p key → key.c ≡ c
  pub head : (p : ℕ) (key : Chrn) → IsAddressAt track p key → key.h ≡ h
  pub coded : HasSizes track

-- the span of each intact address field is inside the track, and no two share a cell
pub record HasSpans (track : List ℕ) : Type 0 where
  pub inside : (p : ℕ) (key : Chrn) → IsAddressAt track p key → IsInside track p (span_cells key.n)
  pub apart : (p q : ℕ) (key other : Chrn) → IsAddressAt track p key → IsAddressAt track q other
      → p < q → p + span_cells key.n ≤ q

-- no mark A1 stands between an intact address field and its window
abbrev pub HasCleanGaps : List ℕ → Type 0
HasCleanGaps track =
    (p q : ℕ) (key : Chrn) → IsAddressAt track p key → p + 160 ≤ q → q + 16 ≤ window_place p
    → cells_at track q ≡ 0x4489 → ⊥

-- no mark A1 begins in the three words after a window
abbrev pub HasCleanEnds : List ℕ → Type 0
HasCleanEnds track =
    (p q : ℕ) (key : Chrn) → IsAddressAt track p key → window_end p key.n ≤ q → q < window_end p key.n + 48
    → cells_at track q ≡ 0x4489 → ⊥

-- Spaced: the sectors of the track stand far enough apart
pub record IsSpaced (track : List ℕ) : Type 0 where
  pub plain : IsPlain track
  pub coded : HasSizes track
  pub spans : HasSpans track
  pub gaps : HasCleanGaps track
  pub ends : HasCleanEnds track

-- Regular: the sectors stand far enough apart, and each has a key of its own, of this cylinder and head
pub record IsRegular (track : List ℕ) (c h : ℕ) : Type 0 where
  pub plain : IsPlain track
  pub keys : HasKeys track c h
  pub spans : HasSpans track
  pub gaps : HasCleanGaps track
  pub ends : HasCleanEnds track
