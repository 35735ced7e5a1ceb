-- What a format makes of a medium.
use Rattle.std.specs.Prelude.{◌≡◌, ℕ, Option, Some, Result, IsOk, IfErr, MatchOption}
use Rattle.flop_base.specs.Standard.{standard_code}
use Rattle.test_driver.specs.Common.{Rate, Code, NoMark, Disk, Fits, MeetsTrack, Format, Laying, IsLaying, format_keys}

-- the medium has the track under the head, at the rate
abbrev pub HasTrackOn : Option Disk → Rate → ℕ → ℕ → Type 0
HasTrackOn medium rate cylinder head = (disk : Disk) × MeetsTrack medium rate cylinder head disk

-- the medium has the track under the head, at the rate, and the sectors of the format fit on it
abbrev pub CanFormatOn : Option Disk → ℕ → Format → Type 0
CanFormatOn medium cylinder format =
    (disk : Disk) × MeetsTrack medium format.rate cylinder format.h disk
    × Fits (format_keys format) standard_code format.gap3 disk.words_per_track

-- the track under the head was laid out
pub record LaidOn (cylinder : ℕ) (format : Format) (laying : Laying) (before after : Option Disk) : Type 0 where
  pub disk : Disk
  pub made : Disk
  pub was : before ≡ Some disk
  pub is : after ≡ Some made
  pub same_rate : disk.rate ≡ format.rate
  pub here : laying.cylinder ≡ cylinder
  pub makes : IsLaying format disk laying made

-- the track was laid out in this way, or the medium is as it was
pub record FormatsOn (cylinder : ℕ) (format : Format) (laying : Option Laying) (before : Option Disk) (answer : Result (Unit {0}) Code) (after : Option Disk) : Type 0 where
  pub does : MatchOption laying (after ≡ before) (λ one. LaidOn cylinder format one before after)
  pub turn : (disk : Disk) → MeetsTrack before format.rate cylinder format.h disk
      → MatchOption laying ⊥ (λ one. one.words ≡ disk.words_per_track)
  pub fits : IsOk answer → CanFormatOn before cylinder format
  pub refused : IfErr answer (λ code. (code ≡ NoMark) × (CanFormatOn before cylinder format → ⊥))
