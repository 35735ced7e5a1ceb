-- A window that is put on a track, and what a write makes of a medium.
use Rattle.std.specs.Prelude.{◌≡◌, ℕ, ◌+◌, ◌≤◌, Bool, List, length, Option, Some, Result, IsOk, IfErr, MatchBool, MatchOption, ◌⊎◌}
use Rattle.test_driver.specs.Common.{Chrn, Rate, Code, Disk, IsWithTrack, track_of, IsAddressAt, HasAddressMark, met_in, Change, Written, window_of, IsChange, IsWriteCode, IsWriteReason}
use Rattle.flop_base.specs.declared.answers.Code.TheVariants as code
use Rattle.track_model.specs.Windows.{window_word, window_words, cut_of, IsCuttable}
use Rattle.test_driver.specs.Found.{IsUnderHead}

-- the medium has the first k of these words at the window's place of the address field at p
pub record IsCutTo (c h p k : ℕ) (words : List ℕ) (before after : Disk) : Type 0 where
  pub cuttable : IsCuttable (track_of before c h) p k words
  pub cut : IsWithTrack before c h (cut_of (track_of before c h) p k words) after

-- those of the words that are inside the track were put there; the answer says whether all are inside
abbrev pub PutsWindow : ℕ → ℕ → ℕ → List ℕ → Disk → Bool → Disk → Type 0
PutsWindow c h p words before whole after =
    MatchBool whole (IsCutTo c h p (length words) words before after)
    ((window_word p + length words ≤ length (track_of before c h) → ⊥)
    × ((after ≡ before) ⊎ ((k : ℕ) × IsCutTo c h p k words before after)))

-- the track under the head has an address field of the key at a place
pub record HasFieldOn (medium : Option Disk) (rate : Rate) (cylinder : ℕ) (key : Chrn) (p : ℕ) : Type 0 where
  pub track : List ℕ
  pub under : IsUnderHead medium rate cylinder key.h track
  pub address : IsAddressAt track p key

-- the track has no address field of the key; the refusal says whether it has an address mark
pub record IsAbsent (track : List ℕ) (key : Chrn) (answer : Code) : Type 0 where
  pub none : (p : ℕ) → IsAddressAt track p key → ⊥
  pub by_code : ((answer ≡ code.NoMark) × (HasAddressMark track → ⊥)) ⊎ ((answer ≡ code.NotFound) × HasAddressMark track)

-- the medium was changed behind an address field of the key, on the track under the head
pub record ChangesOn (rate : Rate) (cylinder : ℕ) (written : Written) (change : Change) (before after : Option Disk) : Type 0 where
  pub disk : Disk
  pub made : Disk
  pub was : before ≡ Some disk
  pub is : after ≡ Some made
  pub same_rate : disk.rate ≡ rate
  pub here : change.cylinder ≡ cylinder
  pub makes : IsChange written disk change made
  pub whole : window_word change.place + window_words written.key.n ≤ disk.words_per_track
      → change.words ≡ length (window_of written)

-- a write is refused by what is on the track
pub record IsWriteRefusal (track : List ℕ) (key : Chrn) (answer : Code) : Type 0 where
  pub coded : IsWriteCode answer
  pub reason : IsWriteReason track key answer
  pub no_overrun : answer ≡ code.Overrun → ⊥

-- the medium was changed in this way, or not at all
pub record WritesOn (rate : Rate) (cylinder : ℕ) (written : Written) (change : Option Change) (before : Option Disk) (answer : Result (Unit {0}) Code) (after : Option Disk) : Type 0 where
  pub does : MatchOption change (after ≡ before) (λ one. ChangesOn rate cylinder written one before after)
  pub done : IsOk answer → MatchOption change ⊥ (λ one. one.words ≡ length (window_of written))
  pub refused : IfErr answer (λ refusal. IsWriteRefusal (met_in after rate cylinder written.key.h) written.key refusal)
