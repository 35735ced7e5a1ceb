-- Commands that write.
use Rattle.std.specs.Prelude.{◌≡◌, ℕ, ◌+◌, ◌-◌, ◌≤◌, List, length, Option, Some, Result, IsOk, IfErr, MatchOption, ◌⊎◌}
use Rattle.floppy_driver.specs.Common.{RoseBy, standard_code, Chrn, Rate, Code, NoMark, NotFound, Overrun, Disk, HasTrack, IsAddressAt, HasAddressMark, window_word, window_words, in_bay, Counters, IsFaultless, IsUndisturbed, GoesOn, IsDriven, HasNoClearMark, HasClearAddress, Change, Written, window_of, IsChange, Format, Laying, IsLaying, format_keys}
use Rattle.track_model.specs.Layouts.{Fits}
use Rattle.floppy_driver.specs.Rigs.{Rig, track_under, HeadsStay}

-- one data command that changed no memory but the driver's page, and no medium but that of a bay
pub record SendsWrite (bay : ℕ) (old new : Rig) : Type 0 where
  pub heads : HeadsStay old new
  pub other_medium : in_bay new.media (1 - bay) ≡ in_bay old.media (1 - bay)
  pub memory : new.memory ≡ old.memory
  pub counts : GoesOn old.counters new.counters
  pub driven : IsDriven 1 old.counters new.counters
  pub command : RoseBy 1 old.counters.data_commands new.counters.data_commands

-- ---- WRITE DATA and WRITE DELETED DATA

-- the medium was changed behind an address field of the key, on the track under the head
pub record ChangesMedium (bay : ℕ) (rate : Rate) (written : Written) (change : Change) (old new : Rig) : Type 0 where
  pub before : Disk
  pub after : Disk
  pub was : in_bay old.media bay ≡ Some before
  pub is : in_bay new.media bay ≡ Some after
  pub same_rate : before.rate ≡ rate
  pub here : change.cylinder ≡ in_bay old.cylinders bay
  pub makes : IsChange written before change after
  pub whole : IsUndisturbed bay old.counters new.counters
      → window_word change.place + window_words written.key.n ≤ before.words_per_track
      → change.words ≡ length (window_of written)

-- some address field of the key has a window that isn't inside the track
abbrev pub HasWindowOut : List ℕ → Chrn → Type 0
HasWindowOut track key = (p : ℕ) × IsAddressAt track p key × (window_word p + window_words key.n ≤ length track → ⊥)

-- what the track has to be, after the write, for an undisturbed write to be refused with this code
abbrev pub IsWriteReason : List ℕ → Chrn → Code → Type 0
IsWriteReason track key NoMark = HasNoClearMark track ⊎ HasWindowOut track key
IsWriteReason track key NotFound = HasAddressMark track × (HasClearAddress track key → ⊥)
IsWriteReason track key _ = ⊥

-- the refusals of a write
abbrev pub IsWriteCode : Code → Type 0
IsWriteCode NoMark = Unit {0}
IsWriteCode NotFound = Unit {0}
IsWriteCode Overrun = Unit {0}
IsWriteCode _ = ⊥

-- a write of the key was refused
pub record IsWriteMiss (track : List ℕ) (key : Chrn) (bay : ℕ) (old : Counters) (code : Code) (new : Counters) : Type 0 where
  pub coded : IsWriteCode code
  pub reason : IsUndisturbed bay old new → IsWriteReason track key code
  pub overrun : code ≡ Overrun → RoseBy 1 old.stalls new.stalls

-- a write: the medium in the bay was changed by `change`, or not at all
pub record WritesData (bay : ℕ) (rate : Rate) (written : Written) (change : Option Change) (old : Rig) (answer : Result (Unit {0}) Code) (new : Rig) : Type 0 where
  pub sends : SendsWrite bay old new
  pub does : MatchOption change (new.media ≡ old.media) (λ one. ChangesMedium bay rate written one old new)
  pub done : IsOk answer → IsFaultless bay old.counters new.counters
      → MatchOption change ⊥ (λ one. one.words ≡ length (window_of written))
  pub refused : IfErr answer (λ code. IsWriteMiss (track_under new bay rate written.key.h) written.key bay old.counters code new.counters)
  pub page : new.page ≡ old.page

-- ---- FORMAT TRACK

-- the track under the head was laid
pub record LaysMedium (bay : ℕ) (format : Format) (laying : Laying) (old new : Rig) : Type 0 where
  pub before : Disk
  pub after : Disk
  pub was : in_bay old.media bay ≡ Some before
  pub is : in_bay new.media bay ≡ Some after
  pub same_rate : before.rate ≡ format.rate
  pub here : laying.cylinder ≡ in_bay old.cylinders bay
  pub makes : IsLaying format before laying after

-- the medium in the bay has the track under the head, at the rate of the format
pub record HasTrackUnder (rig : Rig) (bay : ℕ) (format : Format) (disk : Disk) : Type 0 where
  pub medium : in_bay rig.media bay ≡ Some disk
  pub track : HasTrack disk (in_bay rig.cylinders bay) format.h
  pub same_rate : disk.rate ≡ format.rate

-- and the sectors fit on that track
abbrev pub CanFormatUnder : Rig → ℕ → Format → Type 0
CanFormatUnder rig bay format =
    (disk : Disk) × HasTrackUnder rig bay format disk × Fits (format_keys format) standard_code format.gap3 disk.words_per_track

-- the refusals of a format
abbrev pub IsFormatCode : Code → Type 0
IsFormatCode NoMark = Unit {0}
IsFormatCode Overrun = Unit {0}
IsFormatCode _ = ⊥

-- a format was refused
pub record IsFormatMiss (bay : ℕ) (format : Format) (old : Rig) (code : Code) (new : Rig) : Type 0 where
  pub coded : IsFormatCode code
  pub reason : IsUndisturbed bay old.counters new.counters → (code ≡ NoMark) × (CanFormatUnder old bay format → ⊥)
  pub overrun : code ≡ Overrun → RoseBy 1 old.counters.stalls new.counters.stalls

-- a format: the track under the head was laid by `laying`, or the medium is as it was
pub record FormatsTrack (bay : ℕ) (format : Format) (laying : Option Laying) (old : Rig) (answer : Result (Unit {0}) Code) (new : Rig) : Type 0 where
  pub sends : SendsWrite bay old new
  pub does : MatchOption laying (new.media ≡ old.media) (λ one. LaysMedium bay format one old new)
  -- if the format is undisturbed, or done with no fault, all words of a track that is there are laid
  pub turn : (IsUndisturbed bay old.counters new.counters ⊎ (IsOk answer × IsFaultless bay old.counters new.counters))
      → (disk : Disk) → HasTrackUnder old bay format disk
      → MatchOption laying ⊥ (λ one. one.words ≡ disk.words_per_track)
  pub fits : IsOk answer → IsFaultless bay old.counters new.counters → (disk : Disk) → HasTrackUnder old bay format disk
      → Fits (format_keys format) standard_code format.gap3 disk.words_per_track
  pub refused : IfErr answer (λ code. IsFormatMiss bay format old code new)
