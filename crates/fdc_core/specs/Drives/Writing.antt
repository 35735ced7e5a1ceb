-- The drive of a command that writes, between two device steps.
use Rattle.std.specs.Prelude.{◌≡◌, ℕ, ◌+◌, ◌*◌, ◌<◌, ◌≤◌, Bool, true, false, Some, List, [], length}
use Rattle.fdc_core.specs.Common.{HasTrack, DriveState, Past, words_heard, rate_fits}
use Rattle.fdc_core.specs.Drives.Heard.{place_in, IsHeardFrom, IsWholeFrom}
use Rattle.fdc_core.specs.Drives.Hearing.{IsCalm, Outset, track_heard}
use Rattle.fdc_core.specs.Drives.Written.{IsOver, IsPut, IsPutOpen}

-- the words heard are those of the track as it was, and none was lost where the drive had no fault
pub record HearsTrack (outset : Outset) (turns : List (List ℕ)) (seen : List ℕ) (faults : ℕ) : Type 0 where
  pub heard : IsHeardFrom (track_heard outset) outset.from turns seen
  pub never_falls : outset.faults ≤ faults
  pub whole : IsCalm outset.faults faults → IsWholeFrom (track_heard outset) outset.from turns seen

-- the words written are put on the track from word `start` on
abbrev pub ArePut : Outset → ℕ → List ℕ → DriveState → Type 0
ArePut outset start words drive = IsPut outset.disk outset.cylinder outset.head start words outset.faults drive

abbrev pub ArePutOpen : Outset → ℕ → List ℕ → DriveState → Type 0
ArePutOpen outset start words drive = IsPutOpen outset.disk outset.cylinder outset.head start words outset.faults drive

-- where the words written begin on the track: right after those that were heard
abbrev pub start_in : Outset → Past → ℕ
start_in outset past = place_in outset.from past.turns past.seen

-- the disk has the track under the head
abbrev pub IsThere : Outset → Type 0
IsThere outset = HasTrack outset.disk outset.cylinder outset.head

-- nothing was written, or there is no such track, and the medium is as it was. Otherwise the words are put
pub record HasMedium (outset : Outset) (start : ℕ) (words : List ℕ) (drive : DriveState) : Type 0 where
  pub quiet : words ≡ [] → drive.medium ≡ Some outset.disk
  pub absent : (IsThere outset → ⊥) → drive.medium ≡ Some outset.disk
  pub put : IsThere outset → 1 ≤ length words → ArePut outset start words drive

-- in execution: the drive is at speed, at the word after those that were heard and written. The gate is open where
-- words were written. Each step heard or wrote a word, and at most one index has passed. A protected medium would have
-- ended the command in its first step
pub record IsAtWork (outset : Outset) (start : ℕ) (turns : List (List ℕ)) (heard : ℕ) (words : List ℕ) (steps : ℕ) (drive : DriveState) : Type 0 where
  pub over : IsOver outset.cylinder (start + length words) drive
  pub inside : start + length words < outset.disk.words_per_track
  pub gate : IsThere outset → 1 ≤ length words → ArePutOpen outset start words drive
  pub few : length turns ≤ 1
  pub paced : steps ≡ heard + length words
  pub unprotected : 1 ≤ steps → outset.disk.protected ≡ false

-- what is known of the drive and its medium
pub record IsAtDrive (outset : Outset) (past : Past) (executes : Bool) (drive : DriveState) : Type 0 where
  pub hears : HearsTrack outset past.turns past.seen drive.faults
  pub medium : HasMedium outset (start_in outset past) past.words drive
  -- no protected medium is written, words are written at the rate of the medium alone, and the command is in time
  pub unprotected : 1 ≤ length past.words → outset.disk.protected ≡ false
  pub fits : 1 ≤ length past.words → rate_fits outset.rate outset.disk.rate ≡ true
  pub barred : past.barred ≡ true → rate_fits outset.rate outset.disk.rate ≡ false
  pub early : past.steps ≤ 2 * outset.disk.words_per_track
  pub inside : start_in outset past + length past.words ≤ outset.disk.words_per_track
  -- the index comes after the last word of the track
  pub index : past.place ≡ 0 → 1 ≤ length past.words → start_in outset past + length past.words ≡ outset.disk.words_per_track
  pub works : executes ≡ true → IsAtWork outset (start_in outset past) past.turns (words_heard past) past.words past.steps drive

-- the same of a write of a window: words are written only on a track that is there, and the gate could be opened
pub record IsAtWindow (outset : Outset) (past : Past) (executes : Bool) (drive : DriveState) : Type 0 where
  pub at : IsAtDrive outset past executes drive
  pub there : 1 ≤ length past.words → IsThere outset
  pub unbarred : past.barred ≡ false
