-- Rescues one after the other: several diskettes are rescued onto one, by one log.
use Rattle.std.specs.Prelude.{◌≡◌, ◌⊎◌, ℕ, Bool, List, [], ◌∷◌, Contains, Option, Some, IfSome}
use Rattle.laws_program.specs.Common.{Files, file_at, DriveCounts, Status, Chrn, Disk, IsDisk, IsOnMap, IsRegularDisk, LookOn, IsImageOf, Board, Outside, logged_keys, IsLog, log_text, LogLine, RunsOver, IsFieldOf, HasLaidFields, entry_at, IsStandardKey, IsUnmistaken, IsEndStatus}
use Rattle.flop_base.specs.declared.answers.Status.TheVariants as status
use Rattle.track_model.specs.declared.Look.TheVariants.{Found}
use Rattle.floppy_words.specs.declared.form.Form.TheVariants as form
use Rattle.laws_program.specs.Disturbed.{HadNoFault, HadNoStall}
use Rattle.laws_program.specs.Told.{IsNotToldStopped}

-- ---- the runs

-- one run of a rescue: the name of the disk that it reads, and this disk; the machine, its spare drives and the
-- outside; and how it ended
pub record RescueRun : Type 0 where
  pub from : List ℕ
  pub disk : Disk
  pub spares : List DriveCounts
  pub old : Board
  pub before : Outside
  pub new : Board
  pub after : Outside
  pub ended : Status

-- the run went to its end, onto the disk and by the log of these names, and the drive of bay 1 had no fault
pub record IsRescueRun (to log : List ℕ) (run : RescueRun) : Type 0 where
  pub over : RunsOver (Some (form.Rescue run.from to log)) run.old run.spares run.before run.new run.after run.ended
  pub whole : IsEndStatus run.ended
  pub unstopped : IsNotToldStopped run.before.report run.after.report
  pub files : Files
  pub told : run.before.files ≡ Some files
  pub image : IsImageOf (Some files) run.from run.disk
  pub calm : HadNoFault 1 run.old run.new

-- the files of these two names stand as they were left
abbrev pub StandAsLeft : List ℕ → List ℕ → Option Files → Option Files → Type 0
StandAsLeft to log left found =
    IfSome left (λ one. IfSome found (λ two. (file_at two to ≡ file_at one to) × (file_at two log ≡ file_at one log)))

-- each of the runs is such a rescue, and finds both files as the run before left them
abbrev pub AreInTurn : List ℕ → List ℕ → Option Files → List RescueRun → Type 0
AreInTurn to log left [] = Unit {0}
AreInTurn to log left (run ∷ later) =
    IsRescueRun to log run × StandAsLeft to log left run.before.files × AreInTurn to log run.after.files later

-- the last run of some
abbrev pub last_run : RescueRun → List RescueRun → RescueRun
last_run run [] = run
last_run run (next ∷ later) = last_run next later

-- ---- what they leave

-- this holds of some run
abbrev pub SomeRun : (RescueRun → Type 0) → List RescueRun → Type 0
SomeRun P [] = ⊥
SomeRun P (run ∷ later) = P run ⊎ SomeRun P later

-- the disk has the sector, with the mark and the content of an intact field of its sector ID on the disk of some run
pub record IsSavedFrom (runs : List RescueRun) (saved : Disk) (key : Chrn) : Type 0 where
  pub deleted : Bool
  pub content : List ℕ
  pub place : ℕ
  pub field : SomeRun (λ run. IsFieldOf run.disk key deleted content) runs
  pub entry : IsOnMap saved (entry_at key place deleted content)

-- the sector could be read in a run: nothing disturbed the run's reads, no address field of its disk can be mistaken,
-- and the look for the sector ID finds the sector there
pub record CouldBeRead (key : Chrn) (run : RescueRun) : Type 0 where
  pub no_fault : HadNoFault 0 run.old run.new
  pub no_stall : HadNoStall run.old run.new
  pub unmistaken : IsUnmistaken run.disk
  pub deleted : Bool
  pub place : ℕ
  pub found : LookOn run.disk key (Found deleted place)

-- what stands after these runs, the last of which ended with this status. TO has the image of a regular disk with Laid
-- fields, and LOG is a log. Each standard sector of the first diskette is in the log, or on that disk as one of the
-- diskettes has it. It is on that disk if some run could read it, and each is if the last status is 0
pub record LeavesRescued (to log : List ℕ) (disk : Disk) (runs : List RescueRun) (ended : Status) (after : Option Files) : Type 0 where
  pub files : Files
  pub told : after ≡ Some files
  pub saved : Disk
  pub valid : IsDisk saved
  pub regular : IsRegularDisk saved
  pub laid : HasLaidFields saved
  pub image : IsImageOf (Some files) to saved
  pub lines : List LogLine
  pub is_log : IsLog 18 lines
  pub log_there : file_at files log ≡ Some (log_text lines)
  pub settled : (key : Chrn) → IsStandardKey disk key → Contains (logged_keys lines) key ⊎ IsSavedFrom runs saved key
  pub read : (key : Chrn) → IsStandardKey disk key → SomeRun (CouldBeRead key) runs → IsSavedFrom runs saved key
  pub all : ended ≡ status.AllOk → (key : Chrn) → IsStandardKey disk key → IsSavedFrom runs saved key
