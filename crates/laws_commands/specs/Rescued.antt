-- Rescues that went through all their requests, and what they stored.
use Rattle.std.specs.Prelude.{◌≡◌, ◌↔◌, ◌⊎◌, ℕ, ◌+◌, Bool, true, false, List, [], ◌∷◌, ◌++◌, length, map, All, Contains, Option, Some, None, IfSome, if◌then◌else◌}
use Rattle.laws_commands.specs.Common.{Files, file_at, stored, grown, sectors_at, Chrn, Code, Status, Disk, IsDisk, HasTrack, track_of, file_of, bytes_from, Look, Found, IsAddressAt, content_size, Request, AreFailing, Entry, IsOnMap, IsRegularDisk, LookOn, Reply, State, IsImageOf, blank_of, Taken, World, StationState, bay_of, shape_of, read_of, logged_keys, outcome_status, log_text, LogLine, IsLogFound, asked_keys, last_text}
use Rattle.track_model.specs.Windows.{IsTidy}
use Rattle.floppy_jobs.specs.declared.request.Request.TheVariants as request
use Rattle.sector_model.specs.declared.reply.Reply.TheVariants as reply
use Rattle.sector_model.specs.declared.reply.Reason.TheVariants as reason
use Rattle.sector_model.specs.Texts.{is_refusal}
use Rattle.laws_commands.specs.Copied.{SomeStep, Gave, IsFieldOf}
use Rattle.laws_commands.specs.LaidFields.{HasLaidFields}
use Rattle.laws_commands.specs.Verified.{all_told_of}
use Rattle.rescue.specs.declared.outcome.Outcome.{Outcome}

-- ---- The lines of a new log, from the course of a rescue.

-- the line of a refused read
abbrev pub line_for : Request → Code → List LogLine
line_for (request.Read bay key address) code = (record { key = key; code = code }) ∷ []
line_for _ code = []

-- the line of a request, if its answer is a drive's refusal
abbrev pub line_at : Request → Reply → List LogLine
line_at asked (reply.Refused (reason.Driver code)) = line_for asked code
line_at asked other = []

-- the log lines of a course: those of the reads that were refused
abbrev pub log_of : List Taken → List LogLine
log_of [] = []
log_of (taken ∷ later) = line_at taken.asked taken.answer ++ log_of later

-- ---- Runs whose writes can't bring up an address mark, however short the writes stop.

-- each address field of the key on the disk in the bay is Tidy for what is written there from memory
abbrev pub IsTidyWrite : StationState → ℕ → Chrn → ℕ → Bool → Type 0
IsTidyWrite station bay key address deleted =
    (disk : Disk) (c p : ℕ) → (bay_of station bay).medium ≡ Some disk → HasTrack disk c key.h
    → IsAddressAt (track_of disk c key.h) p key
    → IsTidy (track_of disk c key.h) p deleted (bytes_from station.memory address (content_size key.n))

-- if the request is a write, it is Tidy in this way
abbrev pub IsTidyFor : State → Request → Type 0
IsTidyFor state (request.Write bay key address) = IsTidyWrite state.station bay key address false
IsTidyFor state (request.WriteDeleted bay key address) = IsTidyWrite state.station bay key address true
IsTidyFor state _ = Unit {0}

-- each write of a course is Tidy in the state in which it begins
abbrev pub AreTidy : State → List Taken → Type 0
AreTidy state [] = Unit {0}
AreTidy state (taken ∷ later) = IsTidyFor state taken.asked × AreTidy taken.after later

-- no refusal stopped the run: its last answer isn't a refusal
abbrev pub IsNotStopped : List Taken → Type 0
IsNotStopped course = (before : List Taken) (last : Taken) → course ≡ before ++ last ∷ [] → is_refusal last.answer ≡ false

-- No write of a course to the disk brings up an address mark. Either the disk's address fields are on Laid tracks, or
-- each write is Tidy.
abbrev pub BringsUpNoMark : Disk → State → List Taken → Type 0
BringsUpNoMark disk old course = HasLaidFields disk ⊎ AreTidy old course

-- The other diskette, as it is loaded if there is a log. It is the image of a regular disk on which no write brings up
-- an address mark.
pub record IsTarget (to : List ℕ) (target : Disk) (files : Files) (old : State) (course : List Taken) : Type 0 where
  pub image : IsImageOf (Some files) to target
  pub regular : IsRegularDisk target
  pub unmarked : BringsUpNoMark target old course

-- if there is a log, the other diskette is as described above
abbrev pub HasTarget : Option (List LogLine) → List ℕ → Disk → Files → State → List Taken → Type 0
HasTarget None to target files old course = Unit {0}
HasTarget (Some lines) to target files old course = IsTarget to target files old course

-- ---- What became of a record.

-- the read of the record was refused with this code
abbrev pub WasRefused : Chrn → Code → Taken → Type 0
WasRefused key code taken = (taken.asked ≡ read_of key) × (taken.answer ≡ reply.Refused (reason.Driver code))

-- the log has the record, with the code that its read gave
pub record IsLogged (course : List Taken) (lines : List LogLine) (key : Chrn) : Type 0 where
  pub code : Code
  pub read : SomeStep (WasRefused key code) course
  pub line : Contains lines (record { key = key; code = code })

-- an entry of the map on the cylinder and the head of its key
abbrev pub entry_at : Chrn → ℕ → Bool → List ℕ → Entry
entry_at key place deleted content = record {
  cylinder = key.c;
  head = key.h;
  place = place;
  key = key;
  deleted = deleted;
  content = content;
}

-- the disk has the record, with the mark and the content that its read gave
pub record IsSaved (course : List Taken) (saved : Disk) (key : Chrn) : Type 0 where
  pub deleted : Bool
  pub content : List ℕ
  pub place : ℕ
  pub read : SomeStep (Gave key deleted content) course
  pub entry : IsOnMap saved (entry_at key place deleted content)

-- exactly one of both holds: the record is in the log, or it is saved
pub record IsSettled (course : List Taken) (saved : Disk) (lines : List LogLine) (key : Chrn) : Type 0 where
  pub either : IsLogged course lines key ⊎ IsSaved course saved key
  pub never_both : IsLogged course lines key → IsSaved course saved key → ⊥

-- no read of the record gave anything
abbrev pub WasNotRead : List Taken → Chrn → Type 0
WasNotRead course key = (deleted : Bool) (content : List ℕ) → SomeStep (Gave key deleted content) course → ⊥

-- If there was a log, all entries of the other diskette stay, besides those of the records that were read.
abbrev pub KeepsEntries : Option (List LogLine) → List Taken → Disk → Disk → Type 0
KeepsEntries None course target saved = Unit {0}
KeepsEntries (Some lines) course target saved =
    (entry : Entry) → WasNotRead course entry.key → IsOnMap target entry ↔ IsOnMap saved entry

-- ---- The diskette that is stored, compared with the one that was there.

-- The diskette that is written to. If there was no log, it is a blank one of the first disk's cylinders and rate.
-- Otherwise it is the other diskette.
abbrev pub diskette_for : Option (List LogLine) → Disk → Disk → Disk
diskette_for None disk target = blank_of disk.cylinders disk.rate
diskette_for (Some lines) disk target = target

-- a disk has the protection, the cylinders, the heads, the rate and the words per track of another
pub record HasShapeOf (disk after : Disk) : Type 0 where
  pub protected : after.protected ≡ disk.protected
  pub cylinders : after.cylinders ≡ disk.cylinders
  pub heads : after.heads ≡ disk.heads
  pub rate : after.rate ≡ disk.rate
  pub words_per_track : after.words_per_track ≡ disk.words_per_track

-- If there was no log, this holds of the new diskette. If there was one, this still holds if it held before.
abbrev pub StillHolds : (Disk → Type 0) → Option (List LogLine) → Disk → Disk → Type 0
StillHolds Such None target saved = Such saved
StillHolds Such (Some lines) target saved = Such target → Such saved

-- ---- What is stored and told.

-- the request writes a record
abbrev pub is_write : Request → Bool
is_write (request.Write bay key address) = true
is_write (request.WriteDeleted bay key address) = true
is_write _ = false

-- how many requests of a course write a record
abbrev pub count_writes : List Taken → ℕ
count_writes [] = 0
count_writes (taken ∷ later) = (if is_write taken.asked then 1 else 0) + count_writes later

-- the outcome of a rescue: it wrote as many of the asked records as its course has writes
abbrev pub outcome_in : List Taken → ℕ → Outcome
outcome_in course asked = record { written = count_writes course; asked = asked }

-- The last line tells how many of the asked records were written, and the status tells whether all were. The others are
-- in the log.
pub record TellsRescue (asked : ℕ) (old : World) (course : List Taken) (new : World) (ended : Status) : Type 0 where
  pub report : new.report ≡ grown old.report (last_text (outcome_in course asked) ∷ [])
  pub status : ended ≡ outcome_status (outcome_in course asked)
  pub others : count_writes course + length (log_of course) ≡ asked

-- what a read of a course gave is an intact field of its key on the disk
abbrev pub GivesFields : Disk → List Taken → Type 0
GivesFields disk course =
    (key : Chrn) (deleted : Bool) (content : List ℕ) → SomeStep (Gave key deleted content) course → IsFieldOf disk key deleted content

-- The other diskette was stored under its name, and then the new log under its own, and no other file changed. The next
-- run finds both: a regular disk of the same shape, and a log. The disk has Laid fields if it is new or had them
-- before.
pub record StoresRescue (disk target : Disk) (found : Option (List LogLine)) (to log : List ℕ) (files : Files) (course : List Taken) (new : World) : Type 0 where
  pub saved : Disk
  pub shape : HasShapeOf (diskette_for found disk target) saved
  pub valid : StillHolds IsDisk found target saved
  pub regular : IsRegularDisk saved
  pub laid : StillHolds HasLaidFields found target saved
  pub stores : new.files ≡ stored (stored (Some files) to (file_of saved)) log (log_text (log_of course))
  pub disk_there : IfSome new.files (λ files. file_at files to ≡ Some (file_of saved))
  pub image : IsDisk saved → IsImageOf new.files to saved
  pub log_there : IfSome new.files (λ files. file_at files log ≡ Some (log_text (log_of course)))
  pub log_found : IsLogFound new.files log (sectors_at disk.rate) (Some (log_of course))
  pub settled : All (IsSettled course saved (log_of course)) (asked_keys (shape_of disk) found)
  pub asked : All (Contains (asked_keys (shape_of disk) found)) (logged_keys (log_of course))
  pub unasked : (key : Chrn) → (Contains (asked_keys (shape_of disk) found) key → ⊥) → WasNotRead course key
  pub kept : KeepsEntries found course target saved
  pub given : GivesFields disk course

-- The log lines of records that aren't found, each with the code of its look. The code is 02 if the track has no
-- address mark or the record has no data, 04 if no address field has its key, and 10 if its data are damaged.
abbrev pub failing_lines : List (Chrn × Look) → List LogLine
failing_lines failed = map (λ (told : Chrn × Code). record { key = told.0; code = told.1 }) (all_told_of failed)

-- a rescue that went to its end, of the records that the log asks for, or of all records if there was no log
pub record IsRescue (disk target : Disk) (to log : List ℕ) (files : Files) (old : World) (course : List Taken) (new : World) (ended : Status) : Type 0 where
  pub found : Option (List LogLine)
  pub there : IsLogFound (Some files) log (sectors_at disk.rate) found
  pub stores : StoresRescue disk target found to log files course new
  pub tells : TellsRescue (length (asked_keys (shape_of disk) found)) old course new ended

-- no look for the record finds it on the disk
abbrev pub IsNotFound : Disk → Chrn → Type 0
IsNotFound disk key = (deleted : Bool) (place : ℕ) → LookOn disk key (Found deleted place) → ⊥

-- the new log is exactly the asked records that aren't found, in their order
pub record LogsNotFound (disk : Disk) (log : List ℕ) (files : Files) (course : List Taken) (new : World) : Type 0 where
  pub found : Option (List LogLine)
  pub there : IsLogFound (Some files) log (sectors_at disk.rate) found
  pub log_there : IfSome new.files (λ files. file_at files log ≡ Some (log_text (log_of course)))
  pub exactly : (failed : List (Chrn × Look)) → AreFailing disk (asked_keys (shape_of disk) found) failed
      → log_of course ≡ failing_lines failed
  pub lost : All (IsNotFound disk) (logged_keys (log_of course))
