-- What ties the counts of a run to what the station shows before and after it.
use Rattle.std.specs.Prelude.{◌≡◌, ℕ, ◌+◌, ◌-◌, ◌<◌, ◌≤◌, ◌==◌, Bool, false, if◌then◌else◌, All, List, [], ◌∷◌, Option, Some, IsSome, Ok, sum_by}
use Rattle.sector_model.specs.Common.{option_map_or, last_count, RoseBy, Files, file_at, with_bay, DriveCounts, Counters, faults_of, IsUndisturbed, job_of, Request}
use Rattle.floppy_jobs.specs.declared.request.Request.TheVariants as request
use Rattle.sector_model.specs.declared.reply.Reply.{Reply}
use Rattle.sector_model.specs.declared.reply.Reply.TheVariants as reply
use Rattle.sector_model.specs.Runs.{Taken, requests_of}

-- ---- Each step, with the drives that stand in the bays during the step.

-- the counters with the next spare drive in a bay
abbrev pub with_spare : Counters → ℕ → List DriveCounts → Counters
with_spare counters bay [] = counters
with_spare counters bay (next ∷ later) = record counters { drives = with_bay counters.drives bay next; spares = later }

-- the counters as a step finds them. If the step exchanges the drive of a bay, the new drive stands there already
abbrev pub entered_by : Counters → Request → Reply → Counters
entered_by counters (request.Unit bay) reply.Done = with_spare counters bay counters.spares
entered_by counters _ _ = counters

abbrev pub entered : Counters → Taken → Counters
entered counters taken = entered_by counters taken.asked taken.answer

-- the counters after a step
abbrev pub left_by : Taken → Counters
left_by taken = taken.after.station.counters

-- the faults of a bay's drive in a step
abbrev pub step_faults : ℕ → Counters → Taken → ℕ
step_faults bay counters taken = faults_of (left_by taken) bay - faults_of (entered counters taken) bay

-- ---- All steps together.

-- the new faults of a drive that reports what is left of its faults; those of any other drive count as 0
abbrev pub told_rise : DriveCounts → DriveCounts → ℕ
told_rise old new = option_map_or (λ most. new.faults - old.faults) old.left 0

-- the faults in a step of the drives that report what is left
abbrev pub told_faults : Counters → Counters → ℕ
told_faults old new = told_rise old.drives.first new.drives.first + told_rise old.drives.second new.drives.second

-- the faults of these drives in all steps of a course
abbrev pub sum_told : Counters → List Taken → ℕ
sum_told counters [] = 0
sum_told counters (taken ∷ later) = told_faults (entered counters taken) (left_by taken) + sum_told (left_by taken) later

-- the faults that a drive can still have, if it reports them; else 0
abbrev pub told_left : DriveCounts → ℕ
told_left drive = option_map_or (λ most. most) drive.left 0

-- the faults that all drives which report them can still have, in the bays and as spares
abbrev pub all_left : Counters → ℕ
all_left counters = told_left counters.drives.first + told_left counters.drives.second + sum_by told_left counters.spares

-- the step exchanged the drive of a bay
abbrev pub is_exchange_by : ℕ → Request → Reply → Bool
is_exchange_by bay (request.Unit exchanged) reply.Done = exchanged == bay
is_exchange_by bay _ _ = false

abbrev pub is_exchange : ℕ → Taken → Bool
is_exchange bay taken = is_exchange_by bay taken.asked taken.answer

-- a drive stands in a bay after a course: this is the count that it had when it came, on entry or as a spare
abbrev pub came_with : ℕ → ℕ → Counters → List Taken → ℕ
came_with bay count counters [] = count
came_with bay count counters (taken ∷ later) =
    came_with bay (if is_exchange bay taken then faults_of (entered counters taken) bay else count) (left_by taken) later

-- the faults of that drive in the steps since it came, added up
abbrev pub faults_since : ℕ → ℕ → Counters → List Taken → ℕ
faults_since bay sum counters [] = sum
faults_since bay sum counters (taken ∷ later) =
    faults_since bay ((if is_exchange bay taken then 0 else sum) + step_faults bay counters taken) (left_by taken) later

-- P holds of all drives, in the bays and among the spares
pub record OfAllDrives (P : DriveCounts → Type 0) (counters : Counters) : Type 0 where
  pub first : P counters.drives.first
  pub second : P counters.drives.second
  pub spares : All P counters.spares

-- a drive reports what is left of its faults
abbrev pub TellsFaults : DriveCounts → Type 0
TellsFaults drive = IsSome drive.left

-- no fault of a drive is left
pub record IsSpent (drive : DriveCounts) : Type 0 where
  pub left : drive.left ≡ Some 0
  pub below : drive.faults < last_count

-- nothing is left: no drive can have a fault any more, and no stall can come
pub record HasNothingLeft (counters : Counters) : Type 0 where
  pub drives : OfAllDrives IsSpent counters
  pub stalls : counters.stalls_left ≡ 0
  pub stalls_below : counters.stalls < last_count

-- neither a fault nor a stall disturbed any step of a course, in any bay
abbrev pub AreUndisturbed : Counters → List Taken → Type 0
AreUndisturbed counters [] = Unit {0}
AreUndisturbed counters (taken ∷ later) =
    IsUndisturbed 0 (entered counters taken) (left_by taken) × IsUndisturbed 1 (entered counters taken) (left_by taken)
    × AreUndisturbed (left_by taken) later

-- ---- Accesses past the driver.

-- the most accesses past the driver that a request makes
abbrev pub accesses_of : Request → ℕ
accesses_of (request.Fill address count byte) = count
accesses_of (request.Insert bay name) = 1
accesses_of (request.Blank bay name cylinders) = 1
accesses_of (request.BlankDd bay name cylinders) = 1
accesses_of (request.Eject bay) = 1
accesses_of (request.Unit bay) = 1
accesses_of (request.Ack bay) = 0
accesses_of (request.Read bay key address) = 0
accesses_of (request.Write bay key address) = 0
accesses_of (request.WriteDeleted bay key address) = 0
accesses_of (request.Format bay c h) = 0
accesses_of (request.Dump address count) = 0
accesses_of (request.SetRate bay rate) = 0
accesses_of (request.Tries tries) = 0

-- the most accesses past the driver of a course: those that its requests make
abbrev pub accesses_of_course : List Taken → ℕ
accesses_of_course course = sum_by accesses_of (requests_of course)

-- the counters after a course
abbrev pub counters_after : Counters → List Taken → Counters
counters_after counters [] = counters
counters_after counters (taken ∷ later) = counters_after (left_by taken) later

-- ---- Before and after a course.

-- what holds of the counts before a course and at some time after it
pub record TiesCounts (old : Counters) (course : List Taken) (new : Counters) : Type 0 where
  -- an interrupt was taken for each data command
  pub commands : old.data_commands ≤ new.data_commands
  pub interrupts : RoseBy (new.data_commands - old.data_commands) old.taken new.taken
  -- each stall that came is taken from what was left of them
  pub stalls : old.stalls ≤ new.stalls
  pub stalls_left : new.stalls + new.stalls_left ≤ old.stalls + old.stalls_left
  -- the requests made no more accesses past the driver than they may. What came after them made at most one for each
  -- bay
  pub by_requests : (counters_after old course).direct ≤ old.direct + accesses_of_course course
  pub at_the_end : new.direct ≤ (counters_after old course).direct + 2
  -- the drives that report what is left: each fault of theirs in any step is taken from what was left of them all
  pub told : sum_told old course + all_left new ≤ all_left old
  -- if all drives reported what is left, they still do
  pub tells : OfAllDrives TellsFaults old → OfAllDrives TellsFaults new
  -- for each bay, the faults since its last exchange are faults of the drive that stands in it
  pub since : (bay : ℕ) → bay ≤ 1
      → came_with bay (faults_of old bay) old course + faults_since bay 0 old course ≤ faults_of new bay
  -- if nothing was left, no step was disturbed
  pub undisturbed : HasNothingLeft old → AreUndisturbed old course

-- ---- Jobs.

-- the most accesses of a whole job: those of its requests, and one for each bay at the end
abbrev pub accesses_of_job : List Request → ℕ
accesses_of_job requests = sum_by accesses_of requests + 2

-- the files are known, and the file of the job's name spells these requests
pub record IsJob (told : Option Files) (job : List ℕ) (requests : List Request) : Type 0 where
  pub files : Files
  pub text : List ℕ
  pub tells : told ≡ Some files
  pub there : file_at files job ≡ Some text
  pub spells : job_of text ≡ Ok requests
