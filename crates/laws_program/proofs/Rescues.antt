-- What a rescue stores, and in which order.
use Rattle.std.proofs.Common.{ℕ, List, [], Some, ap, ◌≡◌, Option, subst}
use Rattle.laws_program.proofs.Common.{of_one, Status, DriveCounts, Board, Taken, World, Outside, world, DoesOrStarves, AsAsked, StarvesWords, RunsOver, LogLine, log_of, StoresDiskThenLog, nothing_first, blank_disk, R500, stores_in_order, IsRegularDisk, fresh_memory, sectors_at, State, IsLogFound, BringsUpNoMark, HasTarget, IsTarget, IsRescue, Files, file_at, Disk, IsImageOf, log_text, LogsNotFound, IsUnmistaken, IsEndStatus, HadNoFault, HadNoStall, StoresLogOf, IsNotToldStopped, IsNotStopped, Rescues}
use Rattle.laws_program.proofs.OfForms.{asked_whole, undisturbed_first, faultless_second}
use Rattle.laws_commands.proofs.Whole.{rescue_logs, rescue_stores}
use Rattle.std.specs.Prelude.{◌≢◌, None, IfSome}
use Rattle.laws_program.proofs.RunsAgree.{rescue_unstopped}
use Rattle.floppy_words.specs.declared.form.Form.TheVariants as form

in_order : (from to log : List ℕ) (old new : World) (course : List Taken) (ended : Status) → DoesOrStarves (form.Rescue from to log) old course new ended
    → (lines : List LogLine) × StoresDiskThenLog to log lines old.files new.files
in_order from to log old new course ended (AsAsked does) = (log_of course, stores_in_order from to log old new course ended does)
in_order from to log old new course ended (StarvesWords nothing idle) =
    ([], (blank_disk 1 1 1 R500, nothing_first _ old.files new.files (ap (λ (w : World). w.files) idle.same)))

pub rescue_orders : (from to log : List ℕ) (spares : List DriveCounts) (old new : Board) (before after : Outside) (ended : Status)
    → RunsOver (Some (form.Rescue from to log)) old spares before new after ended
    → (lines : List LogLine) × StoresDiskThenLog to log lines before.files after.files
rescue_orders from to log spares old new before after ended over =
    in_order from to log (world over.start before.files before.report) (world over.last after.files after.report) over.runs.course ended over.runs.does

log_stored : (disk : Disk) (log : List ℕ) (files : Files) (course : List Taken) (new : World) → LogsNotFound disk log files course new
    → StoresLogOf disk log files new.files
log_stored disk log files course new logs = record {
  found = logs.found;
  there = logs.there;
  stores = λ failed failing.
      subst (λ (lines : List LogLine). IfSome new.files (λ files. file_at files log ≡ Some (log_text lines))) (logs.exactly failed failing) logs.log_there;
}

-- where no file has the log's name, nothing is asked of the other diskette
no_target : (to log : List ℕ) (disk : Disk) (files : Files) (old : State) (course : List Taken) (sectors : ℕ) → file_at files log ≡ None
    → (found : Option (List LogLine)) → IsLogFound (Some files) log sectors found → HasTarget found to disk files old course
no_target to log disk files old course sectors absent None there = tt
no_target to log disk files old course sectors absent (Some lines) there =
    let one = (of_one (file_at files log) there there).1 in
    absurd (cc (absent, one))

-- where there may be a log, the other diskette has what a log asks of it
this_target : (to : List ℕ) (target : Disk) (files : Files) (old : State) (course : List Taken) → IsTarget to target files old course
    → (found : Option (List LogLine)) → HasTarget found to target files old course
this_target to target files old course is None = tt
this_target to target files old course is (Some lines) = is

module _ (from to log : List ℕ) (spares : List DriveCounts) (old new : Board) (before after : Outside) (ended : Status) (files : Files) (disk : Disk) where
  abbrev Over : Type 0
  Over = RunsOver (Some (form.Rescue from to log)) old spares before new after ended

  abbrev first : Over → World
  first over = world over.start before.files before.report

  abbrev last : Over → World
  last over = world over.last after.files after.report

  does_whole : (over : Over) → IsEndStatus ended → Rescues from to log (first over) over.runs.course (last over) ended
  does_whole over whole = asked_whole (form.Rescue from to log) (first over) (last over) over.runs.course ended whole over.runs.does

  not_stopped : (over : Over) → IsEndStatus ended → IsNotToldStopped before.report after.report → IsNotStopped over.runs.course
  not_stopped over whole fine = rescue_unstopped from to log (first over) (last over) over.runs.course ended whole fine (does_whole over whole)

  pub rescue_loses : (over : Over) → IsEndStatus ended → IsNotToldStopped before.report after.report → before.files ≡ Some files
      → IsImageOf (Some files) from disk → HadNoFault 0 old new → HadNoStall old new → IsUnmistaken disk
      → LogsNotFound disk log files over.runs.course (last over)
  rescue_loses over whole fine told image calm quick unmistaken =
      rescue_logs from to log disk files (first over) over.runs.course (last over) ended (does_whole over whole) whole (not_stopped over whole fine) told image
      (undisturbed_first old new spares over.start.station over.last.station over.set_up.starts over.shows calm quick) unmistaken

  pub rescue_logs_rest : Over → IsEndStatus ended → IsNotToldStopped before.report after.report → before.files ≡ Some files
      → IsImageOf (Some files) from disk → HadNoFault 0 old new → HadNoStall old new → IsUnmistaken disk → StoresLogOf disk log files after.files
  rescue_logs_rest over whole fine told image calm quick unmistaken =
      log_stored disk log files over.runs.course (last over) (rescue_loses over whole fine told image calm quick unmistaken)

  -- what a rescue stores, if the other diskette has what a found log asks of it
  rescue_stored : (target : Disk) (over : Over) → IsEndStatus ended → IsNotToldStopped before.report after.report → to ≢ log → before.files ≡ Some files
      → IsImageOf (Some files) from disk → HadNoFault 1 old new
      → ((found : Option (List LogLine)) → IsLogFound (Some files) log (sectors_at disk.rate) found → HasTarget found to target files over.start over.runs.course)
      → IsRescue disk target to log files (first over) over.runs.course (last over) ended
  rescue_stored target over whole fine apart told image calm has =
      rescue_stores from to log disk target files (first over) over.runs.course (last over) ended (does_whole over whole) whole (not_stopped over whole fine)
      apart told image (fresh_memory over.start.station over.set_up.fresh)
      (faultless_second old new spares over.start.station over.last.station over.set_up.starts over.shows calm) has

  pub rescue_settles_again : (target : Disk) (over : Over) → IsEndStatus ended → IsNotToldStopped before.report after.report → to ≢ log
      → before.files ≡ Some files → IsImageOf (Some files) from disk → HadNoFault 1 old new → IsImageOf (Some files) to target → IsRegularDisk target
      → BringsUpNoMark target over.start over.runs.course → IsRescue disk target to log files (first over) over.runs.course (last over) ended
  rescue_settles_again target over whole fine apart told image calm other regular unmarked =
      rescue_stored target over whole fine apart told image calm
      (λ found there. this_target to target files over.start over.runs.course (record { image = other; regular = regular; unmarked = unmarked }) found)

  pub rescue_settles : (over : Over) → IsEndStatus ended → IsNotToldStopped before.report after.report → to ≢ log → before.files ≡ Some files
      → IsImageOf (Some files) from disk → file_at files log ≡ None → HadNoFault 1 old new
      → IsRescue disk disk to log files (first over) over.runs.course (last over) ended
  rescue_settles over whole fine apart told image absent calm =
      rescue_stored disk over whole fine apart told image calm (no_target to log disk files over.start over.runs.course (sectors_at disk.rate) absent)
