-- What the program does with its arguments (words).
use Rattle.std.specs.Prelude.{◌≡◌, ℕ, List, [], Option, Some, None}
use Rattle.flop_base.specs.declared.answers.Rate.TheVariants.{R500, R250}
use Rattle.floppy_tools.specs.Common.{Status, Two, Files, Blames, StationState, State, start_of, Taken, World, Plays, TellsAlone, IsIdle, Form, form_of, Runs, Outside, FaultyOutside}
use Rattle.flop_base.specs.declared.answers.Status.TheVariants as status
use Rattle.commands.specs.LastLines.{bad_words_text}
use Rattle.floppy_words.specs.declared.form.Form.TheVariants as form
use Rattle.commands.specs.Scripts.{RunsScript}
use Rattle.disk_commands.specs.Format.{format_script}
use Rattle.disk_commands.specs.Verify.{verify_script}
use Rattle.disk_commands.specs.Copy.{copy_script}
use Rattle.archive_commands.specs.Making.{FromImd, ToImd, Remaster}
use Rattle.archive_commands.specs.Surveys.{Surveys}
use Rattle.disk_commands.specs.Import.{Imports}
use Rattle.disk_commands.specs.Export.{export_script}
use Rattle.disk_commands.specs.Exercise.{exercise_script}
use Rattle.text_commands.specs.CallCourses.{ServesCalls}
use Rattle.disk_commands.specs.Rescue.{Rescues}

-- the outside of a world. A subcommand (form) on files alone changes only this: it asks no request, and the session
-- stays as it was
abbrev pub outside : World → Outside
outside world = record { files = world.files; report = world.report }

pub record OnFiles (Does : Outside → Outside → Status → Type 0) (old : World) (course : List Taken) (new : World) (ended : Status) : Type 0 where
  pub nothing : course ≡ []
  pub state : new.state ≡ old.state
  pub does : Does (outside old) (outside new) ended

-- what a subcommand asks for
abbrev pub DoesForm : Form → World → List Taken → World → Status → Type 0
DoesForm (form.Play job) old course new ended = Plays job old course new ended
DoesForm (form.Format name cylinders) old course new ended = RunsScript (format_script name cylinders R500) old course new ended
DoesForm (form.FormatDd name cylinders) old course new ended = RunsScript (format_script name cylinders R250) old course new ended
DoesForm (form.Copy from to) old course new ended = RunsScript (copy_script from to) old course new ended
DoesForm (form.Verify name) old course new ended = RunsScript (verify_script name) old course new ended
DoesForm (form.FromImd imd name) old course new ended = OnFiles (FromImd imd name) old course new ended
DoesForm (form.ToImd name imd) old course new ended = OnFiles (ToImd name imd) old course new ended
DoesForm (form.Survey name) old course new ended = OnFiles (Surveys name) old course new ended
DoesForm (form.Remaster from to) old course new ended = OnFiles (Remaster from to) old course new ended
DoesForm (form.Import flat name) old course new ended = Imports flat name old course new ended
DoesForm (form.Export name flat) old course new ended = RunsScript (export_script name flat) old course new ended
DoesForm (form.Exercise seed count) old course new ended = RunsScript (exercise_script seed count) old course new ended
DoesForm (form.Int13 calls) old course new ended = ServesCalls calls old course new ended
DoesForm (form.Rescue from to log) old course new ended = Rescues from to log old course new ended

-- the subcommand is done, or memory for its arguments ran out
pub data DoesOrStarves (asked : Form) (old : World) (course : List Taken) (new : World) (ended : Status) : Type 0 where
  AsAsked : DoesForm asked old course new ended → DoesOrStarves asked old course new ended
  StarvesWords : course ≡ [] → IsIdle old new status.NoMemory ended → DoesOrStarves asked old course new ended

-- what the program does with the subcommand that its arguments are, or with arguments that are none
abbrev pub Does : Option Form → World → List Taken → World → Status → Type 0
Does (Some asked) old course new ended = DoesOrStarves asked old course new ended
Does None old course new ended = TellsAlone bad_words_text status.BadWords old course new ended

-- the world that a session, a file store (shelf) and an output (sink) show
abbrev pub world_of : {S K : Type 0} → (S → Option Files) → (K → Option (List (List ℕ))) → State → S → K → World
world_of files report session shelf out = record { state = session; files = files shelf; report = report out }

-- a world of an outside and of a station that tells no names of its media
abbrev pub begun_on : StationState → Outside → World
begun_on station outside = record { state = start_of station; files = outside.files; report = outside.report }

abbrev pub left_on : StationState → Two (Option (List ℕ)) → Outside → World
left_on station names outside = record { state = record { station = station; names = names }; files = outside.files; report = outside.report }

-- what the arguments ask for was done on a fresh station. If the status reports a fault, it was counted once; else no
-- fault was counted
pub record RanWords (words : List (List ℕ)) (old : StationState) (before : FaultyOutside) (new : StationState) (after : FaultyOutside) (ended : Status) : Type 0 where
  pub runs : (names : Two (Option (List ℕ))) × Runs (Does (form_of words)) (begun_on old before.outside) (left_on new names after.outside) ended
  pub bad_words : ended ≡ status.BadWords → form_of words ≡ None
  pub shelf_faults : Blames (ended ≡ status.FileFault) before.shelf_faults after.shelf_faults
  pub sink_faults : Blames (ended ≡ status.SinkFault) before.sink_faults after.sink_faults
