-- How the program ends, by what the environment variable gave that names a plan.
use Rattle.std.specs.Prelude.{ℕ, List, [], ◌∷◌, codes, Option, Result, Ok, Err, String, string_bytes}
use Rattle.std.specs.declared.alloc.Global.{Global}
use Rattle.std.specs.declared.env.VarError.{VarError}
use Rattle.std.specs.declared.env.VarError.TheVariants as variable
use Rattle.floppy_tools.specs.Common.{Status, plain_state, MachineOf, absent_text, Prints, Outside, FaultyOutside}
use Rattle.flop_base.specs.declared.answers.Status.TheVariants as status
use Rattle.drive_model.specs.declared.plain.PlainDrive.{PlainDrive}
use Rattle.floppy_tools.specs.Runs.{EndsRun, LacksPlan, plain_parts, RunsNew, RunsPlanned, Starves}
use Rattle.floppy_tools.specs.declared.plan_variable.ProgramEnded.{ProgramEnded}
use Rattle.floppy_tools.specs.declared.plan_variable.ProgramEnded.TheVariants as ended

-- what runs if the variable gives no name: if it isn't set, the arguments on drives without faults, and else nothing
abbrev pub RunsUnplanned : VarError → List (List ℕ) → Outside → MachineOf PlainDrive → Outside → Status → Type 0
RunsUnplanned variable.NotPresent words = RunsNew plain_state plain_parts words
RunsUnplanned _ words = λ before left after ended. ⊥

-- how the program ends without a machine. The value isn't text, and no file has such a name; or memory for the value or
-- for a machine ran out
abbrev pub LacksName : VarError → Outside → Option (List (List ℕ)) → Status → Type 0
LacksName variable.NotUnicode = λ before report ended. Prints (absent_text (codes "FLOPPY_PLAN") ∷ []) status.Absent before.report report ended
LacksName _ = Starves

-- how the program ended, by what the variable gave: a plan's name, or why there is none
abbrev pub EndsProgram : Result (String Global) VarError → List (List ℕ) → FaultyOutside → FaultyOutside → ProgramEnded → Type 0
EndsProgram (Ok name) words old new (ended.Planned run) =
    EndsRun (RunsPlanned (string_bytes name) words) (LacksPlan (string_bytes name)) old new run.machine run.status
EndsProgram (Err cause) words old new (ended.Unplanned run) = EndsRun (RunsUnplanned cause words) (LacksName cause) old new run.machine run.status
EndsProgram _ words old new run = ⊥

-- the status with which the program ended
abbrev pub status_of : ProgramEnded → Status
status_of (ended.Planned run) = run.status
status_of (ended.Unplanned run) = run.status
