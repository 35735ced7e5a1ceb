-- Runs of the top call on a machine that was made for it.
use Rattle.std.specs.Prelude.{◌≡◌, ◌⊎◌, ℕ, List, [], ◌∷◌, Option, None, Some, Ok, IfSome, IsSomeAnd}
use Rattle.floppy_tools.specs.Common.{file_at, Status, DriveState, at_rest, script_state, told, Plan, plan_spelled, Pace, Board, board, IsNew, MachineOf, all_counts, Blames, Outside, FaultyOutside}
use Rattle.flop_base.specs.declared.answers.Status.TheVariants as status
use Rattle.drive_model.specs.Fault.{total_left}
use Rattle.drive_model.specs.declared.fault.Fault.{Fault}
use Rattle.drive_model.specs.declared.script.ScriptDrive.{ScriptDrive}
use Rattle.floppy_tools.specs.Performed.{DoesWords}
use Rattle.floppy_tools.specs.Plans.{EndsWithoutPlan, Silent}

-- what a machine is made of: the drives of its bays, the spare ones, and its timing (pace)
pub record Parts : Type 0 where
  pub bay0 : DriveState
  pub bay1 : DriveState
  pub spares : List DriveState
  pub gaps : List ℕ
  pub holds : List ℕ
  pub strays : List ℕ

-- a new drive, for which these faults are planned
abbrev pub planned_drive : List Fault → DriveState
planned_drive faults = at_rest (told 0 (total_left faults))

-- what a plan asks for
abbrev pub parts_of : Plan → Parts
parts_of plan = record {
  bay0 = planned_drive plan.bay0;
  bay1 = planned_drive plan.bay1;
  spares = planned_drive plan.spare0 ∷ planned_drive plan.spare1 ∷ [];
  gaps = plan.gaps;
  holds = plan.holds;
  strays = plan.strays;
}

-- the parts of a machine whose drives have no faults, and which nothing delays
abbrev pub plain_parts : Parts
plain_parts = record {
  bay0 = at_rest (Some 0);
  bay1 = at_rest (Some 0);
  spares = at_rest (Some 0) ∷ at_rest (Some 0) ∷ [];
  gaps = [];
  holds = [];
  strays = [];
}

-- a new machine of these parts
pub record IsMadeOf (parts : Parts) (new : Board) : Type 0 where
  pub pace : Pace
  pub gaps : pace.gaps.items ≡ parts.gaps
  pub holds : pace.holds.items ≡ parts.holds
  pub strays : pace.strays.items ≡ parts.strays
  pub made : IsNew pace parts.bay0 parts.bay1 new

-- the program ran on a new machine of these parts: what the arguments (words) say ran over it, with a driver or at its
-- ports, up to the machine that comes back
pub record RunsNew {D : Type 0} (state : D → DriveState) (parts : Parts) (words : List (List ℕ)) (before : Outside) (left : MachineOf D) (after : Outside) (ended : Status) : Type 0 where
  pub new : Board
  pub made : IsMadeOf parts new
  pub does : DoesWords words new (all_counts (λ drive. drive) parts.spares) before (board state left) after ended

-- the program ran on a new machine of the parts that the plan of this name asks for
pub record RunsPlanned (name : List ℕ) (words : List (List ℕ)) (before : Outside) (left : MachineOf ScriptDrive) (after : Outside) (ended : Status) : Type 0 where
  pub plan : Plan
  pub spelled : IfSome before.files (λ files. IsSomeAnd (file_at files name) (λ text. plan_spelled text ≡ Ok plan))
  pub runs : RunsNew script_state (parts_of plan) words before left after ended

-- how a run ended that needs a machine: what it did if one was made, and how it ended without one, which changed no
-- file. If the status reports a fault, it was counted once; else no fault was counted
pub record EndsRun {Machine : Type 0} (Does : Outside → Machine → Outside → Status → Type 0) (Without : Outside → Option (List (List ℕ)) → Status → Type 0) (old new : FaultyOutside) (machine : Option Machine) (ended : Status) : Type 0 where
  pub runs : IfSome machine (λ left. Does old.outside left new.outside ended)
  pub no_machine : machine ≡ None → Without old.outside new.outside.report ended
  pub untouched : machine ≡ None → new.outside.files ≡ old.outside.files
  pub shelf_faults : Blames (ended ≡ status.FileFault) old.shelf_faults new.shelf_faults
  pub sink_faults : Blames (ended ≡ status.SinkFault) old.sink_faults new.sink_faults

-- memory for a machine ran out
abbrev pub Starves : Outside → Option (List (List ℕ)) → Status → Type 0
Starves before report ended = Silent status.NoMemory before.report report ended

-- memory for the machine that a plan asks for ran out, or the plan of this name wasn't loaded or wasn't read
abbrev pub LacksPlan : List ℕ → Outside → Option (List (List ℕ)) → Status → Type 0
LacksPlan plan before report ended =
    EndsWithoutPlan before.files plan before.report report ended ⊎ Silent status.NoMemory before.report report ended
