-- How long commands last in a run of port accesses.
use Rattle.std.specs.Prelude.{◌≡◌, ◌≤◌, ℕ, false, List, [], ◌∷◌}
use Rattle.fdc_core.specs.Listening.{is_executing}
use Rattle.laws_machine.specs.OnSteps.Ends.{RunsNoSeek, IsOver, Meets, seeks}
use Rattle.text_commands.specs.Common.{Board, controller_of}
use Rattle.text_commands.specs.Benches.{Bench}
use Rattle.text_commands.specs.PortCourses.{Taken, waits_of}

-- on a course of at least as many device steps as lines waited, there is a board of which this holds, after at most
-- `most` of these steps
pub record Comes (P : Board → Type 0) (most waits : ℕ) (old new : Board) : Type 0 where
  pub steps : ℕ
  pub least : waits ≤ steps
  pub meets : Meets P most old steps new

-- what runs at the beginning of these lines finishes during them, if they wait long enough:
-- - If they wait 65,536 device steps, a data command in execution ends within as many, unless another one began.
-- - If they wait 256 device steps, and no data command is in execution, a seek ends within as many.
pub record FinishesIn (old : Bench) (course : List Taken) (new : Bench) : Type 0 where
  pub command : 65536 ≤ waits_of course → Comes (IsOver old.board) 65536 (waits_of course) old.board new.board
  pub seek : 256 ≤ waits_of course → is_executing (controller_of old.board).phase ≡ false → seeks old.board
      → Comes RunsNoSeek 256 (waits_of course) old.board new.board

-- whatever runs before any of the lines finishes in the same way during the lines from there on
abbrev pub EndInTime : Bench → List Taken → Bench → Type 0
EndInTime old [] new = Unit {0}
EndInTime old (taken ∷ later) new = FinishesIn old (taken ∷ later) new × EndInTime taken.after later new
