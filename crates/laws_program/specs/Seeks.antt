-- A machine that was made and then used, and the seeks on it.
use Rattle.std.specs.Prelude.{◌≡◌, ◌≤◌, ◌⊎◌, ℕ, false, List, [], ◌∷◌}
use Rattle.fdc_core.specs.Listening.{is_executing}
use Rattle.fdc_core.specs.declared.controller.Fdc.{Fdc}
use Rattle.fdc_commands.specs.Seeking.{is_seeking}
use Rattle.laws_program.specs.Common.{RunsNoSeek, seeks, IsFreshBoard, Board, Comes}
use Rattle.pc_bus.specs.Calls.{AreCalled}
use Rattle.text_commands.specs.PortCourses.{Taken, waits_of}

-- a machine was made, and then used by whatever calls
pub record IsUsed (board : Board) : Type 0 where
  pub made : Board
  pub calls : ℕ
  pub fresh : IsFreshBoard made
  pub called : AreCalled calls made board

-- no data command is in execution, or no seek runs
abbrev pub NotBoth : Fdc → Type 0
NotBoth fdc = (is_executing fdc.phase ≡ false) ⊎ (is_seeking fdc.seeks ≡ false)

-- a seek that runs at the beginning of these lines ends during them, within 256 device steps, if they wait as many
abbrev pub SeekEndsIn : Board → List Taken → Board → Type 0
SeekEndsIn old course new = 256 ≤ waits_of course → seeks old → Comes RunsNoSeek 256 (waits_of course) old new

-- the same holds of a seek that runs before any of the lines, and of the lines from there on
abbrev pub SeeksEnd : Board → List Taken → Board → Type 0
SeeksEnd old [] new = Unit {0}
SeeksEnd old (taken ∷ later) new = SeekEndsIn old (taken ∷ later) new × SeeksEnd taken.after.board later new
