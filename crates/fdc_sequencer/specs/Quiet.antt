-- For how many device steps a command that is executed surely changes neither line, and how large the number is.
use Rattle.std.specs.Prelude.{◌≡◌, ◌⊎◌, ◌≤◌, ℕ, zero, suc, min, Bool, true, false, not, if◌then◌else◌, None}
use Rattle.fdc_sequencer.specs.Common.{DriveState, is_executing, Foresees, IsLongest, IsQuietBy, mark_of, Fdc}
use Rattle.fdc_sequencer.specs.Adapters.{AdapterState, drive_at, selected_at}
use Rattle.fdc_sequencer.specs.AdapterStill.{steps_ahead}
use Rattle.fdc_sequencer.specs.Fronts.{Front, asks_outside, interrupts_outside, results_outside}
use Rattle.fdc_sequencer.specs.Moves.{IsUnderWay, StepsFront, is_unwanted}
use Rattle.fdc_sequencer.specs.declared.stage.FrontStage.{FrontStage}
use Rattle.fdc_sequencer.specs.declared.stage.FrontStage.TheVariants.{Through, Seeking, Moving}

-- the drive that DOR selects, as contracts see it, where that is drive 0 or 1
abbrev pub drive_selected : AdapterState → DriveState
drive_selected adapter = drive_at adapter (selected_at adapter)

-- this many device steps, whatever the drives do in them
unfoldable pub StepsFrontBy : ℕ → Front → Front → Type 0
StepsFrontBy zero old new = new ≡ old
StepsFrontBy (suc n) old new = (between : Front) × StepsFrontBy n old between × StepsFront between new

-- the same is under way, both lines are as they were, and no results wait
pub record GoesAlong (old new : Front) : Type 0 where
  pub stage : new.stage ≡ old.stage
  pub interrupt : interrupts_outside new ≡ interrupts_outside old
  pub request : asks_outside new ≡ asks_outside old
  pub results : results_outside new ≡ None

-- this holds after each number of device steps from 1 up to this one
abbrev pub GoesAlongFor : ℕ → Front → Type 0
GoesAlongFor most old = (n : ℕ) (new : Front) → 1 ≤ n → n ≤ most → StepsFrontBy n old new → GoesAlong old new

-- ---- what a promise for a command that is executed rests on

-- heads go to the cylinder of a command of several sectors
abbrev pub seeks_at : FrontStage → Bool
seeks_at (Seeking _ _) = true
seeks_at _ = false

-- so many device steps of the controller with the selected drive change neither line, end no data command and meet no
-- data mark. While heads go to a command's cylinder this isn't asked for
abbrev pub IsQuietAt : FrontStage → ℕ → AdapterState → Type 0
IsQuietAt (Seeking _ _) count adapter = Unit {0}
IsQuietAt _ count adapter = IsQuietBy count adapter.controller (drive_selected adapter)

abbrev pub IsQuietBehind : ℕ → Front → Type 0
IsQuietBehind count front = IsQuietAt front.stage count front.adapter

-- this is foreseen of a READ ID, a READ DATA and the search of a write, if no fault can come, and by what was heard of
-- the track. Of a write after its search, and of a FORMAT, it is foreseen whatever the drive does
abbrev pub ForeseesAt : FrontStage → ℕ → AdapterState → Type 0
ForeseesAt (Seeking _ _) count adapter = Unit {0}
ForeseesAt _ count adapter = Foresees count adapter.controller (drive_selected adapter)

abbrev pub ForeseesBehind : ℕ → Front → Type 0
ForeseesBehind count front = ForeseesAt front.stage count front.adapter

-- the controller executes a command, and nothing is to be done in front while the command goes on
abbrev pub IsInCommand : Front → Type 0
IsInCommand front = ((front.stage ≡ Through) × (is_executing front.adapter.controller.phase ≡ true)) ⊎ IsUnderWay front

-- ---- how large the number is

-- the controller executes a command, and nothing is to be done in front while the command goes on. Of a command of
-- several sectors, no field has a mark that isn't wanted
abbrev pub executes_at : FrontStage → Fdc → Bool
executes_at Through controller = is_executing controller.phase
executes_at (Moving moving) controller =
    if is_executing controller.phase then not (is_unwanted moving (mark_of controller)) else false
executes_at _ controller = false

-- how large the number is. While heads go to a command's cylinder, and the controller executes no other command, it
-- counts all steps before their seek can end, as long as they aren't more than were asked for. While the controller
-- executes a command, it's as large as that of the controller with the drive that DOR selects
abbrev pub IsLongestAt : FrontStage → ℕ → ℕ → AdapterState → Type 0
IsLongestAt (Seeking _ _) most count adapter =
    is_executing adapter.controller.phase ≡ false → count ≡ min most (steps_ahead adapter)
IsLongestAt stage most count adapter =
    executes_at stage adapter.controller ≡ true → selected_at adapter ≤ 1 → IsLongest most count adapter.controller (drive_selected adapter)

abbrev pub IsLongestBehind : ℕ → ℕ → Front → Type 0
IsLongestBehind most count front = IsLongestAt front.stage most count front.adapter
