-- Device steps as a whole, and many of them in a row.
use Rattle.std.specs.Prelude.{◌≡◌, ◌==◌, ◌&&◌, ℕ, zero, suc, ◌+◌, ◌≤◌, Bool, true, false, not, is_some, List, length, if◌then◌else◌}
use Rattle.fdc_core.specs.Common.{DriveState, at_index, LetsPass, AreAhead, ending_of_phase, mark_of_phase, Phase, Execute, first_pending, is_seeking, Search, HearsNothingIn}
use Rattle.fdc_core.specs.Listening.{Listens, ListensToNone}
use Rattle.fdc_core.specs.State.{asks, interrupts, is_held}
use Rattle.fdc_core.specs.Steps.{polled, let_pass, Rests, MovesDrive, Ends, Stays, Flows}
use Rattle.fdc_core.specs.Tasks.{StepsNowhere}
use Rattle.fdc_core.specs.Waiting.{LastsOn}
use Rattle.fdc_core.specs.Writes.{WritesOn}
use Rattle.fdc_core.specs.declared.controller.Fdc.{Fdc}

-- the controller and the selected drive make a device step
pub record Works (old : Fdc) (before : DriveState) (new : Fdc) (after : DriveState) : Type 0 where
  pub rests : Rests (before.cylinder == 0) (polled old) new
  pub reads : Listens (polled old) (at_index before) old before after new
  pub writes : WritesOn (polled old) old before after new
  pub drive : MovesDrive (polled old) before after
  pub ends : Ends old new
  pub stays : Stays old new
  pub flows : Flows old new
  pub lasts : LastsOn old new

-- the controller makes a device step where no drive is selected
pub record WorksAlone (old new : Fdc) : Type 0 where
  pub rests : Rests false (polled old) new
  pub reads : ListensToNone (polled old) old new
  pub nowhere : StepsNowhere old.phase (polled old) new
  pub ends : Ends old new
  pub stays : Stays old new
  pub flows : Flows old new

-- the DMA request line and the interrupt line are as before. How a data command ended, if it did, is as before too, and
-- so is the mark of its field, if one was met
pub record HoldsLines (old new : Fdc) : Type 0 where
  pub request : asks new ≡ asks old
  pub interrupt : interrupts new ≡ interrupts old
  pub ended : ending_of_phase new.phase ≡ ending_of_phase old.phase
  pub mark : mark_of_phase new.phase ≡ mark_of_phase old.phase

-- so many device steps with the selected drive, in which neither line changes
unfoldable pub Courses : ℕ → Fdc → DriveState → Fdc → DriveState → Type 0
Courses zero old before new after = (new ≡ old) × (after ≡ before)
Courses (suc count) old before new after =
    (mid : Fdc) × (between : DriveState) × Works old before mid between × HoldsLines old mid
    × Courses count mid between new after

-- a data command is in its execution
abbrev pub executes : Phase → Bool
executes (Execute _) = true
executes _ = false

-- the poll comes in the next device step: it is due, and DOR doesn't hold the controller in reset
abbrev pub comes_poll : Fdc → Bool
comes_poll fdc = fdc.poll_due && not (is_held fdc)

-- no poll comes, no seek runs, and no data command is in its execution
abbrev pub is_at_rest : Fdc → Bool
is_at_rest fdc = if comes_poll fdc then false else if is_seeking fdc.seeks then false else not (executes fdc.phase)

-- a device step changes nothing of the controller, with any drive and with none, and lets a word time pass in which no
-- fault comes
pub record IsStill (fdc : Fdc) : Type 0 where
  pub works : (before : DriveState) → Works fdc before fdc (let_pass before)
  pub alone : WorksAlone fdc fdc

-- no poll comes, and DRQ is down
pub record IsQuiet (fdc : Fdc) : Type 0 where
  pub due : fdc.poll_due ≡ false
  pub down : fdc.asking ≡ false

-- so many words in a row pass by a search, in as many device steps of a data command, none of which is its last
pub record PassesMany (head steps last count : ℕ) (search final : Search) (before after : DriveState) : Type 0 where
  pub last_is : last ≡ steps + count
  pub few : last ≤ 65535
  pub words : List ℕ
  pub count_is : length words ≡ count
  pub ahead : AreAhead head words before
  pub hears : HearsNothingIn words search final
  pub passes : LetsPass count before after

-- no poll comes in the next device step, and no result of a seek or poll is pending
abbrev pub awaits_nothing : Fdc → Bool
awaits_nothing fdc = if comes_poll fdc then false else not (is_some (first_pending fdc.seeks))
