-- For how many device steps INT and DRQ surely stay as they are.
use Rattle.std.specs.Prelude.{◌≡◌, ◌⊎◌, ◌≤◌, ℕ, zero, suc, min, Bool, true, false, is_none, Option, None, Some, if◌then◌else◌}
use Rattle.fdc_core.specs.Courses.{awaits_nothing}
use Rattle.fdc_sequencer.specs.AdapterStill.{steps_ahead}
use Rattle.fdc_chip.specs.Common.{interrupts_outside, is_ready, ForeseesBehind, IsLongestBehind, IsQuietBehind, seeks_at}
use Rattle.fdc_sequencer.specs.Still.{stands_at, StandsFront}
use Rattle.fdc_sequencer.specs.declared.stage.FrontStage.{FrontStage}
use Rattle.fdc_chip.specs.Chips.{ChipState, interrupts_chip, asks_chip}
use Rattle.fdc_chip.specs.Codes.{code_of}
use Rattle.fdc_chip.specs.Doing.{needs_heads}
use Rattle.fdc_chip.specs.Paces.{steps_left}
use Rattle.fdc_chip.specs.Settings.{step_words}
use Rattle.fdc_chip.specs.Steps.{HasLinesChip, StepsChip}
use Rattle.fdc_chip.specs.declared.code.ChipOpcode.{ChipOpcode}
use Rattle.fdc_chip.specs.declared.order.Order.{Order}
use Rattle.fdc_chip.specs.declared.pace.PacedSeek.{PacedSeek}
use Rattle.fdc_chip.specs.declared.stage.ChipStage.{ChipStage}
use Rattle.fdc_chip.specs.declared.stage.ChipStage.TheVariants.{Ready, Held, Busy, Telling}
use Rattle.fdc_chip.specs.declared.stage.ChipTask.{ChipTask}
use Rattle.fdc_chip.specs.declared.stage.ChipTask.TheVariants.{Verify}

-- this many device steps, whatever the drives do in them
unfoldable pub StepsBy : ℕ → ChipState → ChipState → Type 0
StepsBy zero old new = new ≡ old
StepsBy (suc n) old new = (between : ChipState) × StepsBy n old between × StepsChip between new

-- after each number of device steps up to this one, both lines are as they were
abbrev pub IsQuietFor : ℕ → ChipState → Type 0
IsQuietFor most old =
    (n : ℕ) (new : ChipState) → n ≤ most → StepsBy n old new → HasLinesChip (interrupts_chip old) (asks_chip old) new

-- no command is under way that a device step goes on with
abbrev pub rests_at : ChipStage → Bool
rests_at Ready = true
rests_at (Telling _ _) = true
rests_at _ = false

-- no command is under way that a device step goes on with, and no pulses are to come in the time that SPECIFY sets
abbrev pub idles : ChipState → Bool
idles chip = if is_none chip.pace then rests_at chip.stage else false

-- moreover the inner controller does nothing, and has no result that is to be taken over
abbrev pub is_still_at : ChipState → Bool
is_still_at chip = if interrupts_outside chip.front then false else if idles chip then stands_at chip.front else false

-- INT can't change: no command is executed or held, and either DOR lets no line out, or INT is up already
abbrev pub is_settled : ChipState → Bool
is_settled chip = if rests_at chip.stage then (if chip.gated then chip.interrupts.line else true) else false

-- the host reads an answer, and no pulses are to come in the time that SPECIFY sets. What the inner controller does
-- isn't taken over before the answer is read
abbrev pub tells_alone : ChipStage → Option PacedSeek → Bool
tells_alone (Telling _ _) None = true
tells_alone _ _ = false

-- ---- while heads move

-- whether a held command with this code is held until the heads stand
abbrev pub is_for_heads : Option ChipOpcode → Bool
is_for_heads None = false
is_for_heads (Some code) = needs_heads code

-- no command is executed, and a command that is held waits for the heads
abbrev pub waits_at : ChipStage → Order → Bool
waits_at Ready order = true
waits_at Held order = is_for_heads (code_of order.code)
waits_at (Busy _) order = false
waits_at (Telling _ _) order = true

-- moreover the inner controller takes commands, and has no result, now or from a poll in the next device step
abbrev pub awaits_heads : ChipState → Bool
awaits_heads chip =
    if waits_at chip.stage chip.order then (
    if is_ready chip.front then (
    if interrupts_outside chip.front then false else awaits_nothing chip.front.adapter.controller) else false) else false

-- the device steps in which the heads surely don't come to the end of their seek: one for each pulse, or what the time
-- that SPECIFY sets makes of the pulses
abbrev pub head_steps : Option PacedSeek → ChipState → ℕ
head_steps None chip = steps_ahead chip.front.adapter
head_steps (Some pace) chip = steps_left (step_words chip.settings) pace

abbrev pub due_steps : ChipState → ℕ
due_steps chip = if awaits_heads chip then head_steps chip.pace chip else 0

-- the number of device steps, at most `most`, for which the lines are said to stay where no command is executed. It is
-- `most` if nothing runs, or if INT can't change
abbrev pub quiet_steps : (most : ℕ) → ChipState → ℕ
quiet_steps most chip =
    if is_still_at chip then most else (
    if is_settled chip then most else (
    if tells_alone chip.stage chip.pace then most else min most (due_steps chip)))

-- no command is under way that a device step goes on with, and no pulses are to come
pub record IsIdle (chip : ChipState) : Type 0 where
  pub rests : rests_at chip.stage ≡ true
  pub unpaced : chip.pace ≡ None

-- the inner controller does nothing either, and has no result that is to be taken over. Each device step leaves all but
-- the drives as it is
pub record IsStill (chip : ChipState) : Type 0 where
  pub idle : IsIdle chip
  pub down : interrupts_outside chip.front ≡ false
  pub stands : StandsFront chip.front

-- no command is executed or held, and either DOR lets no line out, or INT is up already
pub record IsSettled (chip : ChipState) : Type 0 where
  pub rests : rests_at chip.stage ≡ true
  pub fixed : (chip.gated ≡ false) ⊎ (chip.interrupts.line ≡ true)

-- ---- while a command is executed

-- the inner controller executes a command
abbrev pub is_busy : ChipStage → Bool
is_busy (Busy _) = true
is_busy _ = false

-- a device step takes no byte of what is executed. The bytes of a VERIFY go nowhere, and are taken in each step, but
-- none comes while the heads go to its cylinder
abbrev pub takes_none : ChipTask → FrontStage → Bool
takes_none (Verify _) stage = seeks_at stage
takes_none _ stage = true

-- a command is executed, and a device step only waits for its results
abbrev pub awaits_results : ChipStage → FrontStage → Bool
awaits_results (Busy task) stage = takes_none task stage
awaits_results _ stage = false

-- ---- both

-- so many device steps, at most `most`, surely leave INT and DRQ as they are.
--
-- Where no command is executed, the number is that of `quiet_steps`, and this holds whatever the drives do. While a
-- command is executed, the number is computed from the words that pass next, and this holds if the inner controller's
-- own lines stay by so many steps. That is foreseen of a READ ID, a READ DATA and the search of a write if no fault can
-- come, and by what was heard of the track. Of a write after its search, and of a FORMAT, it is foreseen whatever the
-- drive does. While the heads go to the command's cylinder, nothing has to be known. While a device step only waits for
-- the results of a command, `longest` says how large the number is
pub record StaysQuiet (most : ℕ) (chip : ChipState) (count : ℕ) : Type 0 where
  pub few : count ≤ most
  pub value : is_busy chip.stage ≡ false → count ≡ quiet_steps most chip
  pub rests : is_busy chip.stage ≡ false → IsQuietFor count chip
  pub foresees : is_busy chip.stage ≡ true → ForeseesBehind count chip.front
  pub executes : is_busy chip.stage ≡ true → IsQuietBehind count chip.front → IsQuietFor count chip
  pub longest : awaits_results chip.stage chip.front.stage ≡ true → IsLongestBehind most count chip.front
