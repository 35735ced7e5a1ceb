-- Device steps.
use Rattle.std.specs.Prelude.{◌≡◌, ◌≤◌, ℕ, zero, suc, ◌-◌, Bool, ◌==◌, Option, Some, None, if◌then◌else◌}
use Rattle.fdc_chip.specs.Common.{Front, TakesFront, interrupts_outside, told_front}
use Rattle.fdc_sequencer.specs.Moves.{StepsFront}
use Rattle.fdc_chip.specs.Chips.{ChipState, with_front, interrupts_chip, asks_chip}
use Rattle.fdc_chip.specs.Codes.{code_of}
use Rattle.fdc_chip.specs.Doing.{AttendsTo, drained}
use Rattle.fdc_chip.specs.Ending.{MayEnd}
use Rattle.fdc_chip.specs.Paces.{Paces}
use Rattle.fdc_chip.specs.declared.stage.ChipStage.{ChipStage}
use Rattle.fdc_chip.specs.declared.stage.ChipStage.TheVariants.{Ready, Held, Busy, Telling}
use Rattle.fdc_chip.specs.declared.stage.ChipTask.{ChipTask}
use Rattle.fdc_chip.specs.declared.stage.ChipTask.TheVariants.{Verify}

-- ---- the bytes of a VERIFY

-- a byte of a VERIFY went nowhere, if one was asked for. `left` bytes were left before. After the last of them the
-- inner controller is given the terminal count
abbrev pub SwallowsAs : Option ℕ → ℕ → Front → ℕ → Front → Type 0
SwallowsAs None left between now new = (now ≡ left) × (new ≡ between)
SwallowsAs (Some _) left between now new = (now ≡ left - 1) × (new ≡ (if left == 1 then told_front between else between))

pub record Swallows (left : ℕ) (old : Front) (now : ℕ) (new : Front) : Type 0 where
  pub byte : Option ℕ
  pub between : Front
  pub takes : TakesFront old byte between
  pub after : SwallowsAs byte left between now new

-- this is done this many times
unfoldable pub SwallowsBy : ℕ → ℕ → Front → ℕ → Front → Type 0
SwallowsBy zero left old now new = (now ≡ left) × (new ≡ old)
SwallowsBy (suc n) left old now new =
    (some : ℕ) × (between : Front) × SwallowsBy n left old some between × Swallows some between now new

-- this is done for as many bytes as the FIFO can have
pub record SwallowsAll (left : ℕ) (old new : ChipState) : Type 0 where
  pub now : ℕ
  pub front : Front
  pub swallows : SwallowsBy 16 left old.front now front
  pub after : new ≡ record old { front = front; stage = Busy (Verify now) }

-- ---- what is done after a step

abbrev pub FollowsTask : ChipTask → ChipState → ChipState → Type 0
FollowsTask (Verify left) old new =
    (between : ChipState) × SwallowsAll left old between × MayEnd (Verify left) between new
FollowsTask task old new = MayEnd task old new

-- a seek goes on whose pulses come in time. Results of seeks and polls are taken over, once INT of the inner controller
-- rises. A command that is held is done once the heads stand
abbrev pub Follows : ChipStage → ChipState → ChipState → Type 0
Follows Ready old new =
    (paced : ChipState) × Paces old.pace old paced × (new ≡ (if interrupts_outside paced.front then drained paced else paced))
Follows Held old new = (paced : ChipState) × Paces old.pace old paced × AttendsTo (code_of paced.order.code) paced new
Follows (Busy task) old new = FollowsTask task old new
Follows (Telling answer read) old new = Paces old.pace old new

-- one device step
pub record StepsChip (old new : ChipState) : Type 0 where
  pub between : Front
  pub steps : StepsFront old.front between
  pub follows : Follows old.stage (with_front between old) new

-- ---- many steps

-- these are the interrupt line and the request line
abbrev pub HasLinesChip : Bool → Bool → ChipState → Type 0
HasLinesChip int drq chip = (interrupts_chip chip ≡ int) × (asks_chip chip ≡ drq)

-- this many device steps, each of which begins with these lines
unfoldable pub RunsChipWith : Bool → Bool → ℕ → ChipState → ChipState → Type 0
RunsChipWith int drq zero old new = new ≡ old
RunsChipWith int drq (suc n) old new =
    (between : ChipState) × RunsChipWith int drq n old between × HasLinesChip int drq between × StepsChip between new

-- device steps until a line changes, at most `most`
pub record RunsChip (most : ℕ) (old : ChipState) (steps : ℕ) (new : ChipState) : Type 0 where
  pub within : steps ≤ most
  pub runs : RunsChipWith (interrupts_chip old) (asks_chip old) steps old new
  pub all : HasLinesChip (interrupts_chip old) (asks_chip old) new → steps ≡ most
