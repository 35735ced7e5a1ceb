-- A reset, and the results of its poll.
use Rattle.std.specs.Prelude.{◌≡◌, ℕ, ◌+◌, Bool, true, false, ◌==◌, Option, Some, None, List, [], ◌∷◌, if◌then◌else◌, nat_lt}
use Rattle.fdc_commands.specs.Seeking as seeking
use Rattle.laws_chip.specs.Common.{is_held, Taking, Front, Through, ChipState, at_rest, ChipStage}
use Rattle.fdc_chip.specs.declared.answer.ChipAnswer.TheVariants.{Sensed}
use Rattle.fdc_chip.specs.declared.stage.ChipStage.TheVariants.{Ready, Telling}
use Rattle.laws_chip.specs.Calls as call
use Rattle.laws_chip.specs.Calls.{Call}

-- the inner controller does nothing, and each drive counts as at cylinder 0 and has no result. The poll of a reset is
-- to come, or not
pub record IsFreshBehind (due : Bool) (front : Front) : Type 0 where
  pub through : front.stage ≡ Through
  pub takes : front.adapter.controller.phase ≡ Taking
  pub whole : front.adapter.controller.command ≡ []
  pub seeks : front.adapter.controller.seeks ≡ seeking.at_rest
  pub poll : front.adapter.controller.poll_due ≡ due
  pub down : front.adapter.controller.interrupt ≡ false

-- the chip was reset, and its poll is to come
pub record AwaitsPoll (chip : ChipState) : Type 0 where
  pub stage : chip.stage ≡ Ready
  pub count : chip.count ≡ 0
  pub results : chip.interrupts ≡ at_rest
  pub unpaced : chip.pace ≡ None
  pub behind : IsFreshBehind true chip.front

-- the call reads or writes the data port
abbrev pub is_of_data_port : Call → Bool
is_of_data_port (call.Reads port value) = port == 0x3F5
is_of_data_port (call.Writes port value) = port == 0x3F5
is_of_data_port _ = false

-- ---- the results of the poll

-- ST0 of the poll of each drive is C0 and its number. The results of the drives below this one were taken
abbrev pub poll_from : ℕ → ℕ → Option ℕ
poll_from first drive = if nat_lt drive first then None else Some (0xC0 + drive)

abbrev pub polls_from : ℕ → List (Option ℕ)
polls_from first = poll_from first 0 ∷ poll_from first 1 ∷ poll_from first 2 ∷ poll_from first 3 ∷ []

-- the results of the poll are pending, each drive counts as at cylinder 0, and nothing else is under way
pub record HasPolls (first : ℕ) (stage : ChipStage) (chip : ChipState) : Type 0 where
  pub at : chip.stage ≡ stage
  pub count : chip.count ≡ 0
  pub pending : chip.interrupts.pending ≡ polls_from first
  pub cylinders : chip.interrupts.cylinders ≡ 0 ∷ 0 ∷ 0 ∷ 0 ∷ []
  pub unpaced : chip.pace ≡ None
  pub free : is_held chip.front.adapter.controller ≡ false
  pub behind : IsFreshBehind false chip.front

-- so many bytes were read of what SENSE INTERRUPT reports of a drive: ST0 and the cylinder
abbrev pub telling_poll : ℕ → ℕ → ChipStage
telling_poll drive read = Telling (Sensed (0xC0 + drive) 0) read
