-- INT between calls.
use Rattle.std.specs.Prelude.{◌≡◌, ℕ, Bool, true, false}
use Rattle.laws_chip.specs.Common.{interrupts_outside, ChipState}
use Rattle.fdc_chip.specs.declared.answer.ChipAnswer.{ChipAnswer}
use Rattle.fdc_chip.specs.declared.stage.ChipStage.TheVariants.{Ready, Telling}
use Rattle.laws_chip.specs.Calls as call
use Rattle.laws_chip.specs.Calls.{Call}

-- the channel takes a byte, or gives one
abbrev pub is_of_channel : Call → Bool
is_of_channel (call.Takes _) = true
is_of_channel (call.Gives _ _) = true
is_of_channel _ = false

-- the last byte of an answer was read, and INT of the inner controller is up, because a seek or poll ended meanwhile
pub record EndsAnswer (old new : ChipState) : Type 0 where
  pub answer : ChipAnswer
  pub read : ℕ
  pub told : old.stage ≡ Telling answer read
  pub ready : new.stage ≡ Ready
  pub ended : interrupts_outside new.front ≡ true
