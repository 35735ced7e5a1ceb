-- What the chip reports after a command.
use Rattle.std.specs.Prelude.{◌≡◌, ◌⊎◌, ℕ, true}
use Rattle.laws_chip.specs.Common.{bit_or, Results, Front, GivesCommand, results_taken, ChipState, identifying, unit_of, ChipTask, Sought}
use Rattle.fdc_registers.specs.St2.{wrong_cylinder, bad_cylinder}
use Rattle.fdc_chip.specs.declared.answer.ChipAnswer.TheVariants as answer
use Rattle.fdc_chip.specs.declared.stage.ChipStage.TheVariants.{Busy, Telling}

-- the host reads these results, and INT is up, where DOR lets it out
pub record Tells (results : Results) (chip : ChipState) : Type 0 where
  pub stage : chip.stage ≡ Telling (answer.Results results) 0
  pub line : chip.interrupts.line ≡ true

-- once the chip has taken these results from the front, READ ID looks which cylinder passes
pub record LooksFor (results : Results) (told : Front) (new : ChipState) : Type 0 where
  pub stage : new.stage ≡ Busy (Sought results)
  pub gives : GivesCommand (identifying (unit_of results)) (results_taken told) new.front

-- WC, or WC and BC, or neither
abbrev pub AreOfCylinder : ℕ → Type 0
AreOfCylinder bits = (bits ≡ 0) ⊎ ((bits ≡ wrong_cylinder) ⊎ (bits ≡ bit_or wrong_cylinder bad_cylinder))

-- nothing but these bits of ST2 is added
pub record AddsCylinder (first told : Results) : Type 0 where
  pub bits : ℕ
  pub among : AreOfCylinder bits
  pub told_is : told ≡ record first { st2 = record { 0 = bit_or first.st2.0 bits } }

-- the chip goes on looking, or the results are given with these bits added
abbrev pub LooksOrTells : Results → ChipState → Type 0
LooksOrTells first new =
    (new.stage ≡ Busy (Sought first)) ⊎ ((told : Results) × AddsCylinder first told × Tells told new)

-- a command is executed, or its results are given
abbrev pub IsBusyOrTells : ChipState → Type 0
IsBusyOrTells chip = ((task : ChipTask) × (chip.stage ≡ Busy task)) ⊎ ((results : Results) × Tells results chip)
