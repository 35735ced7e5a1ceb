-- How long the controller can wait for DMA: in so many device steps, no byte finds the FIFO full or is missing.
use Rattle.std.specs.Prelude.{◌≡◌, ℕ, ◌+◌, Bool, true, false}
use Rattle.fdc_core.specs.Common.{phase_asks, is_overrun, Phase, Execute}
use Rattle.fdc_core.specs.State.{is_gated}
use Rattle.fdc_core.specs.declared.controller.Fdc.{Fdc}
use Rattle.fdc_phases.specs.Waiting.{phase_counted, PhaseWaits}

-- so many device steps can pass without a transfer
abbrev pub CanWait : ℕ → Fdc → Type 0
CanWait slack fdc = PhaseWaits slack fdc.phase fdc.fifo

-- a device step of a controller that could wait so long and one step more. The step doesn't end with OR, and leaves a
-- controller that can wait so long. If the terminal count had come before the step, it has come after it too
pub record Lasts (slack : ℕ) (old new : Fdc) : Type 0 where
  pub no_overrun : is_overrun new.phase ≡ false
  pub waits : CanWait slack new
  pub uncounted : phase_counted new.phase ≡ false → phase_counted old.phase ≡ false

abbrev pub LastsIn : Phase → Fdc → Fdc → Type 0
LastsIn (Execute execution) old new = (slack : ℕ) → PhaseWaits (slack + 1) (Execute execution) old.fifo → Lasts slack old new
LastsIn _ old new = Unit {0}

abbrev pub LastsOn : Fdc → Fdc → Type 0
LastsOn old new = LastsIn old.phase old new

-- DRQ goes by the FIFO's rule, DOR lets it out, and the FIFO is on with the threshold 8
pub record Feeds (fdc : Fdc) : Type 0 where
  pub before : Bool
  pub asks : fdc.asking ≡ phase_asks fdc.phase before fdc.fifo
  pub gated : is_gated fdc ≡ true
  pub on : fdc.fifo.on ≡ true
  pub threshold : fdc.fifo.threshold ≡ 8
