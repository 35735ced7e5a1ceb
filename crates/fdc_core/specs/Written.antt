-- WRITE DATA, WRITE DELETED and FORMAT TRACK: what is known of a controller that executes them, or gives their results;
-- and what port accesses leave of what is known of a command.
use Rattle.std.specs.Prelude.{◌≡◌, ◌⊎◌, ℕ, Bool}
use Rattle.fdc_core.specs.Common.{Past, Numbers, Sent, Command, MayWriteIn, MayFormatIn}
use Rattle.fdc_core.specs.Heard.{MayRead, MayReadId}
use Rattle.fdc_core.specs.declared.controller.Fdc.{Fdc}
pub use Rattle.fdc_phases.specs.Written.{took}

-- the controller executes a write of what was sent, with this mark, or gives its results, and this is what it heard,
-- took and wrote
abbrev pub MayWrite : Past → Sent → Bool → Fdc → Type 0
MayWrite past sent deleted fdc = MayWriteIn past sent deleted fdc.phase fdc.asking fdc.fifo

-- the controller executes a FORMAT of these numbers on this head and drive, or gives its results, and this is what it
-- heard, took and wrote
abbrev pub MayFormat : Past → ℕ → Numbers → Fdc → Type 0
MayFormat past sent numbers fdc = MayFormatIn past sent numbers fdc.phase fdc.asking fdc.fifo

-- ---- port accesses

-- after an access to a port, what is known of a command is still known, or the controller takes commands again
pub record KeepsKnown (old new : Fdc) : Type 0 where
  pub reads : (past : Past) (sent : Sent) → MayRead past sent old → MayRead past sent new ⊎ (new.phase ≡ Command)
  pub identifies : (past : Past) (sent : ℕ) → MayReadId past sent old → MayReadId past sent new ⊎ (new.phase ≡ Command)
  pub writes : (past : Past) (sent : Sent) (deleted : Bool) → MayWrite past sent deleted old → MayWrite past sent deleted new ⊎ (new.phase ≡ Command)
  pub formats : (past : Past) (sent : ℕ) (numbers : Numbers) → MayFormat past sent numbers old → MayFormat past sent numbers new ⊎ (new.phase ≡ Command)
