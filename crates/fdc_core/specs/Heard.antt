-- READ DATA and READ ID: what is known of a controller that executes them, or gives their results.
use Rattle.std.specs.Prelude.{ℕ}
use Rattle.fdc_core.specs.Common.{Past, MayReadIn, MayReadIdIn}
use Rattle.fdc_core.specs.declared.controller.Fdc.{Fdc}
pub use Rattle.fdc_phases.specs.Heard.{Sent, gave, told_in}

-- the controller executes a READ DATA of what was sent, or gives its results, and this is what it heard and gave
abbrev pub MayRead : Past → Sent → Fdc → Type 0
MayRead past sent fdc = MayReadIn past sent fdc.phase fdc.asking fdc.fifo.bytes

-- the controller executes a READ ID of this head and drive, or gives its results, and this is what it heard
abbrev pub MayReadId : Past → ℕ → Fdc → Type 0
MayReadId past sent fdc = MayReadIdIn past sent fdc.phase
