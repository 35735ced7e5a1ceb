-- A SENSE INTERRUPT whose results are read at once.
use Rattle.std.specs.Prelude.{ℕ, false, Option, Some, None, [], if◌then◌else◌}
use Rattle.fdc_sequencer.specs.Common.{sensed, after_sense, is_idle, Fdc}
use Rattle.fdc_phases.specs.declared.phases.Phase.TheVariants.{Command}

-- what SENSE INTERRUPT would give: ST0 of the lowest drive with a pending result, and its present cylinder number
abbrev pub pending_result : Fdc → Option (ℕ × ℕ)
pending_result fdc = if is_idle fdc then sensed fdc.seeks else None

-- after that result was taken, INT is down, and the controller takes commands
abbrev pub without_result : Option (ℕ × ℕ) → Fdc → Fdc
without_result None old = record old { phase = Command; command = [] }
without_result (Some _) old = record old { phase = Command; command = []; seeks = after_sense old.seeks; interrupt = false }

abbrev pub after_result : Fdc → Fdc
after_result old = if is_idle old then without_result (sensed old.seeks) old else old
