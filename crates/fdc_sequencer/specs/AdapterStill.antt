-- A controller that does nothing, or whose heads only move.
use Rattle.std.specs.Prelude.{◌≡◌, ℕ, ◌==◌, if◌then◌else◌}
use Rattle.fdc_sequencer.specs.Common.{pulses_ahead, Fdc}
use Rattle.fdc_sequencer.specs.Adapters.{AdapterState, StepsAdapter, selected_at}

-- each device step leaves the controller as it is, whatever the drives are and do
abbrev pub Stands : Fdc → Type 0
Stands fdc = (old new : AdapterState) → old.controller ≡ fdc → StepsAdapter old new → new.controller ≡ fdc

-- the cylinder under the heads of the drive that DOR selects. An absent drive never comes to cylinder 0
abbrev pub heads_at : AdapterState → ℕ
heads_at adapter =
    if selected_at adapter == 0 then adapter.first.cylinder else (if selected_at adapter == 1 then adapter.second.cylinder else 255)

-- the device steps in which a seek surely doesn't end, or 0 if none runs
abbrev pub steps_ahead : AdapterState → ℕ
steps_ahead adapter = pulses_ahead (heads_at adapter) adapter.controller.seeks
