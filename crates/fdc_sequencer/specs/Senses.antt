-- The controller of the sequencer, for a layer in front of the sequencer that keeps the results of seeks itself.
use Rattle.std.specs.Prelude.{ℕ, Option, None}
use Rattle.fdc_sequencer.specs.AdapterSenses.{pending_result, after_result}
use Rattle.fdc_sequencer.specs.Common.{recalibrated_within, Fdc}
use Rattle.fdc_sequencer.specs.Fronts.{Front, with_controller}
use Rattle.fdc_sequencer.specs.declared.stage.FrontStage.{FrontStage}
use Rattle.fdc_sequencer.specs.declared.stage.FrontStage.TheVariants.{Through}

-- the result that SENSE INTERRUPT would give
abbrev pub pending_at : FrontStage → Fdc → Option (ℕ × ℕ)
pending_at Through fdc = pending_result fdc
pending_at _ fdc = None

abbrev pub pending_outside : Front → Option (ℕ × ℕ)
pending_outside front = pending_at front.stage front.adapter.controller

-- the front after that result was taken
abbrev pub sensed_at : FrontStage → Front → Front
sensed_at Through old = record old { adapter = with_controller (after_result old.adapter.controller) old.adapter }
sensed_at _ old = old

abbrev pub sensed_outside : Front → Front
sensed_outside old = sensed_at old.stage old

-- a RECALIBRATE begins that gives at most this many pulses, if the first byte of a command may come and no heads move
abbrev pub recalibrated_at : FrontStage → ℕ → ℕ → Front → Front
recalibrated_at Through drive pulses old =
    record old { adapter = with_controller (recalibrated_within drive pulses old.adapter.controller) old.adapter }
recalibrated_at _ drive pulses old = old

abbrev pub recalibrated_outside : ℕ → ℕ → Front → Front
recalibrated_outside drive pulses old = recalibrated_at old.stage drive pulses old
