-- A front in which nothing is done.
use Rattle.std.specs.Prelude.{Bool, true, false, if◌then◌else◌}
use Rattle.fdc_sequencer.specs.Common.{is_at_rest}
use Rattle.fdc_sequencer.specs.Fronts.{Front, KeepsFront}
use Rattle.fdc_sequencer.specs.Moves.{StepsFront}
use Rattle.fdc_sequencer.specs.declared.stage.FrontStage.{FrontStage}
use Rattle.fdc_sequencer.specs.declared.stage.FrontStage.TheVariants.{Seeking, Moving}

-- a device step is the adapter's, and nothing is done after it
abbrev pub rests_at : FrontStage → Bool
rests_at (Seeking _ _) = false
rests_at (Moving _) = false
rests_at _ = true

-- nothing is done after a device step, and the controller does nothing either
abbrev pub stands_at : Front → Bool
stands_at front = if rests_at front.stage then is_at_rest front.adapter.controller else false

-- each device step leaves all but the drives as it is
abbrev pub StandsFront : Front → Type 0
StandsFront front = (old new : Front) → KeepsFront front old → StepsFront old new → KeepsFront front new
