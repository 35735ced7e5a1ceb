-- Device steps of a front in which nothing is done.
use Rattle.std.proofs.Common.{◌≡◌, Bool, Option, true, sym, ap, ◌∙◌, subst}
use Rattle.fdc_sequencer.proofs.Common.{true≢false, AdapterState, Stands, mark_of, Front, KeepsFront, FollowsStep, StepsFront, FrontStage, Seeking, Moving}
use Rattle.fdc_sequencer.specs.Still.{StandsFront, rests_at}

-- nothing is done after the adapter's step
follows_none : (mark : Option Bool) (stage : FrontStage) (old new : Front) → rests_at stage ≡ true → FollowsStep mark stage old new → new ≡ old
follows_none mark (Seeking transfer counted) old new rests follows = absurd (true≢false (sym rests))
follows_none mark (Moving moving) old new rests follows = absurd (true≢false (sym rests))
follows_none mark _ old new rests follows = follows

-- the device step is the adapter's alone
rests_on : (old new : Front) (step : StepsFront old new) → rests_at old.stage ≡ true → new ≡ record old { adapter = step.between }
rests_on old new step rests = follows_none (mark_of old.adapter.controller) old.stage (record old { adapter = step.between }) new rests step.follows

-- if that step leaves the controller as it is, all but the drives stays
adapter_stands : (front old : Front) (between : AdapterState) → KeepsFront front old → between.controller ≡ front.adapter.controller → KeepsFront front (record old { adapter = between })
adapter_stands front old between keeps same =
    record { controller = same; stage = keeps.stage }

pub stands_front : (front : Front) → rests_at front.stage ≡ true → Stands front.adapter.controller → StandsFront front
stands_front front rests stands old new keeps step =
    subst (KeepsFront front) (sym (rests_on old new step (ap rests_at keeps.stage ∙ rests)))
    (adapter_stands front old step.between keeps (stands old.adapter step.between keeps.controller step.steps))
