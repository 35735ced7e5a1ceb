-- Device steps of a command that is executed: nothing is done after them until results come.
use Rattle.std.proofs.Common.{◌≡◌, ℕ, zero, suc, ◌-◌, true, Option, None, refl, sym, ap, subst, ◌∙◌, arith}
use Rattle.fdc_chip.proofs.Common.{false≢true, Front, TakesAt, results_outside, FrontStage, Seeking, ChipState, KeepsRest, asks_chip, interrupts_chip, with_front, EndsAs, MayEnd, judged, IsQuietFor, awaits_results, is_busy, takes_none, Follows, FollowsTask, HasLinesChip, Swallows, SwallowsAll, SwallowsAs, ChipStage, Busy, Sent, Sought, Refused, Verify, Track}
use Rattle.std.specs.Prelude.{option_map}
use Rattle.fdc_sequencer.specs.Quiet.{GoesAlongFor, StepsFrontBy, seeks_at}
use Rattle.fdc_sequencer.specs.declared.stage.FrontStage.TheVariants as front
use Rattle.fdc_chip.specs.Quiet.{StepsBy}
use Rattle.fdc_chip.specs.Steps.{SwallowsBy}
use Rattle.fdc_chip.specs.declared.stage.ChipTask.{ChipTask}
use Rattle.fdc_chip.proofs.Quieting.{same_lines}

-- a device step waits for results only while a command is executed
pub awaits_busy : (stage : ChipStage) (front : FrontStage) → awaits_results stage front ≡ true → is_busy stage ≡ true
awaits_busy (Busy task) front awaits = refl
awaits_busy _ front awaits = absurd (false≢true awaits)

-- ---- a VERIFY while the heads go to its cylinder

takes_nothing : (stage : FrontStage) (old : Front) (byte : Option ℕ) (new : Front) → seeks_at stage ≡ true → TakesAt stage old byte new → (byte ≡ None) × (new ≡ old)
takes_nothing (Seeking transfer counted) old byte new seeks takes = takes
takes_nothing _ old byte new seeks takes = absurd (false≢true seeks)

swallows_one : (left : ℕ) (old : Front) (now : ℕ) (new : Front) → seeks_at old.stage ≡ true → Swallows left old now new → (now ≡ left) × (new ≡ old)
swallows_one left old now new seeks swallows =
    let none = takes_nothing old.stage old swallows.byte swallows.between seeks swallows.takes in
    let after : SwallowsAs None left swallows.between now new = subst (λ byte. SwallowsAs byte left swallows.between now new) none.0 swallows.after in
    (after.0, after.1 ∙ none.1)

swallows_none : (n left : ℕ) (old : Front) (now : ℕ) (new : Front) → seeks_at old.stage ≡ true → SwallowsBy n left old now new → (now ≡ left) × (new ≡ old)
unfolding SwallowsBy
swallows_none zero left old now new seeks is = is
swallows_none (suc n) left old now new seeks (some, between, before, one) =
    let was = swallows_none n left old some between seeks before in
    let is = swallows_one some between now new (ap (λ (f : Front). seeks_at f.stage) was.1 ∙ seeks) one in
    (is.0 ∙ was.0, is.1 ∙ was.1)

all_none : (left : ℕ) (old new : ChipState) → seeks_at old.front.stage ≡ true → old.stage ≡ Busy (Verify left) → SwallowsAll left old new → new ≡ old
all_none left old new seeks at all =
    let is = swallows_none 16 left old.front all.now all.front seeks all.swallows in
    all.after
    ∙ (ap (λ (f : Front). record old { front = f; stage = Busy (Verify all.now) }) is.1
    ∙ (ap (λ n. record old { stage = Busy (Verify n) }) is.0 ∙ ap (λ stage. record old { stage = stage }) (sym at)))

-- ---- a device step

-- without results nothing ends
may_none : (task : ChipTask) (old new : ChipState) → results_outside old.front ≡ None → MayEnd task old new → new ≡ old
may_none task old new none ends = subst (λ results. EndsAs (option_map (judged old) results) task old new) none ends

awaits_task : (task : ChipTask) (old new : ChipState) → takes_none task old.front.stage ≡ true → old.stage ≡ Busy task → results_outside old.front ≡ None → FollowsTask task old new → new ≡ old
awaits_task Sent old new takes at none follows = may_none Sent old new none follows
awaits_task (Sought results) old new takes at none follows = may_none (Sought results) old new none follows
awaits_task (Refused unit key mfm) old new takes at none follows = may_none (Refused unit key mfm) old new none follows
awaits_task (Track track) old new takes at none follows = may_none (Track track) old new none follows
awaits_task (Verify left) old new takes at none (between, all, ends) =
    let same = all_none left old between takes at all in
    may_none (Verify left) between new (ap (λ (c : ChipState). results_outside c.front) same ∙ none) ends ∙ same

-- ---- many device steps

-- the steps are those of the inner controller, and nothing else changes
record IsAwaiting (n : ℕ) (chip new : ChipState) : Type 0 where
  rest : KeepsRest chip new
  by : StepsFrontBy n chip.front new.front

awaits_by : (n : ℕ) (task : ChipTask) (chip new : ChipState) → chip.stage ≡ Busy task → takes_none task chip.front.stage ≡ true → GoesAlongFor n chip.front
    → StepsBy n chip new → IsAwaiting n chip new
unfolding StepsBy StepsFrontBy
awaits_by zero task chip new at takes lasts is = record {
  rest = subst (λ (c : ChipState). c ≡ with_front c.front chip) (sym is) refl;
  by = ap (λ (c : ChipState). c.front) is;
}
awaits_by (suc n) task chip new at takes lasts (between, steps, step) =
    let before = awaits_by n task chip between at takes (λ count f some within by. lasts count f some (omega (arith, within)) by) steps in
    let front = step.between in
    let all : StepsFrontBy (suc n) chip.front front = (between.front, before.by, step.steps) in
    let along = lasts (suc n) front (omega arith) (omega arith) all in
    let old = with_front front between in
    let stage = ap (λ (c : ChipState). c.stage) before.rest ∙ at in
    let follows : FollowsTask task old new = subst (λ s. Follows s old new) stage step.follows in
    let is = awaits_task task old new (ap (takes_none task) along.stage ∙ takes) stage along.results follows in
    record {
      rest = is ∙ (ap (λ (c : ChipState). with_front front c) before.rest ∙ ap (λ (c : ChipState). with_front c.front chip) (sym is));
      by = subst (λ (c : ChipState). StepsFrontBy (suc n) chip.front c.front) (sym is) all;
    }

task_quiet : (count : ℕ) (task : ChipTask) (chip : ChipState) → chip.stage ≡ Busy task → takes_none task chip.front.stage ≡ true → GoesAlongFor count chip.front
    → IsQuietFor count chip
unfolding StepsBy
task_quiet count task chip at takes lasts zero new within is = subst (HasLinesChip (interrupts_chip chip) (asks_chip chip)) (sym is) (refl, refl)
task_quiet count task chip at takes lasts (suc n) new within steps =
    let awaits = awaits_by (suc n) task chip new at takes (λ m f some less by. lasts m f some (omega (arith, less, within)) by) steps in
    let along = lasts (suc n) new.front (omega arith) within awaits.by in
    subst (HasLinesChip (interrupts_chip chip) (asks_chip chip)) (sym awaits.rest) (same_lines chip new.front along.request along.interrupt)

stage_quiet : (count : ℕ) (stage : ChipStage) (chip : ChipState) → chip.stage ≡ stage → awaits_results stage chip.front.stage ≡ true → GoesAlongFor count chip.front
    → IsQuietFor count chip
stage_quiet count (Busy task) chip at awaits lasts = task_quiet count task chip at awaits lasts
stage_quiet count _ chip at awaits lasts = absurd (false≢true awaits)

-- as long as nothing changes outside the inner controller, neither line changes
pub awaits_quiet : (count : ℕ) (chip : ChipState) → awaits_results chip.stage chip.front.stage ≡ true → GoesAlongFor count chip.front → IsQuietFor count chip
awaits_quiet count chip awaits lasts = stage_quiet count chip.stage chip refl awaits lasts
