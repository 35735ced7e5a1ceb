-- A controller that does nothing, through device steps, and once the results of seeks and polls were taken over.
use Rattle.std.proofs.Common.{◌≡◌, ℕ, zero, suc, ◌-◌, ◌<◌, ◌^◌, Bool, true, false, ◌&&◌, ◌||◌, ◌==◌, if◌then◌else◌, Option, Some, None, [], refl, sym, ◌∙◌, ap, subst, arith, pow_pos, ◌⊎◌, inl, inr, ◌+◌}
use Rattle.laws_chip.proofs.Common.{option_map_or, ended, first_pending, has_ended, neighbour, recalibrated, released, sought, stepped_seek, with_motion, after_sense, Motion, Taking, Rests, RestsIn, polled, seek_stepped, is_idle, mark_of, Fdc, AdapterState, StepsAdapter, after_result, without_result, Front, with_controller, FollowsStep, StepsFront, pending_outside, sensed_at, sensed_outside, Through, ChipState, with_front, drained_one, implies, is_told, kept, with_result, IsOfFour, RestsBehind, Seeks as Seeking, commands_stepped as stepped, DriveSeek as Seek, false≢true, Chrn, DriveState, at_index, Fifo, emptied, seek_bits, Results, Ending, Done, Late, FormatNext, Numbers, SearchOutcome, results_of, IsFormattingTrack, IsReadingId, ending_of_phase, is_listening, Long, Phase, Execute, Result, Task, Formatting, BeginsData, FormatDoes, after_laid, ExecutesIn, ExecutesTask, StepsOn, after_searched, finished, is_held, EndsIn, IsCounted, FormatsNowhere, StepsNowhere, TaskStepsNowhere, WordTime, Wrote, Stopped, given_up_if, results_of_phase, WritesIn, WritesTask, without_byte, results_at, results_outside, results_taken, taken_at, ExecutesBehind, executes_single, is_single, CommandFormatTrack as FormatTrack, CommandReadId as ReadId, core_steps_left as steps_left, phases_no_key as no_key}
use Rattle.laws_chip.proofs.Known.{adapter_stays, by_rests, polled_by, polled_phase, adapter_ends, at_drive}
use Rattle.fdc_chip.specs.Doing.{drained_by}
use Rattle.laws_chip.proofs.UnderWay.{Stands, IsBase, IsObeyed}
use Rattle.fdc_stages.specs.declared.searching.Search.{Search}
use Rattle.laws_chip.proofs.Free.{without_seeks}
use Rattle.fdc_commands.specs.Seeking as seek_words
use Rattle.fdc_commands.specs.declared.motion.Motion.TheVariants as motion
use Rattle.fdc_stages.specs.declared.formatting.FormatNext.TheVariants as laid
use Rattle.fdc_stages.specs.Searches as searched
use Rattle.fdc_phases.specs.declared.phases.Task.TheVariants as task

-- ---- what each device step leaves

pub adapter_base : (old new : AdapterState) → StepsAdapter old new → old.controller.command ≡ [] → IsBase old.controller new.controller
adapter_base old new steps none =
    let stays = adapter_stays old new steps in
    record { dor = stays.dor; non_dma = stays.non_dma; command = stays.command ∙ none }

pub base_on : (old between new : Fdc) → IsBase old between → IsBase between new → IsBase old new
base_on old between new first second = record { dor = second.dor ∙ first.dor; non_dma = second.non_dma ∙ first.non_dma; command = second.command }

pub base_same : (fdc : Fdc) → fdc.command ≡ [] → IsBase fdc fdc
base_same fdc none = record { dor = refl; non_dma = refl; command = none }

-- ---- one of four drives

motion_four : (old : Seeking) (drive : ℕ) (was : Motion) (track0 : Bool) → drive < 4 → IsOfFour old.seek → IsOfFour (stepped_seek old drive was track0).seek
motion_four old drive (motion.Outward pulses) track0 few same = by_last (track0 || (pulses == 0))
  where
    by_last : (b : Bool) → IsOfFour (if b then ended old drive 0 (recalibrated drive track0) else with_motion old drive (motion.Outward (pulses - 1))).seek
    by_last true = few
    by_last false = few
motion_four old drive (motion.Toward cylinder target) track0 few same = by_there (cylinder == target)
  where
    by_there : (b : Bool) → IsOfFour (if b then ended old drive target (sought drive) else with_motion old drive (motion.Toward (neighbour cylinder target) target)).seek
    by_there true = few
    by_there false = few
motion_four old drive motion.Ended track0 few same = same

stepped_four : (old : Seeking) (track0 : Bool) → IsOfFour old.seek → IsOfFour (stepped old track0).seek
stepped_four old track0 few = by_seek old.seek few
  where
    by_seek : (seek : Option Seek) → IsOfFour seek → IsOfFour (stepped (record old { seek = seek }) track0).seek
    by_seek None few = tt
    by_seek (Some seek) few = motion_four (record old { seek = Some seek }) seek.drive seek.motion track0 few few

released_four : (drive : ℕ) (seek : Option Seek) → IsOfFour seek → IsOfFour (released drive seek)
released_four drive None few = tt
released_four drive (Some seek) few = by_drive ((seek.drive == drive) && has_ended seek.motion)
  where
    by_drive : (b : Bool) → IsOfFour (if b then None else Some seek)
    by_drive true = tt
    by_drive false = few

sensed_four : (old : Seeking) → IsOfFour old.seek → IsOfFour (after_sense old).seek
sensed_four old few = by_first (first_pending old)
  where
    by_first : (first : Option ℕ) → IsOfFour (option_map_or (seek_words.without_result old) first old).seek
    by_first None = few
    by_first (Some drive) = released_four drive old.seek few

-- if no seek bit is set, no seek runs
pub none_four : (seek : Option Seek) → option_map_or (λ (s : Seek). 2 ^ s.drive) seek 0 ≡ 0 → IsOfFour seek
none_four None none = tt
none_four (Some seek) none = absurd (let some = pow_pos seek.drive in absurd (omega arith))

pub stands_rests : (front : Front) → Stands front → RestsBehind front
stands_rests front stands = record { through = stands.through; takes = stands.takes; seek = none_four front.adapter.controller.seeks.seek stands.rests }

-- ---- a device step

-- the controller goes on doing nothing
record GoesResting (new : Fdc) : Type 0 where
  takes : new.phase ≡ Taking
  seek : IsOfFour new.seeks.seek

pub taking_stays : (track0 : Bool) (old new : Fdc) → old.phase ≡ Taking → Rests track0 (polled old) new → new ≡ seek_stepped track0 (polled old)
taking_stays track0 old new takes rests = subst (λ phase. RestsIn phase track0 (polled old) new) (polled_phase old ∙ takes) rests

rests_on : (track0 : Bool) (old new : Fdc) → old.phase ≡ Taking → IsOfFour old.seeks.seek → Rests track0 (polled old) new → GoesResting new
rests_on track0 old new takes few rests =
    let is = taking_stays track0 old new takes rests in
    record {
      takes = ap (λ (fdc : Fdc). fdc.phase) is ∙ (polled_phase old ∙ takes);
      seek = subst (λ (fdc : Fdc). IsOfFour fdc.seeks.seek) (sym is) (stepped_four (polled old).seeks track0 (polled_by (λ (fdc : Fdc). IsOfFour fdc.seeks.seek) old few few));
    }

adapter_rests : (old new : AdapterState) → StepsAdapter old new → old.controller.phase ≡ Taking → IsOfFour old.controller.seeks.seek → GoesResting new.controller
adapter_rests old new steps takes few = by_rests old new steps (λ track0 rests. rests_on track0 old.controller new.controller takes few rests)

-- whatever seek runs
pub adapter_takes : (old new : AdapterState) → StepsAdapter old new → old.controller.phase ≡ Taking → new.controller.phase ≡ Taking
adapter_takes old new steps takes =
    by_rests old new steps (λ track0 rests. ap (λ (fdc : Fdc). fdc.phase) (taking_stays track0 old.controller new.controller takes rests) ∙ (polled_phase old.controller ∙ takes))

-- where each access is the controller's a step is the adapter's
pub through_step : (old new : Front) (step : StepsFront old new) → old.stage ≡ Through → new ≡ record old { adapter = step.between }
through_step old new step through = subst (λ stage. FollowsStep (mark_of old.adapter.controller) stage (record old { adapter = step.between }) new) through step.follows

pub front_rests : (old new : Front) → StepsFront old new → old.adapter.controller.command ≡ [] → RestsBehind old → RestsBehind new × IsBase old.adapter.controller new.adapter.controller
front_rests old new step none rests =
    let is = through_step old new step rests.through in
    let goes = adapter_rests old.adapter step.between step.steps rests.takes rests.seek in
    subst (λ (front : Front). RestsBehind front × IsBase old.adapter.controller front.adapter.controller) (sym is) (
      record { through = rests.through; takes = goes.takes; seek = goes.seek },
      adapter_base old.adapter step.between step.steps none,
    )

-- ---- results that are taken over

-- the inner controller does nothing. The chip's stage, the bytes that came and whether seeks are implied are as they
-- were
pub record IsResting (old new : ChipState) : Type 0 where
  pub rests : RestsBehind new.front
  pub base : IsBase old.front.adapter.controller new.front.adapter.controller
  pub stage : new.stage ≡ old.stage
  pub count : new.count ≡ old.count
  pub order : new.order ≡ old.order
  pub implied : implies new ≡ implies old

-- the controller once a result was taken
record IsSensed (old new : Fdc) : Type 0 where
  base : IsBase old new
  takes : new.phase ≡ Taking
  seek : IsOfFour new.seeks.seek

result_taken : (old : Fdc) → old.phase ≡ Taking → old.command ≡ [] → IsOfFour old.seeks.seek → IsSensed old (after_result old)
result_taken old takes none few = by_idle (is_idle old)
  where
    by_result : (result : Option (ℕ × ℕ)) → IsSensed old (without_result result old)
    by_result None = record { base = record { dor = refl; non_dma = refl; command = refl }; takes = refl; seek = few }
    by_result (Some result) = record { base = record { dor = refl; non_dma = refl; command = refl }; takes = refl; seek = sensed_four old.seeks few }

    by_idle : (b : Bool) → IsSensed old (if b then without_result (seek_words.sensed old.seeks) old else old)
    by_idle true = by_result (seek_words.sensed old.seeks)
    by_idle false = record { base = base_same old none; takes = takes; seek = few }

pub front_sensed : (front : Front) → front.adapter.controller.command ≡ [] → RestsBehind front
    → RestsBehind (sensed_outside front) × IsBase front.adapter.controller (sensed_outside front).adapter.controller
front_sensed front none rests =
    let fdc = front.adapter.controller in
    let taken = result_taken fdc rests.takes none rests.seek in
    let is : sensed_outside front ≡ record front { adapter = with_controller (after_result fdc) front.adapter } = ap (λ stage. sensed_at stage front) rests.through in
    subst (λ (f : Front). RestsBehind f × IsBase fdc f.adapter.controller) (sym is) (
      record { through = rests.through; takes = taken.takes; seek = taken.seek },
      taken.base,
    )

one_rests : (result : Option (ℕ × ℕ)) (old new : ChipState) → IsResting old new → IsResting old (kept result new)
one_rests None old new rests = rests
one_rests (Some (status, cylinder)) old new rests = by_told (is_told new.pace status)
  where
    by_told : (b : Bool) → IsResting old (if b then record new { interrupts = with_result status cylinder new.interrupts } else new)
    by_told true = record { rests = rests.rests; base = rests.base; stage = rests.stage; count = rests.count; order = rests.order; implied = rests.implied }
    by_told false = rests

drains_one : (old new : ChipState) → IsResting old new → IsResting old (drained_one new)
drains_one old new was =
    let (rests, base) = front_sensed new.front was.base.command was.rests in
    one_rests (pending_outside new.front) old (with_front (sensed_outside new.front) new)
    (record { rests = rests; base = base_on old.front.adapter.controller new.front.adapter.controller (sensed_outside new.front).adapter.controller was.base base; stage = was.stage; count = was.count; order = was.order; implied = was.implied })

pub drained_rests : (n : ℕ) (old : ChipState) → old.front.adapter.controller.command ≡ [] → RestsBehind old.front → IsResting old (drained_by n old)
unfolding drained_by
drained_rests zero old none rests = record { rests = rests; base = base_same old.front.adapter.controller none; stage = refl; count = refl; order = refl; implied = refl }
drained_rests (suc n) old none rests = drains_one old (drained_by n old) (drained_rests n old none rests)

-- ---- A READ ID or a FORMAT TRACK of the inner controller: it begins, goes on through device steps, and its
-- results wait.

-- ---- it begins

id_single : (unit : ℕ) (begins : Task) → IsReadingId unit begins → is_single begins ≡ true
id_single unit (task.ReadId search) is = refl
id_single unit _ is = absurd is

pub id_executes : (unit : ℕ) (start new : Front) → Stands start → IsObeyed (ReadId unit) start new → ExecutesBehind new × IsBase start.adapter.controller new.adapter.controller
id_executes unit start new stands obeyed =
    let begins : BeginsData (ReadId unit) (record start.adapter.controller { command = [] }) new.adapter.controller = (obeyed.obeys.0 stands.rests).1 stands.by_dma in
    let is = begins.3 in (
      record {
        through = obeyed.through;
        executes = ap (λ (fdc : Fdc). executes_single fdc.phase) is ∙ id_single unit begins.0 begins.1;
        counted = subst (λ (fdc : Fdc). IsCounted fdc.phase) (sym is) (omega arith);
        rests = ap (λ (fdc : Fdc). seek_bits fdc.seeks) is ∙ stands.rests;
      },
      record { dor = ap (λ (fdc : Fdc). fdc.dor) is; non_dma = ap (λ (fdc : Fdc). fdc.non_dma) is; command = ap (λ (fdc : Fdc). fdc.command) is },
    )

format_single : (unit : ℕ) (numbers : Numbers) (begins : Task) → IsFormattingTrack unit numbers begins → is_single begins ≡ true
format_single unit numbers (task.Format formatting) is = refl
format_single unit numbers _ is = absurd (is (emptied false 1) false refl)

pub format_executes : (unit n sectors gap fill : ℕ) (start new : Front) → Stands start → IsObeyed (FormatTrack unit n sectors gap fill) start new → ExecutesBehind new × IsBase start.adapter.controller new.adapter.controller
format_executes unit n sectors gap fill start new stands obeyed =
    let begins : BeginsData (FormatTrack unit n sectors gap fill) (record start.adapter.controller { command = [] }) new.adapter.controller = (obeyed.obeys.0 stands.rests).1 stands.by_dma in
    let is = begins.3 in (
      record {
        through = obeyed.through;
        executes = ap (λ (fdc : Fdc). executes_single fdc.phase) is ∙ format_single unit (record { n = n; sectors = sectors; gap3 = gap; fill = fill }) begins.0 begins.1;
        counted = subst (λ (fdc : Fdc). IsCounted fdc.phase) (sym is) (omega arith);
        rests = ap (λ (fdc : Fdc). seek_bits fdc.seeks) is ∙ stands.rests;
      },
      record { dor = ap (λ (fdc : Fdc). fdc.dor) is; non_dma = ap (λ (fdc : Fdc). fdc.non_dma) is; command = ap (λ (fdc : Fdc). fdc.command) is },
    )

-- ---- a device step

-- results of which none was read
abbrev HasLong : Phase → Type 0
HasLong phase = (ending : Ending) × (results : Results) × (phase ≡ Result (Long ending results 0))

-- no seek changes, and the command goes on or has ended
record GoesSingly (polls new : Fdc) : Type 0 where
  seeks : new.seeks ≡ polls.seeks
  now : (executes_single new.phase ≡ true) ⊎ HasLong new.phase

singly_as : (polls set new : Fdc) → GoesSingly polls set → new ≡ set → GoesSingly polls new
singly_as polls set new goes is = subst (GoesSingly polls) (sym is) goes

ends_singly : (ending : Ending) (head_drive : ℕ) (key : Chrn) (old mid : Fdc) → mid.seeks ≡ old.seeks → GoesSingly old (finished ending head_drive key mid)
ends_singly ending head_drive key old mid same = record { seeks = same; now = inr (ending, results_of ending head_drive key, refl) }

searched_singly : (head_drive steps : ℕ) (after : SearchOutcome) (old : Fdc) → GoesSingly old (after_searched head_drive steps after old)
searched_singly head_drive steps (searched.On search) old = record { seeks = refl; now = inl refl }
searched_singly head_drive steps (searched.Met key separator) old = ends_singly (Done false) head_drive key old old refl
searched_singly head_drive steps (searched.Missed ending) old = ends_singly ending head_drive no_key old old refl

id_singly : (head_drive steps : ℕ) (search : Search) (index : Bool) (word : ℕ) (old new : Fdc) → StepsOn head_drive steps (task.ReadId search) index word old new → GoesSingly old new
id_singly head_drive steps search index word old new (inl (last, is)) = singly_as old _ new (ends_singly Late head_drive no_key old old refl) is
id_singly head_drive steps search index word old new (inr (few, (after, hears, is))) = singly_as old _ new (searched_singly head_drive (steps + 1) after old) is

laid_singly : (head_drive steps : ℕ) (formatting : Formatting) (next : FormatNext) (old mid : Fdc) → mid.seeks ≡ old.seeks → GoesSingly old (after_laid head_drive steps formatting next mid)
laid_singly head_drive steps formatting (laid.On stage) old mid same = record { seeks = same; now = inl refl }
laid_singly head_drive steps formatting (laid.Ended ending key) old mid same = ends_singly ending head_drive key old mid same

format_singly : (time : WordTime) (head_drive steps : ℕ) (formatting : Formatting) (old : Fdc) (before : DriveState) (new : Fdc) → FormatDoes time head_drive steps formatting old before new → GoesSingly old new
format_singly (Wrote opened closed index word) head_drive steps formatting old before new does =
    singly_as old _ new (laid_singly head_drive (steps + 1) formatting does.next old (without_byte does.needs old) (without_seeks does.needs old)) does.after_is
format_singly Stopped head_drive steps formatting old before new does = singly_as old _ new (ends_singly does.ending head_drive no_key old old refl) does.after_is
format_singly _ head_drive steps formatting old before new (due, does) =
    singly_as old _ new (laid_singly head_drive (steps + 1) formatting does.next old old refl) does.after_is

nowhere_singly : (head_drive steps : ℕ) (formatting : Formatting) (old new : Fdc) → FormatsNowhere head_drive steps formatting old new → GoesSingly old new
nowhere_singly head_drive steps formatting old new (inl (last, is)) = singly_as old _ new (ends_singly Late head_drive no_key old old refl) is
nowhere_singly head_drive steps formatting old new (inr (few, (next, hears, is))) = singly_as old _ new (laid_singly head_drive (steps + 1) formatting next old old refl) is

module _ (polls new : Fdc) where
  task_singly : (begins : Task) (head_drive steps : ℕ) (index : Bool) (word : ℕ) (asking : Bool) (fifo : Fifo) (before after : DriveState) → is_single begins ≡ true
      → ExecutesTask (is_listening begins) head_drive steps begins index word polls new → WritesTask begins head_drive steps asking fifo polls before after new → GoesSingly polls new
  task_singly (task.ReadId search) head_drive steps index word asking fifo before after single executes writes = id_singly head_drive steps search index word polls new executes
  task_singly (task.Format formatting) head_drive steps index word asking fifo before after single executes writes =
      format_singly writes.step.does.time head_drive steps formatting polls before new writes.step.does.does
  task_singly _ head_drive steps index word asking fifo before after single executes writes = absurd (false≢true single)

  phase_singly : (phase : Phase) (index : Bool) (word : ℕ) (asking : Bool) (fifo : Fifo) (before after : DriveState) → executes_single phase ≡ true → ExecutesIn phase index word polls new
      → WritesIn phase asking fifo polls before after new → GoesSingly polls new
  phase_singly (Execute execution) index word asking fifo before after single executes writes =
      task_singly execution.task execution.head_drive execution.steps index word asking fifo before after single executes writes
  phase_singly _ index word asking fifo before after single executes writes = absurd (false≢true single)

  task_alone : (begins : Task) (head_drive steps : ℕ) → is_single begins ≡ true → TaskStepsNowhere begins head_drive steps polls new → GoesSingly polls new
  task_alone (task.ReadId search) head_drive steps single does = id_singly head_drive steps search false 0 polls new does
  task_alone (task.Format formatting) head_drive steps single does = nowhere_singly head_drive steps formatting polls new does
  task_alone _ head_drive steps single does = absurd (false≢true single)

  phase_alone : (phase : Phase) → executes_single phase ≡ true → StepsNowhere phase polls new → GoesSingly polls new
  phase_alone (Execute execution) single does = task_alone execution.task execution.head_drive execution.steps single does
  phase_alone _ single does = absurd (false≢true single)

adapter_singly : (old new : AdapterState) → StepsAdapter old new → executes_single old.controller.phase ≡ true → GoesSingly (polled old.controller) new.controller
adapter_singly old new steps single =
    let fdc = old.controller in
    at_drive old new steps
    (λ before after works.
    phase_singly (polled fdc) new.controller fdc.phase (at_index before) works.reads.word fdc.asking fdc.fifo before after single works.reads.follows.executes works.writes)
    (λ alone. phase_alone (polled fdc) new.controller fdc.phase single alone.nowhere)

pub single_fewer : (old new : Phase) → executes_single old ≡ true → EndsIn old new → (steps_left new < steps_left old) × IsCounted new
single_fewer (Execute execution) new single ends = ends
single_fewer _ new single ends = absurd (false≢true single)

-- the results of the command wait to be read
pub record WaitsBehind (front : Front) : Type 0 where
  pub through : front.stage ≡ Through
  pub ending : Ending
  pub results : Results
  pub at : front.adapter.controller.phase ≡ Result (Long ending results 0)
  pub rests : seek_bits front.adapter.controller.seeks ≡ 0

pub executes_step : (old new : Front) → StepsFront old new → old.adapter.controller.command ≡ [] → ExecutesBehind old
    → (ExecutesBehind new ⊎ WaitsBehind new) × IsBase old.adapter.controller new.adapter.controller
executes_step old new step none was =
    let fdc = old.adapter.controller in
    let goes = adapter_singly old.adapter step.between step.steps was.executes in
    let ends = single_fewer fdc.phase step.between.controller.phase was.executes (adapter_ends old.adapter step.between step.steps) in
    let rests = ap seek_bits goes.seeks ∙ (polled_by (λ (polls : Fdc). seek_bits polls.seeks ≡ seek_bits fdc.seeks) fdc refl refl ∙ was.rests) in
    let is = through_step old new step was.through in
    subst (λ (front : Front). (ExecutesBehind front ⊎ WaitsBehind front) × IsBase fdc front.adapter.controller) (sym is) (
      elim goes.now [
        | inl single ↦ inl (record { through = was.through; executes = single; counted = ends.1; rests = rests })
        | inr (ending, results, at) ↦ inr (record { through = was.through; ending = ending; results = results; at = at; rests = rests })
      ],
      adapter_base old.adapter step.between step.steps none,
    )

-- ---- ---- its results

none_of : (phase : Phase) → executes_single phase ≡ true → results_of_phase phase ≡ None
none_of (Execute execution) single = refl
none_of _ single = absurd (false≢true single)

pub executes_none : (front : Front) → ExecutesBehind front → results_outside front ≡ None
executes_none front was = ap (λ stage. results_at stage front.adapter.controller) was.through ∙ none_of front.adapter.controller.phase was.executes

pub waits_shown : (front : Front) (waits : WaitsBehind front) → results_outside front ≡ Some waits.results
waits_shown front waits = ap (λ stage. results_at stage front.adapter.controller) waits.through ∙ ap results_of_phase waits.at

-- once the results were taken the controller takes commands
pub waits_taken : (front : Front) → is_held front.adapter.controller ≡ false → front.adapter.controller.command ≡ [] → front.adapter.controller.non_dma ≡ false → WaitsBehind front
    → Stands (results_taken front) × IsBase front.adapter.controller (results_taken front).adapter.controller
waits_taken front free none by_dma waits =
    let fdc = front.adapter.controller in
    let over : Front = record front { adapter = with_controller (record fdc { phase = Taking; interrupt = false }) front.adapter } in
    let is : results_taken front ≡ over =
    ap (λ stage. taken_at stage front) waits.through
    ∙ ap (λ phase. record front { adapter = with_controller (given_up_if (ending_of_phase phase) fdc) front.adapter }) waits.at in
    subst (λ (f : Front). Stands f × IsBase fdc f.adapter.controller) (sym is) (
      record { through = waits.through; takes = refl; none = none; free = free; rests = waits.rests; by_dma = by_dma },
      record { dor = refl; non_dma = refl; command = none },
    )
