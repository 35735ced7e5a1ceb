-- How many device steps are left of a command that is executed: each call leaves fewer, by the device step that it is.
use Rattle.std.proofs.Common.{◌≡◌, ◌⊎◌, inl, inr, ℕ, ◌+◌, ◌-◌, ◌*◌, ◌<◌, ◌≤◌, Bool, true, false, ◌&&◌, ◌==◌, Option, Some, None, option_map, [], ◌∷◌, if◌then◌else◌, refl, sym, ◌∙◌, ap, subst, arith}
use Rattle.laws_chip.proofs.Common.{and_right, false≢true, Chrn, Results, Front, results_taken, StepsFront, is_under_way, ChipState, with_front, EndsAs, EndsSent, MayEnd, as_done, done_if, has_key, has_room, is_not_found, judged, looks_for_cylinder, results_judged, says_cut, verified, Follows, StepsChip, Place, Index, Address, Data, Busy, ChipTask, Track, has_command, Call, Does, IsServing, is_reset, is_step, steps_of, is_read_id, IsVerifying, ExecutesBehind, IsSound, ServesBehind, core_steps_left as steps_left}
use Rattle.laws_chip.proofs.Lasted.{Lasts, call_lasts, calls_last}
use Rattle.laws_chip.proofs.NextStages.{KeepsTask, call_keeps, call_serving, works_quiet, is_change}
use Rattle.laws_chip.proofs.PassedOn.{all_passed, none_wait}
use Rattle.laws_chip.proofs.SinglesLast.{StaysSingle, kind_of, left_most, left_some, single_call, stage_kind}
use Rattle.laws_chip.proofs.SoundParts.{busy_at, is_busy, serves_of, serves_step, tells_shown}
use Rattle.laws_chip.proofs.TracksLast.{Leaves, LeavesAt, call_leaves, leaves_some, some_here, none_of}
use Rattle.laws_chip.proofs.UnderWay.{clash, either_way, not_through}
use Rattle.laws_chip.proofs.VerifiesLast.{IsWithin, call_within, FormatsOn, formats, formats_step}
use Rattle.laws_chip.proofs.Identified.{no_look}
use Rattle.laws_chip.proofs.Rests.{WaitsBehind, executes_none, executes_step, waits_shown}
use Rattle.laws_chip.specs.SectorCalls as behind
use Rattle.fdc_chip.specs.declared.stage.ChipTask.TheVariants as task
use Rattle.laws_chip.specs.Calls as made

-- ---- what is left

-- so many device steps at most are left of the sequencer's command, and of a READ ID that may come after it
pub record ServedLeft (n : ℕ) (chip : ChipState) : Type 0 where
  pub under : is_under_way chip.front.stage ≡ true
  pub here : ℕ
  pub lasts : Lasts here chip.front
  pub few : here + 65536 ≤ n

-- after this command the chip doesn't look which cylinder passes
abbrev pub NeverLooks : ChipState → Type 0
NeverLooks chip = (is_read_id chip.order ≡ true) ⊎ (formats chip.front.adapter.controller.phase ≡ true)

pub record SingleLeft (n : ℕ) (chip : ChipState) : Type 0 where
  pub executes : ExecutesBehind chip.front
  pub few : steps_left chip.front.adapter.controller.phase ≤ n
  pub never : NeverLooks chip

-- the inner controller's own command is the last one
pub record LastLeft (n : ℕ) (chip : ChipState) : Type 0 where
  pub few : steps_left chip.front.adapter.controller.phase ≤ n

abbrev pub TaskLeft : ChipTask → ℕ → ChipState → Type 0
TaskLeft task.Sent n chip = ServedLeft n chip ⊎ SingleLeft n chip
TaskLeft (task.Verify _) n chip = ServedLeft n chip
TaskLeft (task.Track _) n chip = Leaves n chip
TaskLeft _ n chip = LastLeft n chip

pub record BusyLeft (n : ℕ) (chip : ChipState) : Type 0 where
  pub task : ChipTask
  pub at : chip.stage ≡ Busy task
  pub left : TaskLeft task n chip

-- ---- ---- parts

-- results that are told end the command
told_none : {A : Type 0} (new : ChipState) → has_command new.stage ≡ true → has_command new.stage ≡ false → A
told_none new works over = clash (has_command new.stage) over works

served_on : (here steps n : ℕ) → 1 ≤ here → steps ≤ 1 → here + 65536 ≤ n → here - steps + 65536 ≤ n - steps
served_on here steps n some one few = omega arith

looked_on : (now here steps n : ℕ) → now ≤ 65536 → 1 ≤ here → steps ≤ 1 → here + 65536 ≤ n → now ≤ n - steps
looked_on now here steps n most some one few = omega arith

one_step : 1 ≤ 1
one_step = omega arith

ended_left : (b : Bool) (n : ℕ) (results : Results) (old set new : ChipState) → ServesBehind old.front → ServedLeft n old → has_command new.stage ≡ true → EndsSent b results set new → BusyLeft (n - 1) new
ended_left true n results old set new serves was works (gives, rest) =
    let phase = new.front.adapter.controller.phase in
    record {
      task = task.Sought results;
      at = (ap (λ (chip : ChipState). chip.stage) rest);
      left = record { few = looked_on (steps_left phase) was.here 1 n (left_most phase) (some_here was.here old.front serves was.lasts) one_step was.few };
    }
ended_left false n results old set new serves was works is = told_none new works (ap (λ (chip : ChipState). has_command chip.stage) is)

-- the sequencer's calls leave fewer
within_lasts : (here steps : ℕ) (old new : Front) → ServesBehind old → Lasts here old → IsWithin steps old new → Lasts (here - steps) new
within_lasts here steps old new was lasts within =
    subst (λ n. Lasts n new) (ap (λ n. here - n) within.steps_are) (calls_last within.calls here was.first was.history old new within.within was.serves lasts)

served_within : (n steps : ℕ) (old new : ChipState) → ServesBehind old.front → ServedLeft n old → steps ≤ 1 → is_under_way new.front.stage ≡ true → IsWithin steps old.front new.front → ServedLeft (n - steps) new
served_within n steps old new serves was one under within = record {
  under = under;
  here = was.here - steps;
  lasts = within_lasts was.here steps old.front new.front serves was.lasts within;
  few = served_on was.here steps n (some_here was.here old.front serves was.lasts) one was.few;
}

-- ---- ---- a command of the controller's own

-- the call leaves it at its task
single_left : (call : Call) (what : ChipTask) (n : ℕ) (old new : ChipState) → IsSound old → old.stage ≡ Busy what → ExecutesBehind old.front → steps_left old.front.adapter.controller.phase ≤ n → Does call old new
    → stage_kind new.stage ≡ kind_of what → is_busy new.stage ≡ true → StaysSingle (steps_of call) old.front new.front × (steps_left new.front.adapter.controller.phase ≤ n - steps_of call)
single_left call what n old new sound at was few does same still =
    let on = single_call call what old new sound at was does still same in
    (on, (omega arith))

never_on : (old new : ChipState) (steps : ℕ) → StaysSingle steps old.front new.front → new.order ≡ old.order → NeverLooks old → NeverLooks new
never_on old new steps on order (inl is) = inl (ap is_read_id order ∙ is)
never_on old new steps on order (inr is) = inr (on.formats is)

single_on : (call : Call) (n : ℕ) (old new : ChipState) → IsSound old → old.stage ≡ Busy task.Sent → SingleLeft n old → Does call old new → new.stage ≡ Busy task.Sent → new.order ≡ old.order → SingleLeft (n - steps_of call) new
single_on call n old new sound at was does still order =
    let (on, few) = single_left call task.Sent n old new sound at was.executes was.few does (ap stage_kind still) (ap is_busy still) in
    record { executes = on.executes; few = few; never = never_on old new (steps_of call) on order was.never }

-- its results don't let the chip look which cylinder passes
-- a format that is done found its sector IDs
done_found : (room : Bool) (results : Results) → is_not_found results ≡ false → is_not_found (done_if room results) ≡ false
done_found room results found = by_cut (room && says_cut results)
  where
    by_cut : (b : Bool) → is_not_found (if b then as_done results else results) ≡ false
    by_cut true = refl
    by_cut false = found

never_looks : (old : ChipState) (between : Front) → StepsFront old.front between → ExecutesBehind old.front → NeverLooks old → (waits : WaitsBehind between) → looks_for_cylinder old.order (judged (with_front between old) waits.results) ≡ false
never_looks old between step was (inl is) waits = no_look old.order (judged (with_front between old) waits.results) is
never_looks old between step was (inr is) waits =
    let set = with_front between old in
    let found : is_not_found waits.results ≡ false = subst FormatsOn waits.at (formats_step old.front between step was.through is) in
    and_right (has_key old.order) (is_not_found (judged set waits.results)) (done_found (has_room set) waits.results found)

-- ---- ---- the steps of each task

sent_step : (n : ℕ) (old new : ChipState) (step : StepsChip old new) → IsSound old → old.stage ≡ Busy task.Sent → TaskLeft task.Sent n old → has_command new.stage ≡ true → BusyLeft (n - 1) new
sent_step n old new step sound at (inl was) works =
    let set = with_front step.between old in
    let may : MayEnd task.Sent set new = subst (λ stage. Follows stage set new) at step.follows in
    let serves = serves_of old sound at was.under in
    elim (serves_step old.front step.between step.steps sound.whole sound.by_dma serves).0 [
      | inl still ↦
          let is : new ≡ set = subst (λ r. EndsAs (option_map (judged set) r) task.Sent set new) (none_wait step.between still.under_way) may in
          let left : ServedLeft (n - 1) set = record {
            under = still.under_way;
            here = was.here - 1;
            lasts = call_lasts behind.Steps was.here serves.first serves.history old.front step.between step.steps (not_through step.between still.under_way) serves.serves was.lasts;
            few = served_on was.here 1 n (some_here was.here old.front serves was.lasts) one_step was.few;
          } in
          subst (BusyLeft (n - 1)) (sym is) (record { task = task.Sent; at = at; left = inl left })
      | inr tells ↦
          let results = judged set tells.results in
          let taken = with_front (results_taken step.between) set in
          let ends : EndsSent (looks_for_cylinder old.order results) results taken new = subst (λ r. EndsAs (option_map (judged set) r) task.Sent set new) (tells_shown step.between tells) may in
          ended_left (looks_for_cylinder old.order results) n results old taken new serves was works ends
    ]
sent_step n old new step sound at (inr was) works =
    let set = with_front step.between old in
    let may : MayEnd task.Sent set new = subst (λ stage. Follows stage set new) at step.follows in
    elim (executes_step old.front step.between step.steps sound.whole was.executes).0 [
      | inl executes ↦
          let is : new ≡ set = subst (λ r. EndsAs (option_map (judged set) r) task.Sent set new) (executes_none step.between executes) may in
          let stage = ap (λ (chip : ChipState). chip.stage) is ∙ at in
          record { task = task.Sent; at = stage; left = inr (single_on made.Steps n old new sound at was step stage (ap (λ (chip : ChipState). chip.order) is)) }
      | inr waits ↦
          let results = judged set waits.results in
          let taken = with_front (results_taken step.between) set in
          let ends : EndsSent (looks_for_cylinder old.order results) results taken new = subst (λ r. EndsAs (option_map (judged set) r) task.Sent set new) (waits_shown step.between waits) may in
          let told : EndsSent false results taken new = subst (λ b. EndsSent b results taken new) (never_looks old step.between step.steps was.executes was.never waits) ends in
          told_none new works (ap (λ (chip : ChipState). has_command chip.stage) told)
    ]

sought_step : (n : ℕ) (first : Results) (old new : ChipState) (step : StepsChip old new) → IsSound old → old.stage ≡ Busy (task.Sought first) → LastLeft n old → has_command new.stage ≡ true → BusyLeft (n - 1) new
sought_step n first old new step sound at was works = by_end (results_judged (with_front step.between old)) (subst (λ stage. Follows stage (with_front step.between old) new) at step.follows)
  where
    by_end : (waiting : Option Results) → EndsAs waiting (task.Sought first) (with_front step.between old) new → BusyLeft (n - 1) new
    by_end (Some results) is = told_none new works (ap (λ (chip : ChipState). has_command chip.stage) is)
    by_end None is =
        let stage = ap (λ (chip : ChipState). chip.stage) is ∙ at in
        let (on, few) = single_left made.Steps (task.Sought first) n old new sound at (busy_at old (task.Sought first) at sound) was.few step (ap stage_kind stage) (ap is_busy stage) in
        record { task = task.Sought first; at = stage; left = record { few = few } }

refused_step : (n unit : ℕ) (key : Chrn) (mfm : Bool) (old new : ChipState) (step : StepsChip old new) → IsSound old → old.stage ≡ Busy (task.Refused unit key mfm) → LastLeft n old → has_command new.stage ≡ true → BusyLeft (n - 1) new
refused_step n unit key mfm old new step sound at was works = by_end (results_judged (with_front step.between old)) (subst (λ stage. Follows stage (with_front step.between old) new) at step.follows)
  where
    by_end : (waiting : Option Results) → EndsAs waiting (task.Refused unit key mfm) (with_front step.between old) new → BusyLeft (n - 1) new
    by_end (Some results) is = told_none new works (ap (λ (chip : ChipState). has_command chip.stage) is)
    by_end None is =
        let stage = ap (λ (chip : ChipState). chip.stage) is ∙ at in
        let (on, few) = single_left made.Steps (task.Refused unit key mfm) n old new sound at (busy_at old (task.Refused unit key mfm) at sound) was.few step (ap stage_kind stage) (ap is_busy stage) in
        record { task = task.Refused unit key mfm; at = stage; left = record { few = few } }

verifying_of : (left : ℕ) (chip : ChipState) → IsSound chip → chip.stage ≡ Busy (task.Verify left) → IsVerifying chip
verifying_of left chip sound at = record { left = left; verifies = at; under_way = (busy_at chip (task.Verify left) at sound).under_way }

verify_on : (call : Call) (n left now : ℕ) (old new : ChipState) → IsSound old → IsSound new → old.stage ≡ Busy (task.Verify left) → ServedLeft n old → Does call old new → steps_of call ≤ 1 → new.stage ≡ Busy (task.Verify now) → BusyLeft (n - steps_of call) new
verify_on call n left now old new sound still at was does one stage =
    let on = verifying_of now new still stage in
    record {
      task = task.Verify now;
      at = stage;
      left = served_within n (steps_of call) old new (busy_at old (task.Verify left) at sound) was one on.under_way (call_within call left old new at does on);
    }

verify_ends : (waiting : Option Results) (n left now : ℕ) (old set new : ChipState) (step : StepsChip old new) → IsSound old → IsSound new → old.stage ≡ Busy (task.Verify left) → ServedLeft n old → has_command new.stage ≡ true
    → set.stage ≡ Busy (task.Verify now) → EndsAs waiting (task.Verify left) set new → BusyLeft (n - 1) new
verify_ends (Some results) n left now old set new step sound still at was works stage ends =
    let told = verified set.order results in
    ended_left (looks_for_cylinder set.order told) n told old (with_front (results_taken set.front) set) new (busy_at old (task.Verify left) at sound) was works ends
verify_ends None n left now old set new step sound still at was works stage is = verify_on made.Steps n left now old new sound still at was step one_step (ap (λ (chip : ChipState). chip.stage) is ∙ stage)

verify_step : (n left : ℕ) (old new : ChipState) (step : StepsChip old new) → IsSound old → IsSound new → old.stage ≡ Busy (task.Verify left) → ServedLeft n old → has_command new.stage ≡ true → BusyLeft (n - 1) new
verify_step n left old new step sound still at was works =
    let (set, all, may) = subst (λ stage. Follows stage (with_front step.between old) new) at step.follows in
    verify_ends (results_judged set) n left all.now old set new step sound still at was works (ap (λ (chip : ChipState). chip.stage) all.after) may

-- ---- ---- READ TRACK

pub leaves_left : (n : ℕ) (new : ChipState) → Leaves n new → BusyLeft n new
leaves_left n new leaves = record { task = task.Track leaves.track; at = leaves.at; left = leaves }

step_left : (what : ChipTask) (n : ℕ) (old new : ChipState) (step : StepsChip old new) → IsSound old → IsSound new → old.stage ≡ Busy what → TaskLeft what n old → has_command new.stage ≡ true → BusyLeft (n - 1) new
step_left task.Sent n old new step sound still at left works = sent_step n old new step sound at left works
step_left (task.Sought first) n old new step sound still at left works = sought_step n first old new step sound at left works
step_left (task.Refused unit key mfm) n old new step sound still at left works = refused_step n unit key mfm old new step sound at left works
step_left (task.Verify rest) n old new step sound still at left works = verify_step n rest old new step sound still at left works
step_left (task.Track track) n old new step sound still at left works = leaves_left (n - 1) new (call_leaves made.Steps n old new sound still left step works)

-- ---- another call

none_one : (steps : ℕ) → steps ≡ 0 → steps ≤ 1
none_one steps none = omega arith

other_left : (call : Call) (what : ChipTask) (n : ℕ) (old new : ChipState) → IsSound old → IsSound new → old.stage ≡ Busy what → TaskLeft what n old → Does call old new → is_step call ≡ false → is_reset call ≡ false → KeepsTask (is_change call) what old new
    → BusyLeft (n - steps_of call) new
other_left call task.Sent n old new sound still at (inl was) does other quiet keeps =
    let before : IsServing old = record { sent = at; under_way = was.under } in
    let after = call_serving call old new before does other quiet in
    let passed = all_passed (call ∷ []) old new (new, does, after, refl) before in
    let same : steps_of call + 0 ≡ steps_of call = omega arith in
    let within : IsWithin (steps_of call) old.front new.front = record { calls = passed.all; within = passed.within; steps_are = passed.steps ∙ same } in
    record {
      task = task.Sent;
      at = after.sent;
      left = inl (served_within n (steps_of call) old new (serves_of old sound at was.under) was (none_one (steps_of call) (none_of call other)) after.under_way within);
    }
other_left call task.Sent n old new sound still at (inr was) does other quiet keeps =
    record { task = task.Sent; at = keeps.stage; left = inr (single_on call n old new sound at was does keeps.stage keeps.order) }
other_left call (task.Sought first) n old new sound still at was does other quiet keeps =
    let (on, few) = single_left call (task.Sought first) n old new sound at (busy_at old (task.Sought first) at sound) was.few does (ap stage_kind keeps.stage) (ap is_busy keeps.stage) in
    record { task = task.Sought first; at = keeps.stage; left = record { few = few } }
other_left call (task.Refused unit key mfm) n old new sound still at was does other quiet keeps =
    let (on, few) = single_left call (task.Refused unit key mfm) n old new sound at (busy_at old (task.Refused unit key mfm) at sound) was.few does (ap stage_kind keeps.stage) (ap is_busy keeps.stage) in
    record { task = task.Refused unit key mfm; at = keeps.stage; left = record { few = few } }
other_left call (task.Verify left) n old new sound still at was does other quiet keeps =
    verify_on call n left left old new sound still at was does (none_one (steps_of call) (none_of call other)) keeps.stage
other_left call (task.Track track) n old new sound still at was does other quiet keeps =
    leaves_left (n - steps_of call) new (call_leaves call n old new sound still was does (ap has_command keeps.stage.1))

-- ---- any call after which a command is under way

call_by_step : (call : Call) (n : ℕ) (old new : ChipState) → IsSound old → IsSound new → BusyLeft n old → Does call old new → has_command new.stage ≡ true → is_step call ≡ true → BusyLeft (n - steps_of call) new
call_by_step made.Steps n old new sound still was does works is = step_left was.task n old new does sound still was.at was.left works
call_by_step _ n old new sound still was does works is = absurd (false≢true is)

pub call_left : (call : Call) (n : ℕ) (old new : ChipState) → IsSound old → IsSound new → BusyLeft n old → Does call old new → has_command new.stage ≡ true → BusyLeft (n - steps_of call) new
call_left call n old new sound still was does works = either_way (is_step call)
    (λ is. call_by_step call n old new sound still was does works is)
    (λ other.
    let quiet = works_quiet call old new does works in
    other_left call was.task n old new sound still was.at was.left does other quiet (call_keeps call was.task old new does was.at other quiet))

-- ---- some device step is left

last_some : (now n : ℕ) → 1 ≤ now → now ≤ n → 0 < n
last_some now n some few = omega arith

executes_some : (n : ℕ) (chip : ChipState) → ExecutesBehind chip.front → steps_left chip.front.adapter.controller.phase ≤ n → 0 < n
executes_some n chip was few = let phase = chip.front.adapter.controller.phase in last_some (steps_left phase) n (left_some phase was.executes was.counted) few

task_some : (what : ChipTask) (n : ℕ) (chip : ChipState) → IsSound chip → chip.stage ≡ Busy what → TaskLeft what n chip → 0 < n
task_some task.Sent n chip sound at (inl was) = omega arith
task_some task.Sent n chip sound at (inr was) = executes_some n chip was.executes was.few
task_some (task.Verify left) n chip sound at was = omega arith
task_some (task.Track track) n chip sound at was = leaves_some was.track.place n was.track.left chip.front (busy_at chip (task.Track was.track) was.at sound) was.some was.leaves
task_some what n chip sound at was = executes_some n chip (busy_at chip what at sound) was.few

pub left_positive : (n : ℕ) (chip : ChipState) → IsSound chip → BusyLeft n chip → 0 < n
left_positive n chip sound was = task_some was.task n chip sound was.at was.left

-- ---- more device steps may be left

more_few : (now n m : ℕ) → n ≤ m → now ≤ n → now ≤ m
more_few now n m more few = omega arith

more_leaves : (place : Place) (n m left : ℕ) (front : Front) → n ≤ m → LeavesAt place n left front → LeavesAt place m left front
more_leaves Index n m left front more (here, lasts, few) = (here, lasts, more_few (here + 131328 * left) n m more few)
more_leaves Address n m left front more few =
    more_few (steps_left front.adapter.controller.phase + (65792 + 131328 * left)) (n + 131328) (m + 131328) (more_both n m more) few
  where
    more_both : (n m : ℕ) → n ≤ m → n + 131328 ≤ m + 131328
    more_both n m more = omega arith
more_leaves Data n m left front more (here, lasts, few) = (here, lasts, more_few (here + 131328 * left) (n + 131328) (m + 131328) (more_both n m more) few)
  where
    more_both : (n m : ℕ) → n ≤ m → n + 131328 ≤ m + 131328
    more_both n m more = omega arith

more_served : (n m : ℕ) (chip : ChipState) → n ≤ m → ServedLeft n chip → ServedLeft m chip
more_served n m chip more was = record { under = was.under; here = was.here; lasts = was.lasts; few = more_few (was.here + 65536) n m more was.few }

more_task : (what : ChipTask) (n m : ℕ) (chip : ChipState) → n ≤ m → TaskLeft what n chip → TaskLeft what m chip
more_task task.Sent n m chip more (inl was) = inl (more_served n m chip more was)
more_task task.Sent n m chip more (inr was) =
    inr (record { executes = was.executes; few = more_few (steps_left chip.front.adapter.controller.phase) n m more was.few; never = was.never })
more_task (task.Verify left) n m chip more was = more_served n m chip more was
more_task (task.Track track) n m chip more was =
    record { track = was.track; at = was.at; some = was.some; leaves = more_leaves was.track.place n m was.track.left chip.front more was.leaves }
more_task _ n m chip more was = record { few = more_few (steps_left chip.front.adapter.controller.phase) n m more was.few }

pub more_left : (n m : ℕ) (chip : ChipState) → n ≤ m → BusyLeft n chip → BusyLeft m chip
more_left n m chip more was = record { task = was.task; at = was.at; left = more_task was.task n m chip more was.left }
