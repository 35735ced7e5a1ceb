-- A READ ID or a FORMAT TRACK of the inner controller ends: each device step leaves fewer.
use Rattle.std.proofs.Common.{◌≡◌, inl, inr, ℕ, ◌+◌, ◌-◌, ◌<◌, ◌≤◌, Bool, true, false, not, ◌&&◌, ◌==◌, option_map, List, [], ◌∷◌, bit_and, refl, sym, ◌∙◌, ap, subst, arith}
use Rattle.laws_chip.proofs.Common.{eqb-false, false≢true, missing_mark, Results, phase_told, Phase, Execute, IsCounted, Fdc, Front, GivesFront, front_told, told_if, results_taken, StepsFront, ChipState, with_front, is_size, Ends, EndsAddress, EndsAddressIf, EndsAt, EndsAs, EndsData, EndsIndex, EndsSent, is_over, judged, looks_for_cylinder, verified, without_one, Follows, FollowsTask, Place, Index, Address, Data, ChipStage, Busy, ChipTask, Track, Call, Does, steps_in, steps_of, AreAt, ExecutesBehind, IsSound, executes_single, has_command, core_steps_left as steps_left}
use Rattle.laws_chip.proofs.Channels.{counts_executes, front_gives, front_takes, gives_executes, keeps_executes, port_executes, front_left, takes_executes}
use Rattle.laws_chip.proofs.Rests.{through_step, executes_none, executes_step, single_fewer, waits_shown}
use Rattle.laws_chip.proofs.Known.{adapter_ends}
use Rattle.laws_chip.proofs.SoundCalls.{call_sound}
use Rattle.laws_chip.proofs.SoundParts.{busy_at, is_busy}
use Rattle.laws_chip.proofs.UnderWay.{not_through}
use Rattle.laws_chip.proofs.NextStages.{Makes, call_stays, is_change}
use Rattle.laws_chip.proofs.VerifiesLast.{FormatsOn, formats, formats_step, told_formats}
use Rattle.fdc_chip.specs.declared.stage.ChipTask.TheVariants as task
use Rattle.laws_chip.specs.Calls as made
use Rattle.laws_chip.proofs.NextStages as makes

-- ---- what is over leaves the stage

abbrev pub place_kind : Place → ℕ
place_kind Index = 4
place_kind Address = 5
place_kind Data = 6

-- what a task does, except for what is left of it and the terminal count
abbrev pub kind_of : ChipTask → ℕ
kind_of task.Sent = 0
kind_of (task.Sought first) = 1
kind_of (task.Refused unit key mfm) = 2
kind_of (task.Verify left) = 3
kind_of (task.Track track) = place_kind track.place

abbrev pub stage_kind : ChipStage → ℕ
stage_kind (Busy what) = kind_of what
stage_kind _ = 7

-- the stage is then another one
other_kind : (n m : ℕ) (new : ChipState) → (n == m) ≡ false → stage_kind new.stage ≡ n → stage_kind new.stage ≡ m → ⊥
other_kind n m new other is same = eqb-false n m other (sym is ∙ same)

-- once a command that was sent has ended, the chip looks which cylinder passes or gives results, and its stage is no
-- other
sent_leaves : (b : Bool) (n : ℕ) (results : Results) (old new : ChipState) → (1 == n) ≡ false → (7 == n) ≡ false → EndsSent b results old new → stage_kind new.stage ≡ n → ⊥
sent_leaves true n results old new looked told (gives, rest) same = other_kind 1 n new looked (ap (λ (chip : ChipState). stage_kind chip.stage) rest) same
sent_leaves false n results old new looked told is same = other_kind 7 n new told (ap (λ (chip : ChipState). stage_kind chip.stage) is) same

index_leaves : (b : Bool) (track : Track) (old new : ChipState) → EndsIndex b track old new → stage_kind new.stage ≡ 4 → ⊥
index_leaves true track old new is same = other_kind 7 4 new refl (ap (λ (chip : ChipState). stage_kind chip.stage) is) same
index_leaves false track old new (gives, rest) same = other_kind 5 4 new refl (ap (λ (chip : ChipState). stage_kind chip.stage) rest) same

sector_leaves : (b : Bool) (results : Results) (track : Track) (old new : ChipState) → EndsAddressIf b results track old new → stage_kind new.stage ≡ 5 → ⊥
sector_leaves true results track old new (gives, rest) same = other_kind 6 5 new refl (ap (λ (chip : ChipState). stage_kind chip.stage) rest) same
sector_leaves false results track old new is same = other_kind 7 5 new refl (ap (λ (chip : ChipState). stage_kind chip.stage) is) same

address_leaves : (b : Bool) (results : Results) (track : Track) (old new : ChipState) → EndsAddress b results track old new → stage_kind new.stage ≡ 5 → ⊥
address_leaves true results track old new is same = other_kind 7 5 new refl (ap (λ (chip : ChipState). stage_kind chip.stage) is) same
address_leaves false results track old new ends same = sector_leaves ((results.st1.0 == 0) && is_size track.key.n) results track old new ends same

data_leaves : (b : Bool) (track : Track) (old new : ChipState) → EndsData b track old new → stage_kind new.stage ≡ 6 → ⊥
data_leaves true track old new is same = other_kind 7 6 new refl (ap (λ (chip : ChipState). stage_kind chip.stage) is) same
data_leaves false track old new (gives, rest) same = other_kind 5 6 new refl (ap (λ (chip : ChipState). stage_kind chip.stage) rest) same

place_leaves : (place : Place) (track : Track) (results : Results) (old new : ChipState) → EndsAt place track results old new → stage_kind new.stage ≡ place_kind place → ⊥
place_leaves Index track results old new ends same = index_leaves (not (bit_and results.st1.0 missing_mark == 0)) track old new ends same
place_leaves Address track results old new ends same = address_leaves track.counted results track old new ends same
place_leaves Data track results old new ends same = let over = without_one results track in data_leaves (is_over results over) over old new ends same

pub ends_leave : (what : ChipTask) (results : Results) (old new : ChipState) → Ends what results old new → stage_kind new.stage ≡ kind_of what → ⊥
ends_leave task.Sent results old new ends same = sent_leaves (looks_for_cylinder old.order results) 0 results old new refl refl ends same
ends_leave (task.Sought first) results old new is same = other_kind 7 1 new refl (ap (λ (chip : ChipState). stage_kind chip.stage) is) same
ends_leave (task.Refused unit key mfm) results old new is same = other_kind 7 2 new refl (ap (λ (chip : ChipState). stage_kind chip.stage) is) same
ends_leave (task.Verify left) results old new ends same =
    let told = verified old.order results in sent_leaves (looks_for_cylinder old.order told) 3 told old new refl refl ends same
ends_leave (task.Track track) results old new ends same = place_leaves track.place track results old new ends same

-- ---- one call

-- the command is still executed, and at least so many fewer device steps are left
pub record StaysSingle (n : ℕ) (old new : Front) : Type 0 where
  pub executes : ExecutesBehind new
  pub left : steps_left new.adapter.controller.phase + n ≤ steps_left old.adapter.controller.phase
  pub formats : formats old.adapter.controller.phase ≡ true → formats new.adapter.controller.phase ≡ true

same_left : (n m : ℕ) → n ≡ m → n + 0 ≤ m
same_left n m same = omega arith

phase_left : (old new : Front) → new.adapter.controller.phase ≡ old.adapter.controller.phase → ExecutesBehind new → StaysSingle 0 old new
phase_left old new same executes =
    record {
      executes = executes;
      left = same_left (steps_left new.adapter.controller.phase) (steps_left old.adapter.controller.phase) (ap steps_left same);
      formats = λ was. ap formats same ∙ was;
    }

-- a device step
pub step_fewer : (old between : Front) → StepsFront old between → ExecutesBehind old → steps_left between.adapter.controller.phase < steps_left old.adapter.controller.phase
step_fewer old between step was =
    let phase = old.adapter.controller.phase in
    let fewer = (single_fewer phase step.between.controller.phase was.executes (adapter_ends old.adapter step.between step.steps)).0 in
    subst (λ (front : Front). steps_left front.adapter.controller.phase < steps_left phase) (sym (through_step old between step was.through)) fewer

still_formats : (phase : Phase) → executes_single phase ≡ true → FormatsOn phase → formats phase ≡ true
still_formats (Execute execution) single on = on
still_formats _ single on = absurd (false≢true single)

-- for a VERIFY the inner controller executes neither READ ID nor FORMAT TRACK
not_verify : {A : Type 0} (left : ℕ) (old : ChipState) → IsSound old → old.stage ≡ Busy (task.Verify left) → ExecutesBehind old.front → A
not_verify left old sound at was = absurd (not_through old.front (busy_at old (task.Verify left) at sound).under_way was.through)

follows_single : (what : ChipTask) (old : ChipState) (between : Front) (new : ChipState) → IsSound old → old.stage ≡ Busy what → StepsFront old.front between → ExecutesBehind old.front
    → FollowsTask what (with_front between old) new → stage_kind new.stage ≡ kind_of what → StaysSingle 1 old.front new.front
follows_single (task.Verify left) old between new sound at step was follows same = not_verify left old sound at was
follows_single what old between new sound at step was may same =
    let set = with_front between old in
    let left = step_fewer old.front between step was in
    elim (executes_step old.front between step sound.whole was).0 [
      | inl still ↦
          let at : new ≡ set = subst (λ r. EndsAs (option_map (judged set) r) what set new) (executes_none between still) may in
          subst (λ (chip : ChipState). StaysSingle 1 old.front chip.front) (sym at)
          (record {
            executes = still;
            left = omega arith;
            formats = λ formatted. still_formats between.adapter.controller.phase still.executes (formats_step old.front between step was.through formatted);
          })
      | inr waits ↦
          let results = judged set waits.results in
          let ends : Ends what results (with_front (results_taken between) old) new = subst (λ r. EndsAs (option_map (judged set) r) what set new) (waits_shown between waits) may in
          absurd (ends_leave what results (with_front (results_taken between) old) new ends same)
    ]

gives_single : (byte : ℕ) (old : Front) (given : Bool) (new : Front) → GivesFront byte old given new → ExecutesBehind old → StaysSingle 0 old new
gives_single byte old given new gives was = phase_left old new (front_gives byte old given new was.through gives).1.phase (gives_executes byte old given new gives was)

told_left : (phase : Phase) → steps_left (phase_told phase) ≡ steps_left phase
told_left (Execute execution) = refl
told_left _ = refl

-- a call that is no device step
pub makes_single : (b : Bool) (old new : Front) → Makes b old new → ExecutesBehind old → StaysSingle 0 old new
makes_single b old new (makes.Same is) was = record {
  executes = subst ExecutesBehind (sym is) was;
  left = same_left (steps_left new.adapter.controller.phase) (steps_left old.adapter.controller.phase) (ap (λ (front : Front). steps_left front.adapter.controller.phase) is);
  formats = λ was. ap (λ (front : Front). formats front.adapter.controller.phase) is ∙ was;
}
makes_single b old new (makes.Takes byte takes) was = phase_left old new (front_takes old byte new was.through takes).1.phase (takes_executes old byte new takes was)
makes_single b old new (makes.Gives byte given gives) was = gives_single byte old given new gives was
makes_single b old new (makes.Counts is) was =
    let at : new ≡ record old { adapter = told_if true old.adapter } = subst (λ stage. new ≡ front_told stage old) was.through is in
    record {
      executes = counts_executes old new is was;
      left = same_left (steps_left new.adapter.controller.phase) (steps_left old.adapter.controller.phase)
          (ap (λ (front : Front). steps_left front.adapter.controller.phase) at ∙ told_left old.adapter.controller.phase);
      formats = λ formatted. ap (λ (front : Front). formats front.adapter.controller.phase) at ∙ told_formats old.adapter.controller.phase formatted;
    }
makes_single b old new (makes.Writes port value writes no_data quiet) was =
    phase_left old new (front_left port value old new writes no_data quiet).phase (port_executes port value old new writes no_data quiet was)
makes_single b old new (makes.Changes changes keeps) was = phase_left old new (ap (λ (fdc : Fdc). fdc.phase) keeps.controller) (keeps_executes old new keeps was)

pub busy_works : (stage : ChipStage) → is_busy stage ≡ true → has_command stage ≡ true
busy_works (Busy what) busy = refl
busy_works _ busy = absurd (false≢true busy)

pub single_call : (call : Call) (what : ChipTask) (old new : ChipState) → IsSound old → old.stage ≡ Busy what → ExecutesBehind old.front → Does call old new → is_busy new.stage ≡ true
    → stage_kind new.stage ≡ kind_of what → StaysSingle (steps_of call) old.front new.front
single_call made.Steps what old new sound at was does still same =
    follows_single what old does.between new sound at does.steps was (subst (λ stage. Follows stage (with_front does.between old) new) at does.follows) same
single_call call what old new sound at was does still same =
    makes_single (is_change call) old.front new.front (call_stays call what old new does at refl (busy_works new.stage still)).front was

-- ---- ---- calls one after the other

pub left_some : (phase : Phase) → executes_single phase ≡ true → IsCounted phase → 1 ≤ steps_left phase
left_some (Execute execution) single counted = omega arith
left_some _ single counted = absurd (false≢true single)

pub left_most : (phase : Phase) → steps_left phase ≤ 65536
left_most (Execute execution) = omega arith
left_most _ = omega arith

none_less : (left n : ℕ) → 1 ≤ left → left ≤ n → 0 < n
none_less left n some few = omega arith

pub steps_less : (steps more n : ℕ) → more < n - steps → steps + more < n
steps_less steps more n less = omega arith

singles_last : (calls : List Call) (what : ChipTask) (n : ℕ) (old new : ChipState) → IsSound old → old.stage ≡ Busy what → ExecutesBehind old.front → steps_left old.front.adapter.controller.phase ≤ n
    → AreAt (Busy what) calls old new → steps_in calls < n
singles_last [] what n old new sound at was few same =
    let phase = old.front.adapter.controller.phase in none_less (steps_left phase) n (left_some phase was.executes was.counted) few
singles_last (call ∷ calls) what n old new sound at was few (between, does, writes, still, rest) =
    let on = single_call call what old between sound at was does (ap is_busy still) (ap stage_kind still) in
    let steps = steps_of call in
    steps_less steps (steps_in calls) n (singles_last calls what (n - steps) between new (call_sound call old between does writes sound) still on.executes
    (omega arith) rest)

pub single_last : (what : ChipTask) (calls : List Call) (old new : ChipState) → IsSound old → old.stage ≡ Busy what → ExecutesBehind old.front → AreAt (Busy what) calls old new → steps_in calls < 65536
single_last what calls old new sound at was are = singles_last calls what 65536 old new sound at was (left_most old.front.adapter.controller.phase) are
