-- A sound chip through device steps.
use Rattle.std.proofs.Common.{◌≡◌, ◌⊎◌, inl, inr, ℕ, zero, suc, nat_le, Bool, true, false, not, ◌&&◌, ◌==◌, if◌then◌else◌, Option, Some, None, [], bit_and, refl, sym, ◌∙◌, ap, subst}
use Rattle.laws_chip.proofs.Common.{option_map, and_parts, not-true, Chrn, missing_mark, Results, Front, TakesFront, interrupts_outside, is_ready_behind, results_outside, results_taken, told_front, StepsFront, ChipState, asks_chip, interrupts_chip, with_front, code_of, GivesOn, drained, identifying, implies, is_size, moves_heads, moving, Ends, EndsAddress, EndsAddressIf, EndsAs, EndsAt, EndsData, EndsIndex, EndsSent, LooksOn, MayEnd, ReadsOn, is_over, judged, looks_for_cylinder, met_key, sector_met, told_results, track_at, unit_of, verified, without_one, EndsPace, GoesOnIf, Paces, PulsesIf, is_due, is_over_pace, step_words, Follows, FollowsTask, RunsChip, StepsChip, Swallows, SwallowsAs, PacedSeek, Place, Index, Address, Data, ChipStage, Ready, Held, Busy, ChipTask, Track, ExecutesBehind, IsBusyAt, IsBusyWith, IsSound, RestsBehind, ServesBehind, chip_stepped as stepped, ChipTelling as Telling, CommandReadId as ReadId}
use Rattle.fdc_chip.specs.Steps.{RunsChipWith, SwallowsBy}
use Rattle.laws_chip.proofs.Attended.{attended_sound, done_sound, given_moves, recalibrated_rests}
use Rattle.laws_chip.proofs.Channels.{IsOverBehind, counts_busy, counts_front_base, counts_over, takes_busy, takes_front_base, takes_over}
use Rattle.laws_chip.proofs.PassedOn.{none_wait}
use Rattle.laws_chip.proofs.Rests.{IsResting, base_on, base_same, drained_rests, front_rests, stands_rests, executes_none, executes_step, id_executes, waits_shown, waits_taken}
use Rattle.laws_chip.proofs.SoundParts.{IsBasis, at_rest, basis_busy, basis_front, basis_same, basis_set, busy_at, is_busy, is_ready, rests_at, sound_basis, stays_sound, serves_step, tells_shown, tells_taken}
use Rattle.laws_chip.proofs.UnderWay.{Stands, given_obeyed, heads_stand, ready_free, IsBase, field_serves}
use Rattle.fdc_chip.specs.declared.stage.ChipTask.TheVariants as task

-- ---- what comes of results

-- the results are given
told_sound : (results : Results) (old new : ChipState) → IsBasis old → Stands old.front → new ≡ told_results results old → IsSound new
told_sound results old new basis stands is =
    done_sound old (told_results results old) new basis (stands_rests old.front stands) (record { front = refl; count = refl; order = refl }) refl is

-- the inner controller is given READ ID
id_given : (what : ChipTask) (unit : ℕ) (set new : ChipState) → IsBasis set → Stands set.front → set.stage ≡ Busy what → (ExecutesBehind new.front → IsBusyWith what new.front) → GivesOn (identifying unit) set new → IsSound new
id_given what unit set new basis stands at busy (gives, rest) =
    let (executes, base) = id_executes unit set.front new.front stands (given_obeyed (ReadId unit) set.front new.front stands refl gives) in
    basis_busy new what (basis_same set new basis base (ap (λ (chip : ChipState). chip.count) rest) (ap (λ (chip : ChipState). chip.order) rest)) (busy executes)
    (ap (λ (chip : ChipState). chip.stage) rest ∙ at)

-- the chip with what is then under way
pub set_basis : (stage : ChipStage) (old : ChipState) → IsBasis old → IsBasis (record old { stage = stage })
set_basis stage old basis = basis_set old (record old { stage = stage }) basis

looks_sound : (track : Track) (old new : ChipState) → IsBasis old → Stands old.front → LooksOn track old new → IsSound new
looks_sound track old new basis stands looks =
    let next : Track = record track { place = Address } in
    id_given (task.Track next) track.unit (track_at next old) new (basis_set old (track_at next old) basis) stands refl (λ executes. executes) looks

reads_sound : (track : Track) (key : Chrn) (old new : ChipState) → IsBasis old → Stands old.front → is_size track.key.n ≡ true → ReadsOn track key old new → IsSound new
reads_sound track key old new basis stands sized (reads, rest) =
    let met : Track = met_key key track in
    let set = track_at met old in
    let (serves, base) = field_serves track.unit (sector_met key track) set.front new.front stands sized reads in
    basis_busy new (task.Track met) (basis_same set new (basis_set old set basis) base (ap (λ (chip : ChipState). chip.count) rest) (ap (λ (chip : ChipState). chip.order) rest)) serves
    (ap (λ (chip : ChipState). chip.stage) rest)

sent_sound : (b : Bool) (results : Results) (old new : ChipState) → IsBasis old → Stands old.front → EndsSent b results old new → IsSound new
sent_sound true results old new basis stands looks =
    let sought : ChipStage = Busy (task.Sought results) in
    id_given (task.Sought results) (unit_of results) (record old { stage = sought }) new (set_basis sought old basis) stands refl (λ executes. executes) looks
sent_sound false results old new basis stands is = told_sound results old new basis stands is

index_sound : (b : Bool) (track : Track) (old new : ChipState) → IsBasis old → Stands old.front → EndsIndex b track old new → IsSound new
index_sound true track old new basis stands is = told_sound _ old new basis stands is
index_sound false track old new basis stands looks = looks_sound track old new basis stands looks

met_sound : (b : Bool) (results : Results) (track : Track) (old new : ChipState) → IsBasis old → Stands old.front → ((results.st1.0 == 0) && is_size track.key.n) ≡ b → EndsAddressIf b results track old new → IsSound new
met_sound true results track old new basis stands met reads = reads_sound track results.key old new basis stands (and_parts (results.st1.0 == 0) (is_size track.key.n) met).1 reads
met_sound false results track old new basis stands met is = told_sound _ old new basis stands is

address_sound : (b : Bool) (results : Results) (track : Track) (old new : ChipState) → IsBasis old → Stands old.front → EndsAddress b results track old new → IsSound new
address_sound true results track old new basis stands is = told_sound _ old new basis stands is
address_sound false results track old new basis stands ends = met_sound ((results.st1.0 == 0) && is_size track.key.n) results track old new basis stands refl ends

data_sound : (b : Bool) (track : Track) (old new : ChipState) → IsBasis old → Stands old.front → EndsData b track old new → IsSound new
data_sound true track old new basis stands is = told_sound _ old new basis stands is
data_sound false track old new basis stands looks = looks_sound track old new basis stands looks

place_sound : (place : Place) (track : Track) (results : Results) (old new : ChipState) → IsBasis old → Stands old.front → EndsAt place track results old new → IsSound new
place_sound Index track results old new basis stands ends = index_sound (not (bit_and results.st1.0 missing_mark == 0)) track old new basis stands ends
place_sound Address track results old new basis stands ends = address_sound track.counted results track old new basis stands ends
place_sound Data track results old new basis stands ends =
    let over = without_one results track in data_sound (is_over results over) over old new basis stands ends

ends_sound : (what : ChipTask) (results : Results) (old new : ChipState) → IsBasis old → Stands old.front → Ends what results old new → IsSound new
ends_sound task.Sent results old new basis stands ends = sent_sound (looks_for_cylinder old.order results) results old new basis stands ends
ends_sound (task.Verify left) results old new basis stands ends =
    let told = verified old.order results in sent_sound (looks_for_cylinder old.order told) told old new basis stands ends
ends_sound (task.Track track) results old new basis stands ends = place_sound track.place track results old new basis stands ends
ends_sound _ results old new basis stands is = told_sound _ old new basis stands is

-- ---- ---- what may wait after a step

-- what is executed for this task, or the results of that
abbrev pub IsAtStep : ChipTask → Front → Type 0
IsAtStep what front = IsBusyWith what front ⊎ IsOverBehind front

serves_none : (front : Front) → ServesBehind front → results_outside front ≡ None
serves_none front serves = none_wait front serves.under_way

place_none : (place : Place) (front : Front) → IsBusyAt place front → results_outside front ≡ None
place_none Address front executes = executes_none front executes
place_none _ front serves = serves_none front serves

pub busy_none : (what : ChipTask) (front : Front) → IsBusyWith what front → results_outside front ≡ None
busy_none task.Sent front (inl serves) = serves_none front serves
busy_none task.Sent front (inr executes) = executes_none front executes
busy_none (task.Sought first) front executes = executes_none front executes
busy_none (task.Refused unit key mfm) front executes = executes_none front executes
busy_none (task.Verify left) front serves = serves_none front serves
busy_none (task.Track track) front busy = place_none track.place front busy

taken_sound : (what : ChipTask) (results : Results) (chip new : ChipState) → IsBasis chip → results_outside chip.front ≡ Some results
    → Stands (results_taken chip.front) × IsBase chip.front.adapter.controller (results_taken chip.front).adapter.controller → MayEnd what chip new → IsSound new
taken_sound what results chip new basis shown (stands, base) may =
    ends_sound what (judged chip results) (with_front (results_taken chip.front) chip) new (basis_front (results_taken chip.front) chip basis base) stands
    (subst (λ found. EndsAs (option_map (judged chip) found) what chip new) shown may)

may_end_sound : (what under : ChipTask) (chip new : ChipState) → IsBasis chip → chip.stage ≡ Busy under → IsAtStep under chip.front → MayEnd what chip new → IsSound new
may_end_sound what under chip new basis at (inl busy) may =
    let same : new ≡ chip = subst (λ found. EndsAs (option_map (judged chip) found) what chip new) (busy_none under chip.front busy) may in
    subst IsSound (sym same) (basis_busy chip under basis busy at)
may_end_sound what under chip new basis at (inr (inl tells)) may =
    taken_sound what tells.results chip new basis (tells_shown chip.front tells) (tells_taken chip.front basis.free basis.whole basis.by_dma tells) may
may_end_sound what under chip new basis at (inr (inr waits)) may =
    taken_sound what waits.results chip new basis (waits_shown chip.front waits) (waits_taken chip.front basis.free basis.whole basis.by_dma waits) may

-- ---- what the front's step leaves

-- after the step the front is in such a state, and the controller's base stays
pub record IsStepped (what : ChipTask) (old new : Front) : Type 0 where
  pub at : IsAtStep what new
  pub base : IsBase old.adapter.controller new.adapter.controller

serves_stepped : (old new : Front) → StepsFront old new → old.adapter.controller.command ≡ [] → old.adapter.controller.non_dma ≡ false → ServesBehind old
    → (ServesBehind new ⊎ IsOverBehind new) × IsBase old.adapter.controller new.adapter.controller
serves_stepped old new step none clear was = let (goes, base) = serves_step old new step none clear was in
    (elim goes [ inl still ↦ inl still | inr tells ↦ inr (inl tells) ], base)

executes_stepped : (old new : Front) → StepsFront old new → old.adapter.controller.command ≡ [] → ExecutesBehind old → (ExecutesBehind new ⊎ IsOverBehind new) × IsBase old.adapter.controller new.adapter.controller
executes_stepped old new step none was = let (goes, base) = executes_step old new step none was in
    (elim goes [ inl still ↦ inl still | inr waits ↦ inr (inr waits) ], base)

stepped_as : {A : Type 0} (what : ChipTask) (old new : Front) → (A → IsBusyWith what new) → (A ⊎ IsOverBehind new) × IsBase old.adapter.controller new.adapter.controller → IsStepped what old new
stepped_as what old new busy (goes, base) = record { at = elim goes [ inl still ↦ inl (busy still) | inr over ↦ inr over ]; base = base }

place_stepped : (place : Place) (track : Track) (old new : Front) → track.place ≡ place → StepsFront old new → old.adapter.controller.command ≡ [] → old.adapter.controller.non_dma ≡ false → IsBusyAt place old
    → IsStepped (task.Track track) old new
place_stepped Address track old new at step none clear busy =
    stepped_as (task.Track track) old new (λ executes. subst (λ place. IsBusyAt place new) (sym at) executes) (executes_stepped old new step none busy)
place_stepped _ track old new at step none clear busy =
    stepped_as (task.Track track) old new (λ serves. subst (λ place. IsBusyAt place new) (sym at) serves) (serves_stepped old new step none clear busy)

pub front_stepped : (what : ChipTask) (old new : Front) → StepsFront old new → old.adapter.controller.command ≡ [] → old.adapter.controller.non_dma ≡ false → IsBusyWith what old → IsStepped what old new
front_stepped task.Sent old new step none clear (inl busy) = stepped_as task.Sent old new (λ serves. inl serves) (serves_stepped old new step none clear busy)
front_stepped task.Sent old new step none clear (inr busy) = stepped_as task.Sent old new (λ executes. inr executes) (executes_stepped old new step none busy)
front_stepped (task.Sought first) old new step none clear busy = stepped_as (task.Sought first) old new (λ executes. executes) (executes_stepped old new step none busy)
front_stepped (task.Refused unit key mfm) old new step none clear busy = stepped_as (task.Refused unit key mfm) old new (λ executes. executes) (executes_stepped old new step none busy)
front_stepped (task.Verify left) old new step none clear busy = stepped_as (task.Verify left) old new (λ serves. serves) (serves_stepped old new step none clear busy)
front_stepped (task.Track track) old new step none clear busy = place_stepped track.place track old new refl step none clear busy

-- ---- the bytes of a VERIFY

takes_step : (what : ChipTask) (old : Front) (byte : Option ℕ) (new : Front) → TakesFront old byte new → IsAtStep what old → IsAtStep what new
takes_step what old byte new takes (inl busy) = inl (takes_busy what old byte new takes busy)
takes_step what old byte new takes (inr over) = inr (takes_over old byte new takes over)

counts_step : (what : ChipTask) (old new : Front) → new ≡ told_front old → IsAtStep what old → IsAtStep what new
counts_step what old new is (inl busy) = inl (counts_busy what old new is busy)
counts_step what old new is (inr over) = inr (counts_over old new is over)

told_after : (b : Bool) (what : ChipTask) (start between new : Front) → IsStepped what start between → new ≡ (if b then told_front between else between) → IsStepped what start new
told_after true what start between new was is = record {
  at = counts_step what between new is was.at;
  base = base_on start.adapter.controller between.adapter.controller new.adapter.controller was.base (counts_front_base between new was.base.command is);
}
told_after false what start between new was is = subst (IsStepped what start) (sym is) was

swallows_after : (byte : Option ℕ) (what : ChipTask) (left now : ℕ) (start between new : Front) → IsStepped what start between → SwallowsAs byte left between now new → IsStepped what start new
swallows_after None what left now start between new was (now_is, is) = subst (IsStepped what start) (sym is) was
swallows_after (Some byte) what left now start between new was (now_is, is) = told_after (left == 1) what start between new was is

swallows_one : (what : ChipTask) (left now : ℕ) (start old new : Front) → IsStepped what start old → Swallows left old now new → IsStepped what start new
swallows_one what left now start old new was one =
    swallows_after one.byte what left now start one.between new (record {
      at = takes_step what old one.byte one.between one.takes was.at;
      base = base_on start.adapter.controller old.adapter.controller one.between.adapter.controller was.base (takes_front_base old one.byte one.between was.base.command one.takes);
    }) one.after

pub swallows_many : (n : ℕ) (what : ChipTask) (left now : ℕ) (start old new : Front) → IsStepped what start old → SwallowsBy n left old now new → IsStepped what start new
unfolding SwallowsBy
swallows_many zero what left now start old new was (now_is, is) = subst (IsStepped what start) (sym is) was
swallows_many (suc n) what left now start old new was (some, between, many, one) =
    swallows_one what some now start between new (swallows_many n what left some start old between was many) one

-- ---- a device step of a chip that is busy

verify_step : (left : ℕ) (old : ChipState) (between : Front) (new : ChipState) → IsBasis old → IsStepped (task.Verify left) old.front between → FollowsTask (task.Verify left) (with_front between old) new → IsSound new
verify_step left old between new basis was (set, all, may) =
    let after = swallows_many 16 (task.Verify left) left all.now old.front between all.front was all.swallows in
    let still = basis_front all.front old basis after.base in
    let chip : ChipState = record (with_front all.front old) { stage = Busy (task.Verify all.now) } in
    may_end_sound (task.Verify left) (task.Verify all.now) chip new (set_basis (Busy (task.Verify all.now)) (with_front all.front old) still) refl after.at
    (subst (λ from. MayEnd (task.Verify left) from new) all.after may)

busy_step : (what : ChipTask) (old : ChipState) (between : Front) (new : ChipState) → old.stage ≡ Busy what → IsBasis old → IsStepped what old.front between → FollowsTask what (with_front between old) new → IsSound new
busy_step (task.Verify left) old between new at basis was follows = verify_step left old between new basis was follows
busy_step task.Sent old between new at basis was may = may_end_sound task.Sent task.Sent (with_front between old) new (basis_front between old basis was.base) at was.at may
busy_step (task.Sought first) old between new at basis was may =
    may_end_sound (task.Sought first) (task.Sought first) (with_front between old) new (basis_front between old basis was.base) at was.at may
busy_step (task.Refused unit key mfm) old between new at basis was may =
    may_end_sound (task.Refused unit key mfm) (task.Refused unit key mfm) (with_front between old) new (basis_front between old basis was.base) at was.at may
busy_step (task.Track track) old between new at basis was may =
    may_end_sound (task.Track track) (task.Track track) (with_front between old) new (basis_front between old basis was.base) at was.at may

-- ---- of any chip

-- the front rests, and nothing else of the chip has changed
stage_rests : (old new : ChipState) → IsSound old → is_busy old.stage ≡ false → RestsBehind new.front → IsBase old.front.adapter.controller new.front.adapter.controller → new.stage ≡ old.stage → new.count ≡ old.count
    → new.order ≡ old.order → IsSound new
stage_rests old new sound idle rests base stage count order = stays_sound old new sound base stage count order (rests_at old.stage new.front idle rests)

-- ---- ---- a seek whose pulses come in the time that SPECIFY sets

-- the inner controller is given a command of that seek
gives_rests : (unit : ℕ) (goal : Option ℕ) (old set new : ChipState) → Stands old.front → set.front ≡ old.front → set.stage ≡ old.stage → set.count ≡ old.count → set.order ≡ old.order
    → implies set ≡ implies old → GivesOn (moving unit goal) set new → IsResting old new
gives_rests unit goal old set new stands front stage count order implied (gives, rest) =
    let (rests, base) = given_moves unit goal set.front new.front (subst Stands (sym front) stands) gives in
    record {
      rests = rests;
      base = subst (λ (f : Front). IsBase f.adapter.controller new.front.adapter.controller) front base;
      stage = ap (λ (chip : ChipState). chip.stage) rest ∙ stage;
      count = ap (λ (chip : ChipState). chip.count) rest ∙ count;
      order = ap (λ (chip : ChipState). chip.order) rest ∙ order;
      implied = ap implies rest ∙ implied;
    }

ends_rest : (goal : Option ℕ) (pace : PacedSeek) (old new : ChipState) → Stands old.front → EndsPace goal pace (record old { pace = None }) new → IsResting old new
ends_rest (Some target) pace old new stands ends = gives_rests pace.unit (Some target) old (record old { pace = None }) new stands refl refl refl refl refl ends
ends_rest None pace old new stands is =
    let (rests, base) = recalibrated_rests pace.unit pace.left old.front stands in
    subst (IsResting old) (sym is) (record { rests = rests; base = base; stage = refl; count = refl; order = refl; implied = refl })

pulses_rest : (b : Bool) (pace : PacedSeek) (old new : ChipState) → Stands old.front → PulsesIf b pace old new → IsResting old new
pulses_rest true pace old new stands ends = ends_rest pace.goal pace old new stands ends
pulses_rest false pace old new stands pulses =
    let next : PacedSeek = stepped (step_words old.settings) pace in
    gives_rests pace.unit (Some next.cylinder) old (record old { pace = Some next }) new stands refl refl refl refl refl pulses

goes_rests : (b : Bool) (pace : PacedSeek) (old new : ChipState) → old.front.adapter.controller.non_dma ≡ false → old.front.adapter.controller.command ≡ [] → RestsBehind old.front → is_due pace old ≡ b
    → GoesOnIf b pace old new → IsResting old new
goes_rests true pace old new by_dma none rests due pulses =
    let waited = nat_le pace.wait 1 in
    let (timed, still) = and_parts (waited && is_ready_behind old.front) (not (moves_heads old.front)) due in
    let free = ready_free old.front (and_parts waited (is_ready_behind old.front) timed).1 in
    pulses_rest (is_over_pace pace) pace old new (record {
      through = rests.through;
      takes = rests.takes;
      none = none;
      free = free;
      rests = heads_stand old.front rests.through free rests.takes none rests.seek (not-true (moves_heads old.front) still);
      by_dma = by_dma;
    }) pulses
goes_rests false pace old new by_dma none rests due is =
    subst (IsResting old) (sym is) (record { rests = rests; base = base_same old.front.adapter.controller none; stage = refl; count = refl; order = refl; implied = refl })

-- the inner controller still rests
pub paces_rest : (pace : Option PacedSeek) (old new : ChipState) → old.front.adapter.controller.non_dma ≡ false → old.front.adapter.controller.command ≡ [] → RestsBehind old.front → Paces pace old new → IsResting old new
paces_rest None old new by_dma none rests is =
    subst (IsResting old) (sym is) (record { rests = rests; base = base_same old.front.adapter.controller none; stage = refl; count = refl; order = refl; implied = refl })
paces_rest (Some pace) old new by_dma none rests goes =
    let set = drained old in
    let was = drained_rests 4 old none rests in
    let on = goes_rests (is_due pace set) pace set new (was.base.non_dma ∙ by_dma) was.base.command was.rests refl goes in
    record {
      rests = on.rests;
      base = base_on old.front.adapter.controller set.front.adapter.controller new.front.adapter.controller was.base on.base;
      stage = on.stage ∙ was.stage;
      count = on.count ∙ was.count;
      order = on.order ∙ was.order;
      implied = on.implied ∙ was.implied;
    }

pub stepped_rests : (old : ChipState) (between : Front) (new : ChipState) → IsSound old → is_busy old.stage ≡ false → StepsFront old.front between → Paces old.pace (with_front between old) new → IsResting old new
stepped_rests old between new sound idle step paces =
    let (rests, base) = front_rests old.front between step sound.whole (at_rest old.stage old.front idle sound.now) in
    let on = paces_rest old.pace (with_front between old) new (base.non_dma ∙ sound.by_dma) base.command rests paces in
    record {
      rests = on.rests;
      base = base_on old.front.adapter.controller between.adapter.controller new.front.adapter.controller base on.base;
      stage = on.stage;
      count = on.count;
      order = on.order;
      implied = on.implied;
    }

-- ---- a device step of any chip

ready_step : (b : Bool) (old set new : ChipState) → IsSound old → is_busy old.stage ≡ false → IsResting old set → new ≡ (if b then drained set else set) → IsSound new
ready_step true old set new sound idle was is =
    let resting = drained_rests 4 set was.base.command was.rests in
    subst IsSound (sym is) (stage_rests old (drained set) sound idle resting.rests (base_on old.front.adapter.controller set.front.adapter.controller (drained set).front.adapter.controller was.base resting.base)
    (resting.stage ∙ was.stage) (resting.count ∙ was.count) (resting.order ∙ was.order))
ready_step false old set new sound idle was is = subst IsSound (sym is) (stage_rests old set sound idle was.rests was.base was.stage was.count was.order)

step_at : (stage : ChipStage) (old : ChipState) (between : Front) (new : ChipState) → old.stage ≡ stage → IsSound old → StepsFront old.front between → Follows stage (with_front between old) new → IsSound new
step_at Ready old between new at sound step (paced, paces, is) =
    ready_step (interrupts_outside paced.front) old paced new sound (ap is_busy at) (stepped_rests old between paced sound (ap is_busy at) step paces) is
step_at Held old between new at sound step (paced, paces, attends) =
    let was = stepped_rests old between paced sound (ap is_busy at) step paces in
    attended_sound (code_of paced.order.code) paced new (basis_same old paced (sound_basis old (ap is_ready at) sound) was.base was.count was.order) was.rests refl attends
step_at (Telling answer read) old between new at sound step paces =
    let was = stepped_rests old between new sound (ap is_busy at) step paces in
    stage_rests old new sound (ap is_busy at) was.rests was.base was.stage was.count was.order
step_at (Busy what) old between new at sound step follows =
    busy_step what old between new at (sound_basis old (ap is_ready at) sound) (front_stepped what old.front between step sound.whole sound.by_dma (busy_at old what at sound)) follows

pub step_sound : (old new : ChipState) → StepsChip old new → IsSound old → IsSound new
step_sound old new step sound = step_at old.stage old step.between new refl sound step.steps step.follows

run_by : (int drq : Bool) (n : ℕ) (old new : ChipState) → RunsChipWith int drq n old new → IsSound old → IsSound new
unfolding RunsChipWith
run_by int drq zero old new same sound = subst IsSound (sym same) sound
run_by int drq (suc n) old new (between, runs, lines, step) sound = step_sound between new step (run_by int drq n old between runs sound)

pub run_sound : (most n : ℕ) (old new : ChipState) → RunsChip most old n new → IsSound old → IsSound new
run_sound most n old new runs sound = run_by (interrupts_chip old) (asks_chip old) n old new runs.runs sound
