-- While the sequencer serves the command that was sent, each call of the chip is the sequencer's.
use Rattle.std.proofs.Common.{◌≡◌, ℕ, ◌+◌, Bool, true, false, ◌==◌, Option, Some, None, List, [], ◌∷◌, ◌++◌, refl, sym, ◌∙◌, ap, subst}
use Rattle.laws_chip.proofs.Common.{option_map, and_from, and_left, and_right, eqb-true, false≢true, Results, Fdc, Front, results_at, results_outside, results_taken, told_front, StepsFront, FrontStage, is_under_way, ChipState, passes_by_channel, passes_by_port, with_front, EndsAs, EndsSent, judged, looks_for_cylinder, results_judged, GivesChipIf, GivesIf, ReadsAt, ReadsChip, ReadsIf, TakesByte, TakesIf, WritesChip, value_behind, Follows, StepsChip, ChipStage, Busy, AreServed, ArePassedOn, Call, Does, IsPassedOn, IsServing, Makes, MakesRead, MakesWrite, is_data_access, only_if, steps_of, chip_count_told as count_told, SentTask as Sent}
use Rattle.laws_chip.proofs.Called.{both_within}
use Rattle.laws_chip.proofs.UnderWay.{either_way, ignored_write, not_through, same_under}
use Rattle.laws_chip.proofs.Started.{steps_both}
use Rattle.fdc_sequencer.specs.declared.stage.FrontStage.TheVariants as stage
use Rattle.laws_chip.specs.SectorCalls as behind
use Rattle.laws_chip.specs.SectorLasting as lasting
use Rattle.laws_chip.specs.Calls as made

-- ---- a device step

abbrev is_sent : ChipStage → Bool
is_sent (Busy Sent) = true
is_sent _ = false

-- a command whose results were taken isn't served any more
taken_over : (b : Bool) (results : Results) (old new : ChipState) → EndsSent b results old new → new.stage ≡ Busy Sent → ⊥
taken_over true results old new (sends, rest) sent = false≢true (sym (ap (λ (chip : ChipState). is_sent chip.stage) rest) ∙ ap is_sent sent)
taken_over false results old new is sent = false≢true (sym (ap (λ (chip : ChipState). is_sent chip.stage) is) ∙ ap is_sent sent)

ends_sent : (found : Option Results) (old new : ChipState) → new.stage ≡ Busy Sent → EndsAs found Sent old new → (found ≡ None) × (new ≡ old)
ends_sent None old new still is = (refl, is)
ends_sent (Some results) old new still ends = absurd (taken_over (looks_for_cylinder old.order results) results (with_front (results_taken old.front) old) new ends still)

step_sent : (old new : ChipState) (step : StepsChip old new) → old.stage ≡ Busy Sent → EndsAs (results_judged (with_front step.between old)) Sent (with_front step.between old) new
step_sent old new step sent = subst (λ stage. Follows stage (with_front step.between old) new) sent step.follows

-- while the command is still served, the chip has changed only in its front
pub step_same : (old new : ChipState) (step : StepsChip old new) → old.stage ≡ Busy Sent → new.stage ≡ Busy Sent → new ≡ with_front step.between old
step_same old new step sent still = (ends_sent (results_judged (with_front step.between old)) (with_front step.between old) new still (step_sent old new step sent)).1

-- while the command is still served, no results wait
pub no_results : (old new : ChipState) (step : StepsChip old new) → old.stage ≡ Busy Sent → new.stage ≡ Busy Sent → (results : Results) → results_outside step.between ≡ Some results → ⊥
no_results old new step sent still results shown =
    let set = with_front step.between old in
    let none = (ends_sent (results_judged set) set new still (step_sent old new step sent)).0 in
    absurd (cc none)

none_at : (at : FrontStage) (fdc : Fdc) → is_under_way at ≡ true → results_at at fdc ≡ None
none_at (stage.Seeking transfer counted) fdc under = refl
none_at (stage.Moving moving) fdc under = refl
none_at _ fdc under = absurd (false≢true under)

-- while a command is under way no results wait
pub none_wait : (front : Front) → is_under_way front.stage ≡ true → results_outside front ≡ None
none_wait front under = none_at front.stage front.adapter.controller under

pub step_goes_on : (old new : ChipState) (step : StepsChip old new) → IsServing old → is_under_way step.between.stage ≡ true → new ≡ with_front step.between old
step_goes_on old new step was under =
    let set = with_front step.between old in
    subst (λ found. EndsAs (option_map (judged set) found) Sent set new) (none_wait step.between under) (step_sent old new step was.sent)

-- ---- one call

single : (call : behind.Call) (old new : Front) → behind.Does call old new → is_under_way new.stage ≡ true → behind.AreWithin (call ∷ []) old new
single call old new does under = (new, does, not_through new under, refl)

steps_on : (old new : ChipState) → IsServing old → StepsChip old new → IsServing new → IsPassedOn made.Steps old new
steps_on old new was step serving =
    let same : new.front ≡ step.between = ap (λ chip. chip.front) (step_same old new step was.sent serving.sent) in
    record {
      calls = behind.Steps ∷ [];
      makes = refl;
      within = single behind.Steps old.front new.front (subst (λ front. StepsFront old.front front) (sym same) step.steps) serving.under_way;
    }

takes_on : (b : Bool) (byte : Option ℕ) (old new : ChipState) → is_under_way new.front.stage ≡ true → TakesIf b old byte new → behind.AreWithin (only_if b (behind.Takes byte)) old.front new.front
takes_on true byte old new under (takes, rest) = single (behind.Takes byte) old.front new.front takes under
takes_on false byte old new under (none, is) = ap (λ chip. chip.front) is

gives_on : (b : Bool) (byte : ℕ) (was : Bool) (old new : ChipState) → is_under_way new.front.stage ≡ true → GivesChipIf b byte old was new
    → behind.AreWithin (only_if b (behind.Gives byte was)) old.front new.front
gives_on true byte was old new under (gives, rest) = single (behind.Gives byte was) old.front new.front gives under
gives_on false byte was old new under (none, is) = ap (λ chip. chip.front) is

counts_as : (old new : ChipState) → old.stage ≡ Busy Sent → new ≡ count_told old.stage old → new ≡ with_front (told_front old.front) old
counts_as old new sent is = subst (λ stage. new ≡ count_told stage old) sent is

-- ---- reads

-- the read is the sequencer's, and changes nothing
read_behind : (port value : ℕ) (old new : ChipState) → IsServing old → is_data_access port old ≡ false → new ≡ old → IsPassedOn (made.Reads port value) old new
read_behind port value old new was quiet is =
    let same : new.front ≡ old.front = ap (λ chip. chip.front) is in
    record {
      calls = behind.Reads port ∷ [];
      makes = subst (λ b. MakesRead b port value (behind.Reads port ∷ [])) (sym quiet) refl;
      within = single (behind.Reads port) old.front new.front same (same_under old.front new.front same was.under_way);
    }

data_read : (b : Bool) (port value : ℕ) (old new : ChipState) → IsServing old → is_under_way new.front.stage ≡ true → passes_by_port old ≡ b → (port == 0x3F5) ≡ true → ReadsIf b old value new
    → IsPassedOn (made.Reads port value) old new
data_read true port value old new was under passes here reads = record {
  calls = behind.Takes reads.byte ∷ [];
  makes = subst (λ b. MakesRead b port value (behind.Takes reads.byte ∷ [])) (sym (and_from (passes_by_port old) (port == 0x3F5) passes here)) (reads.byte, reads.value_is, refl);
  within = single (behind.Takes reads.byte) old.front new.front reads.takes under;
}
data_read false port value old new was under passes here (none, is) = read_behind port value old new was (and_left (passes_by_port old) (port == 0x3F5) passes) is

pub other_read : (port value : ℕ) (old new : ChipState) → (port == 0x3F5) ≡ false → ReadsChip port old value new → new ≡ old
other_read port value old new no_data reads = either_way (port == 0x3F4)
    (λ status. (reads.status (eqb-true port 0x3F4 status)).1)
    (λ no_status. (reads.others no_status no_data).1)

reads_on : (port value : ℕ) (old new : ChipState) → IsServing old → is_under_way new.front.stage ≡ true → ReadsChip port old value new → IsPassedOn (made.Reads port value) old new
reads_on port value old new was under reads = either_way (port == 0x3F5)
    (λ here.
    let at : ReadsIf (passes_by_port old) old value new = subst (λ stage. ReadsAt stage old value new) was.sent (reads.byte (eqb-true port 0x3F5 here)) in
    data_read (passes_by_port old) port value old new was under refl here at)
    (λ no_data. read_behind port value old new was (and_right (passes_by_port old) (port == 0x3F5) no_data) (other_read port value old new no_data reads))

-- ---- writes

data_write : (b : Bool) (port value : ℕ) (old new : ChipState) → IsServing old → is_under_way new.front.stage ≡ true → passes_by_port old ≡ b → (port == 0x3F5) ≡ true → GivesIf b value old new
    → IsPassedOn (made.Writes port value) old new
data_write true port value old new was under passes here gives = record {
  calls = behind.Gives value gives.was ∷ [];
  makes = subst (λ b. MakesWrite b port value (behind.Gives value gives.was ∷ [])) (sym (and_from (passes_by_port old) (port == 0x3F5) passes here)) (gives.was, refl);
  within = single (behind.Gives value gives.was) old.front new.front gives.gives under;
}
data_write false port value old new was under passes here is =
    let same : new.front ≡ old.front = ap (λ chip. chip.front) is in
    let given = value_behind port value in
    record {
      calls = behind.Writes port given ∷ [];
      makes = subst (λ b. MakesWrite b port value (behind.Writes port given ∷ [])) (sym (and_left (passes_by_port old) (port == 0x3F5) passes)) refl;
      within = single (behind.Writes port given) old.front new.front
          (subst (behind.Does (behind.Writes port given) old.front) (sym same) (ignored_write port given old.front here)) under;
    }

writes_on : (port value : ℕ) (old new : ChipState) → IsServing old → is_under_way new.front.stage ≡ true → WritesChip port value old new → IsPassedOn (made.Writes port value) old new
writes_on port value old new was under writes = either_way (port == 0x3F5)
    (λ here.
    let at : GivesIf (passes_by_port old) value old new = subst (λ stage. TakesByte stage value old new) was.sent (writes.bytes (eqb-true port 0x3F5 here)) in
    data_write (passes_by_port old) port value old new was under refl here at)
    (λ no_data.
    let given = value_behind port value in
    record {
      calls = behind.Writes port given ∷ [];
      makes = subst (λ b. MakesWrite b port value (behind.Writes port given ∷ [])) (sym (and_right (passes_by_port old) (port == 0x3F5) no_data)) refl;
      within = single (behind.Writes port given) old.front new.front (writes.others no_data).0 under;
    })

-- ---- all calls

pub one_passed : (call : Call) (old new : ChipState) → IsServing old → Does call old new → IsServing new → IsPassedOn call old new
one_passed made.Steps old new was does serving = steps_on old new was does serving
one_passed (made.Takes byte) old new was does serving = record {
  calls = only_if (passes_by_channel old) (behind.Takes byte);
  makes = refl;
  within = takes_on (passes_by_channel old) byte old new serving.under_way does;
}
one_passed (made.Gives byte given) old new was does serving = record {
  calls = only_if (passes_by_channel old) (behind.Gives byte given);
  makes = refl;
  within = gives_on (passes_by_channel old) byte given old new serving.under_way does;
}
one_passed made.Counts old new was does serving = record {
  calls = behind.Counts ∷ [];
  makes = refl;
  within = single behind.Counts old.front new.front (ap (λ chip. chip.front) (counts_as old new was.sent does)) serving.under_way;
}
one_passed (made.Reads port value) old new was does serving = reads_on port value old new was serving.under_way does
one_passed (made.Writes port value) old new was does serving = writes_on port value old new was serving.under_way does
one_passed made.Changes old new was does serving = record {
  calls = behind.Changes ∷ [];
  makes = refl;
  within = single behind.Changes old.front new.front does.front serving.under_way;
}
one_passed _ old new was does serving = record { calls = []; makes = refl; within = ap (λ chip. chip.front) does }

-- of the calls that a call comes to, only a device step counts as one
only_steps : (b : Bool) (call : behind.Call) → lasting.steps_of call ≡ 0 → lasting.steps_in (only_if b call) ≡ 0
only_steps true call none = ap (λ n. n + 0) none
only_steps false call none = refl

read_steps : (b : Bool) (port value : ℕ) (calls : List behind.Call) → MakesRead b port value calls → lasting.steps_in calls ≡ 0
read_steps true port value calls (byte, value_is, is) = ap lasting.steps_in is
read_steps false port value calls is = ap lasting.steps_in is

write_steps : (b : Bool) (port value : ℕ) (calls : List behind.Call) → MakesWrite b port value calls → lasting.steps_in calls ≡ 0
write_steps true port value calls (was, is) = ap lasting.steps_in is
write_steps false port value calls is = ap lasting.steps_in is

one_steps : (call : Call) (old : ChipState) (calls : List behind.Call) → Makes call old calls → lasting.steps_in calls ≡ steps_of call
one_steps (made.Takes byte) old calls is = ap lasting.steps_in is ∙ only_steps (passes_by_channel old) (behind.Takes byte) refl
one_steps (made.Gives byte was) old calls is = ap lasting.steps_in is ∙ only_steps (passes_by_channel old) (behind.Gives byte was) refl
one_steps (made.Reads port value) old calls makes = read_steps (is_data_access port old) port value calls makes
one_steps (made.Writes port value) old calls makes = write_steps (is_data_access port old) port value calls makes
one_steps _ old calls is = ap lasting.steps_in is

pub all_passed : (calls : List Call) (old new : ChipState) (served : AreServed calls old new) → IsServing old → ArePassedOn calls old new served
all_passed [] old new same was = record { all = []; makes = refl; within = ap (λ chip. chip.front) same; steps = refl }
all_passed (call ∷ calls) old new (between, does, serving, served) was =
    let one = one_passed call old between was does serving in
    let more = all_passed calls between new served serving in
    record {
      all = one.calls ++ more.all;
      makes = (one.calls, more.all, one.makes, more.makes, refl);
      within = both_within one.calls more.all old.front between.front new.front one.within more.within;
      steps = steps_both one.calls more.all ∙ (ap (λ n. n + lasting.steps_in more.all) (one_steps call old one.calls one.makes) ∙ ap (λ n. steps_of call + n) more.steps);
    }
