-- A FORMAT TRACK of the inner controller goes on through device steps, and never reports a sector that isn't found.
use Rattle.std.proofs.Common.{◌≡◌, inl, inr, ℕ, ◌+◌, Bool, true, false, Option, refl, sym, ap, subst, zero, suc, ◌*◌, ◌<◌, ◌==◌, if◌then◌else◌, Some, None, List, [], ◌∷◌, ◌++◌, ◌∙◌}
use Rattle.laws_chip.proofs.Common.{false≢true, Chrn, DriveState, Fifo, emptied, Ending, NoSector, Late, FormatNext, EndsWell, FailsWell, Numbers, IsFormattingTrack, phase_told, Long, Phase, Execute, Result, Task, Formatting, FormatDoes, after_laid, finished, polled, FormatsNowhere, StepsNowhere, TaskStepsNowhere, WordTime, Wrote, Stopped, WritesIn, WritesTask, Stops, without_byte, Fdc, AdapterState, StepsAdapter, Front, StepsFront, Through, is_not_found, phases_no_key as no_key, Results, IsInRange, GivesTransfer, TakesAt, front_told, told_front, results_taken, size_of, FrontStage, Seeking, Moving, Telling, Transfer, HasByteNumbers, is_under_way, most_steps, ChipState, with_front, Obeys, TransfersIf, implies, is_size, sectors_verified, transfer_sent, verifying, with_last, EndsAs, EndsSent, looks_for_cylinder, results_judged, verified, Follows, Swallows, SwallowsAs, VerifyCode, ChipStage, Busy, BeginsBehind, IsBegun, IsFreeBehind, AreServed, Call, Does, steps_in, steps_of, AreVerified, IsVerifying, has_command}
use Rattle.laws_chip.proofs.Known.{at_drive}
use Rattle.laws_chip.proofs.Rests.{through_step}
use Rattle.laws_chip.proofs.Called.{both_within}
use Rattle.laws_chip.proofs.Lasted.{command_within}
use Rattle.fdc_chip.specs.Steps.{SwallowsBy}
use Rattle.fdc_chip.specs.declared.stage.ChipTask.TheVariants.{Verify}
use Rattle.laws_chip.proofs.CommandsBegun.{sought_sent}
use Rattle.laws_chip.proofs.PassedOn.{all_passed}
use Rattle.laws_chip.proofs.UnderWay.{not_through, stands_free, first_begins}
use Rattle.laws_chip.proofs.NextStages.{Makes, call_stays, is_change}
use Rattle.laws_chip.proofs.Started.{steps_both}
use Rattle.fdc_stages.specs.declared.formatting.FormatNext.TheVariants as laid
use Rattle.fdc_phases.specs.declared.phases.Task.TheVariants as task
use Rattle.laws_chip.specs.SectorCalls as behind
use Rattle.laws_chip.specs.SectorLasting as lasting
use Rattle.laws_chip.specs.Calls as made
use Rattle.laws_chip.proofs.NextStages as makes

-- the controller executes a FORMAT TRACK
abbrev pub is_format : Task → Bool
is_format (task.Format _) = true
is_format _ = false

abbrev pub formats : Phase → Bool
formats (Execute execution) = is_format execution.task
formats _ = false

-- a FORMAT TRACK is executed, or reports anything but a sector that isn't found
abbrev pub FormatsOn : Phase → Type 0
FormatsOn (Execute execution) = is_format execution.task ≡ true
FormatsOn (Result (Long ending results taken)) = is_not_found results ≡ false
FormatsOn _ = ⊥

pub formats_on : (phase : Phase) → formats phase ≡ true → FormatsOn phase
formats_on (Execute execution) is = is
formats_on _ is = absurd (false≢true is)

-- ---- ---- endings

abbrev finds_none : Ending → Bool
finds_none NoSector = true
finds_none _ = false

ends_formats : (ending : Ending) (head_drive : ℕ) (key : Chrn) (old : Fdc) → finds_none ending ≡ false → FormatsOn (finished ending head_drive key old).phase
ends_formats NoSector head_drive key old other = absurd (false≢true (sym other))
ends_formats _ head_drive key old other = refl

abbrev EndsOther : FormatNext → Type 0
EndsOther (laid.Ended ending key) = finds_none ending ≡ false
EndsOther _ = Unit {0}

fails_other : (next : FormatNext) → FailsWell next → EndsOther next
fails_other (laid.On stage) fails = tt
fails_other (laid.Ended ending key) fails = ap finds_none fails

ends_other : (next : FormatNext) → EndsWell next → EndsOther next
ends_other (laid.On stage) ends = tt
ends_other (laid.Ended NoSector key) ends = absurd ends
ends_other _ ends = refl

stops_other : (steps : ℕ) (guarded : Bool) (byte : Option ℕ) (ending : Ending) → Stops steps guarded byte ending → finds_none ending ≡ false
stops_other steps guarded byte NoSector stops = absurd stops
stops_other steps guarded byte _ stops = refl

-- ---- ---- a device step

phase_as : (set new : Fdc) → FormatsOn set.phase → new ≡ set → FormatsOn new.phase
phase_as set new on is = subst (λ (fdc : Fdc). FormatsOn fdc.phase) (sym is) on

laid_on : (head_drive steps : ℕ) (formatting : Formatting) (next : FormatNext) (old : Fdc) → EndsOther next → FormatsOn (after_laid head_drive steps formatting next old).phase
laid_on head_drive steps formatting (laid.On stage) old other = refl
laid_on head_drive steps formatting (laid.Ended ending key) old other = ends_formats ending head_drive key old other

format_on : (time : WordTime) (head_drive steps : ℕ) (formatting : Formatting) (old : Fdc) (before : DriveState) (new : Fdc) → FormatDoes time head_drive steps formatting old before new → FormatsOn new.phase
format_on (Wrote opened closed index word) head_drive steps formatting old before new does =
    phase_as _ new (laid_on head_drive (steps + 1) formatting does.next (without_byte does.needs old) (ends_other does.next does.lays.well)) does.after_is
format_on Stopped head_drive steps formatting old before new does =
    phase_as _ new (ends_formats does.ending head_drive no_key old (stops_other _ _ _ does.ending does.stops)) does.after_is
format_on _ head_drive steps formatting old before new (due, does) =
    phase_as _ new (laid_on head_drive (steps + 1) formatting does.next old (fails_other does.next does.hears.1)) does.after_is

nowhere_on : (head_drive steps : ℕ) (formatting : Formatting) (old new : Fdc) → FormatsNowhere head_drive steps formatting old new → FormatsOn new.phase
nowhere_on head_drive steps formatting old new (inl (last, is)) = phase_as _ new (ends_formats Late head_drive no_key old refl) is
nowhere_on head_drive steps formatting old new (inr (few, (next, hears, is))) = search (phase_as, laid_on, fails_other)

module _ (polls new : Fdc) where
  task_on : (begins : Task) (head_drive steps : ℕ) (asking : Bool) (fifo : Fifo) (before after : DriveState) → is_format begins ≡ true
      → WritesTask begins head_drive steps asking fifo polls before after new → FormatsOn new.phase
  task_on (task.Format formatting) head_drive steps asking fifo before after is writes =
      format_on writes.step.does.time head_drive steps formatting polls before new writes.step.does.does
  task_on _ head_drive steps asking fifo before after is writes = absurd (false≢true is)

  phase_on : (phase : Phase) (asking : Bool) (fifo : Fifo) (before after : DriveState) → formats phase ≡ true → WritesIn phase asking fifo polls before after new → FormatsOn new.phase
  phase_on (Execute execution) asking fifo before after is writes = task_on execution.task execution.head_drive execution.steps asking fifo before after is writes
  phase_on _ asking fifo before after is writes = absurd (false≢true is)

  task_alone : (begins : Task) (head_drive steps : ℕ) → is_format begins ≡ true → TaskStepsNowhere begins head_drive steps polls new → FormatsOn new.phase
  task_alone (task.Format formatting) head_drive steps is does = nowhere_on head_drive steps formatting polls new does
  task_alone _ head_drive steps is does = absurd (false≢true is)

  phase_alone : (phase : Phase) → formats phase ≡ true → StepsNowhere phase polls new → FormatsOn new.phase
  phase_alone (Execute execution) is does = task_alone execution.task execution.head_drive execution.steps is does
  phase_alone _ is does = absurd (false≢true is)

adapter_on : (old new : AdapterState) → StepsAdapter old new → formats old.controller.phase ≡ true → FormatsOn new.controller.phase
adapter_on old new steps is =
    let fdc = old.controller in
    at_drive old new steps (λ before after works. phase_on (polled fdc) new.controller fdc.phase fdc.asking fdc.fifo before after is works.writes)
    (λ alone. phase_alone (polled fdc) new.controller fdc.phase is alone.nowhere)

pub formats_step : (old new : Front) → StepsFront old new → old.stage ≡ Through → formats old.adapter.controller.phase ≡ true → FormatsOn new.adapter.controller.phase
formats_step old new step through is =
    subst (λ (front : Front). FormatsOn front.adapter.controller.phase) (sym (through_step old new step through)) (adapter_on old.adapter step.between step.steps is)

-- the terminal count comes
pub told_formats : (phase : Phase) → formats phase ≡ true → formats (phase_told phase) ≡ true
told_formats (Execute execution) is = by_task execution.head_drive execution.steps execution.task is
  where
    by_task : (head_drive steps : ℕ) (what : Task) → is_format what ≡ true → formats (phase_told (Execute (record { head_drive = head_drive; steps = steps; task = what }))) ≡ true
    by_task head_drive steps (task.Format formatting) is = refl
    by_task head_drive steps _ is = absurd (false≢true is)
told_formats _ is = is

-- it begins
pub begins_formats : (unit : ℕ) (numbers : Numbers) (begins : Task) → IsFormattingTrack unit numbers begins → is_format begins ≡ true
begins_formats unit numbers (task.Format formatting) is = refl
begins_formats unit numbers _ is = absurd (is (emptied false 1) false refl)

-- ---- A VERIFY is a READ DATA of the sequencer, whose bytes go nowhere, and it ends as that READ DATA does. So
-- does a transfer.

-- ---- a transfer

pub transfer_last : (first : Transfer) (calls : List Call) (begun new : ChipState) → IsBegun first begun → HasByteNumbers begun.front.stage → IsInRange begun.front.adapter.controller → AreServed calls begun new → steps_in calls < most_steps first
transfer_last first calls begun new is bytes range served =
    let passed = all_passed calls begun new served is.serving in
    let begins = is.begins in
    subst (λ n. n < most_steps first) passed.steps
    (command_within first begins.start begun.front new.front passed.all begins.begins bytes range passed.within (still calls begun new served is.serving.under_way))
  where
    still : (calls : List Call) (old new : ChipState) → AreServed calls old new → is_under_way old.front.stage ≡ true → is_under_way new.front.stage ≡ true
    still [] old new same under = ap (λ (chip : ChipState). is_under_way chip.front.stage) same ∙ under
    still (call ∷ calls) old new (between, does, serving, rest) under = still calls between new rest serving.under_way

-- ---- a VERIFY begins

verify_sent : (old new : ChipState) → is_size old.order.key.n ≡ true → IsFreeBehind old.front → Obeys (VerifyCode true) old new → BeginsBehind (transfer_sent (implies old) (verifying old.order)) new.front × IsVerifying new
verify_sent old new size free obeys =
    let noted = with_last old.order.last_sector old in
    let order = verifying old.order in
    let first = transfer_sent (implies noted) order in
    let left = sectors_verified old.order * size_of old.order.key.n in
    let begins : TransfersIf true true (Verify left) order noted new = subst (λ b. TransfersIf b true (Verify left) order noted new) size obeys in
    let sent = sought_sent (implies noted) (Verify left) (GivesTransfer first) noted new (stands_free old.front free) begins in
    let (serves, carried, starts) = first_begins first sent.set new.front sent.stands size sent.gives in
    (serves, record { left = left; verifies = sent.stage; under_way = carried.under_way })

pub verify_begins : (old new : ChipState) → is_size old.order.key.n ≡ true → IsFreeBehind old.front → Obeys (VerifyCode true) old new → BeginsBehind (transfer_sent (implies old) (verifying old.order)) new.front
verify_begins old new size free obeys = (verify_sent old new size free obeys).0

pub verify_verifies : (old new : ChipState) → is_size old.order.key.n ≡ true → IsFreeBehind old.front → Obeys (VerifyCode true) old new → IsVerifying new
verify_verifies old new size free obeys = (verify_sent old new size free obeys).1

-- ---- each call is the sequencer's, or none

-- the sequencer's calls from one front to the other have so many device steps
pub record IsWithin (steps : ℕ) (old new : Front) : Type 0 where
  pub calls : List behind.Call
  pub within : behind.AreWithin calls old new
  pub steps_are : lasting.steps_in calls ≡ steps

pub none_within : (old new : Front) → new ≡ old → IsWithin 0 old new
none_within old new is = record { calls = []; within = is; steps_are = refl }

pub one_within : (call : behind.Call) (old new : Front) → behind.Does call old new → is_under_way new.stage ≡ true → IsWithin (lasting.steps_of call + 0) old new
one_within call old new does under = record { calls = call ∷ []; within = (new, does, not_through new under, refl); steps_are = refl }

then_within : (first second : ℕ) (old between new : Front) → IsWithin first old between → IsWithin second between new → IsWithin (first + second) old new
then_within first second old between new one two = record {
  calls = one.calls ++ two.calls;
  within = both_within one.calls two.calls old between new one.within two.within;
  steps_are = steps_both one.calls two.calls ∙ (ap (λ n. n + lasting.steps_in two.calls) one.steps_are ∙ ap (λ n. first + n) two.steps_are);
}

-- ---- ---- the bytes of a VERIFY

-- if a command is under way after a byte, it was under way before
takes_back : (stage : FrontStage) (byte : Option ℕ) (old new : Front) → old.stage ≡ stage → is_under_way new.stage ≡ true → TakesAt stage old byte new → is_under_way stage ≡ true
takes_back Through byte old new at under (adapter, is) = sym (ap is_under_way (ap (λ (front : Front). front.stage) is ∙ at)) ∙ under
takes_back (Telling results) byte old new at under (none, is) = sym (ap is_under_way (ap (λ (front : Front). front.stage) is ∙ at)) ∙ under
takes_back _ byte old new at under takes = refl

counts_back : (stage : FrontStage) (old new : Front) → old.stage ≡ stage → is_under_way new.stage ≡ true → new ≡ front_told stage old → is_under_way stage ≡ true
counts_back (Seeking transfer counted) old new at under is = refl
counts_back (Moving moving) old new at under is = refl
counts_back _ old new at under is = sym (ap is_under_way (ap (λ (front : Front). front.stage) is ∙ at)) ∙ under

-- a byte goes nowhere, and after the last byte the terminal count is given
record SwallowsWithin (old new : Front) : Type 0 where
  before : is_under_way old.stage ≡ true
  within : IsWithin 0 old new

told_within : (b : Bool) (between new : Front) → is_under_way new.stage ≡ true → new ≡ (if b then told_front between else between) → SwallowsWithin between new
told_within true between new under is = record { before = counts_back between.stage between new refl under is; within = one_within behind.Counts between new is under }
told_within false between new under is = record { before = sym (ap (λ (front : Front). is_under_way front.stage) is) ∙ under; within = none_within between new is }

after_within : (byte : Option ℕ) (left now : ℕ) (between new : Front) → is_under_way new.stage ≡ true → SwallowsAs byte left between now new → SwallowsWithin between new
after_within None left now between new under (now_is, is) = told_within false between new under is
after_within (Some byte) left now between new under (now_is, is) = told_within (left == 1) between new under is

swallow_within : (left now : ℕ) (old new : Front) → is_under_way new.stage ≡ true → Swallows left old now new → SwallowsWithin old new
swallow_within left now old new under one =
    let after = after_within one.byte left now one.between new under one.after in
    record {
      before = takes_back old.stage one.byte old one.between refl after.before one.takes;
      within = then_within 0 0 old one.between new (one_within (behind.Takes one.byte) old one.between one.takes after.before) after.within;
    }

swallows_within : (n left now : ℕ) (old new : Front) → is_under_way new.stage ≡ true → SwallowsBy n left old now new → SwallowsWithin old new
unfolding SwallowsBy
swallows_within zero left now old new under (now_is, is) = record { before = sym (ap (λ (front : Front). is_under_way front.stage) is) ∙ under; within = none_within old new is }
swallows_within (suc n) left now old new under (some, between, many, one) =
    let last = swallow_within some now between new under one in
    let first = swallows_within n left some old between last.before many in
    record { before = first.before; within = then_within 0 0 old between new first.within last.within }

-- ---- device steps

abbrev is_verify : ChipStage → Bool
is_verify (Busy (Verify left)) = true
is_verify _ = false

-- a VERIFY that is over isn't under way any more
verify_over : (b : Bool) (results : Results) (old new : ChipState) → EndsSent b results old new → is_verify new.stage ≡ false
verify_over true results old new (gives, rest) = ap (λ (chip : ChipState). is_verify chip.stage) rest
verify_over false results old new is = ap (λ (chip : ChipState). is_verify chip.stage) is

verify_same : (waiting : Option Results) (left : ℕ) (old new : ChipState) → is_verify new.stage ≡ true → EndsAs waiting (Verify left) old new → new ≡ old
verify_same None left old new still is = is
verify_same (Some results) left old new still ends =
    let told = verified old.order results in
    absurd (false≢true (sym (verify_over (looks_for_cylinder old.order told) told (with_front (results_taken old.front) old) new ends) ∙ still))

-- ---- ---- other calls

pub makes_within : (b : Bool) (old new : Front) → Makes b old new → is_under_way new.stage ≡ true → IsWithin 0 old new
makes_within b old new (makes.Same is) under = none_within old new is
makes_within b old new (makes.Takes byte takes) under = one_within (behind.Takes byte) old new takes under
makes_within b old new (makes.Gives byte given gives) under = one_within (behind.Gives byte given) old new gives under
makes_within b old new (makes.Counts is) under = one_within behind.Counts old new is under
makes_within b old new (makes.Writes port value writes no_data quiet) under = one_within (behind.Writes port value) old new writes under
makes_within b old new (makes.Changes changes keeps) under = one_within behind.Changes old new keeps under

pub call_within : (call : Call) (left : ℕ) (old new : ChipState) → old.stage ≡ Busy (Verify left) → Does call old new → IsVerifying new → IsWithin (steps_of call) old.front new.front
call_within made.Steps left old new at does still =
    let (set, all, may) = subst (λ stage. Follows stage (with_front does.between old) new) at does.follows in
    let same = verify_same (results_judged set) left set new (ap is_verify still.verifies) may in
    let front : new.front ≡ all.front = ap (λ (chip : ChipState). chip.front) same ∙ ap (λ (chip : ChipState). chip.front) all.after in
    let under : is_under_way all.front.stage ≡ true = sym (ap (λ (f : Front). is_under_way f.stage) front) ∙ still.under_way in
    let swallows = swallows_within 16 left all.now does.between all.front under all.swallows in
    let one = one_within behind.Steps old.front does.between does.steps swallows.before in
    subst (IsWithin 1 old.front) (sym front) (then_within 1 0 old.front does.between all.front one swallows.within)
call_within call left old new at does still =
    makes_within (is_change call) old.front new.front (call_stays call (Verify left) old new does at refl (ap has_command still.verifies)).front still.under_way

-- ---- ---- calls one after the other

record AreWithin (calls : List Call) (old new : Front) : Type 0 where
  under_way : is_under_way new.stage ≡ true
  within : IsWithin (steps_in calls) old new

all_within : (calls : List Call) (old new : ChipState) → IsVerifying old → AreVerified calls old new → AreWithin calls old.front new.front
all_within [] old new was same =
    let front = ap (λ (chip : ChipState). chip.front) same in
    record { under_way = ap (λ (f : Front). is_under_way f.stage) front ∙ was.under_way; within = none_within old.front new.front front }
all_within (call ∷ calls) old new was (between, does, still, rest) =
    let more = all_within calls between new still rest in
    record { under_way = more.under_way; within = then_within (steps_of call) (steps_in calls) old.front between.front new.front (call_within call was.left old between was.verifies does still) more.within }

pub verify_last : (first : Transfer) (calls : List Call) (begun new : ChipState) → BeginsBehind first begun.front → IsVerifying begun → HasByteNumbers begun.front.stage → IsInRange begun.front.adapter.controller
    → AreVerified calls begun new → steps_in calls < most_steps first
verify_last first calls begun new begins was bytes range verified =
    let are = all_within calls begun new was verified in
    subst (λ n. n < most_steps first) are.within.steps_are
    (command_within first begins.start begun.front new.front are.within.calls begins.begins bytes range are.within.within are.under_way)
