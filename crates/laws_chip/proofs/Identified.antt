-- READ ID over a medium that stays in: what it heard, and the sector ID that it reports.
use Rattle.std.proofs.Common.{◌≡◌, ◌⊎◌, inl, inr, ℕ, zero, suc, ◌+◌, ◌*◌, ◌<◌, ◌≤◌, Bool, true, false, not, ◌&&◌, ◌||◌, ◌==◌, Option, Some, List, [], ◌∷◌, bit_and, refl, sym, ◌∙◌, ap, subst, arith}
use Rattle.laws_chip.proofs.Common.{agree_below_at, false≢true, eqb-true, Chrn, IsAddressAt, IsDisk, Becomes, DriveState, at_index, Results, HasAddress, HasIdentified, Past, new_past, heard, Ending, Done, NoMark, NoSector, Late, results_of, phase_told, MayReadIdIn, MayReadIdTask, key_met, stepped, head_of, is_listening, Long, Phase, Execute, Result, Task, DataRate, BeginsData, Works, SeesTask, SeesUnder, SeesWord, after_step, is_executing, MovesIn, MovesTask, let_pass, polled, Fdc, IsHeardFrom, address_heard, address_late, turn_heard, AdapterState, StepsAdapter, drive_at, selected_at, Front, GivesAt, GivesCommand, TakesAt, count_told, results_outside, results_taken, told_if, StepsFront, Read, Transfer, IsAt, TurnsOn, ChipState, with_front, code_of, Obeys, identifying, is_format, EndsAs, EndsSent, MayEnd, is_not_found, looks_for_cylinder, told_results, Follows, StepsChip, ChipOpcode, Order, ChipStage, Busy, IsFreeBehind, Call, Does, is_step, IsIdBegun, StaysUnder, TurnsOnBy, is_read_id, AreAt, ExecutesBehind, IsSound, executes_single, Tells, has_command, ChipTelling as Telling, SentTask as Sent, CommandReadId as ReadId, MediumPlace as Place}
use Rattle.laws_chip.specs.Media.{track_at}
use Rattle.laws_chip.proofs.Medium.{IsHearingAt, adapter_turns, fresh_hearing, kept_hearing, outset_at}
use Rattle.laws_chip.proofs.Known.{polled_phase}
use Rattle.laws_chip.proofs.Channels.{counts_executes, front_gives, front_left, front_takes, gives_executes, keeps_executes, port_executes, takes_executes}
use Rattle.laws_chip.proofs.CommandsBegun.{begins_sent, judged_other, hearing_led}
use Rattle.laws_chip.proofs.Rests.{through_step, executes_none, executes_step, id_executes, waits_shown}
use Rattle.laws_chip.proofs.SoundCalls.{call_sound}
use Rattle.laws_chip.proofs.UnderWay.{either_way, given_obeyed, stands_free}
use Rattle.laws_chip.proofs.NextStages.{Makes, call_stays, is_change}
use Rattle.fdc_phases.specs.declared.phases.Task.TheVariants as phase_task
use Rattle.fdc_chip.specs.declared.answer.ChipAnswer.TheVariants as answer
use Rattle.fdc_chip.specs.declared.code.ChipOpcode.TheVariants as code
use Rattle.laws_chip.specs.Calls as made
use Rattle.laws_chip.proofs.NextStages as makes

-- the head that listens, in the form that it has for a sector
abbrev id_at : ℕ → Transfer
id_at unit = record {
  opcode = record { operation = Read false false; multitrack = false };
  head_drive = unit;
  key = record { c = 0; h = 0; r = 0; n = 0 };
  last_sector = 0;
  gap = 0;
  length = 0;
  seeks = false;
}

-- ---- ---- READ ID is executed

record Identifying (place : Place) (unit : ℕ) (chip : ChipState) : Type 0 where
  stage : chip.stage ≡ Busy Sent
  order : is_read_id chip.order ≡ true
  executes : ExecutesBehind chip.front
  past : Past
  known : MayReadIdIn past unit chip.front.adapter.controller.phase
  hearing : IsHearingAt place (id_at unit) past (drive_at chip.front.adapter place.bay)

begun_identifies : (place : Place) (unit : ℕ) (chip : ChipState) → IsIdBegun unit chip → IsAt place chip.front → Identifying place unit chip
begun_identifies place unit chip is at =
    let sent = begins_sent Sent (GivesCommand (identifying unit)) is.set chip (stands_free is.set.front is.free) is.begins in
    let obeyed = given_obeyed (ReadId unit) sent.set chip.front sent.stands refl sent.gives in
    let begins : BeginsData (ReadId unit) (record sent.set.adapter.controller { command = [] }) chip.front.adapter.controller = (obeyed.obeys.0 sent.stands.rests).1 sent.stands.by_dma in
    record {
      stage = sent.stage;
      order = is.order;
      executes = (id_executes unit sent.set chip.front sent.stands obeyed).0;
      past = new_past;
      known = subst (λ (fdc : Fdc). MayReadIdIn new_past unit fdc.phase) (sym begins.3) (begins.1);
      hearing = fresh_hearing place chip.front (id_at unit) new_past at refl;
    }

-- ---- a device step hears a word

-- the command in execution sees the word under its head
record HearsWord (past : Past) (unit : ℕ) (phase : Phase) (rate : DataRate) (before : DriveState) (word : ℕ) (after : DriveState) : Type 0 where
  sees : SeesUnder rate (head_of unit) before word after
  passes : Becomes (let_pass before) before after
  executing : is_executing phase ≡ true

task_hears : (past : Past) (unit head_drive steps : ℕ) (chosen : Task) (rate : DataRate) (before : DriveState) (word : ℕ) (after : DriveState) → MayReadIdTask past unit head_drive steps chosen
    → SeesTask (is_listening chosen) (head_of head_drive) rate before word after → MovesTask (is_listening chosen) before after → SeesUnder rate (head_of unit) before word after × Becomes (let_pass before) before after
task_hears past unit head_drive steps (phase_task.ReadId search) rate before word after known sees moves =
    (subst (λ h. SeesUnder rate (head_of h) before word after) known.sent_is sees, moves)
task_hears past unit head_drive steps _ rate before word after known sees moves = absurd known

phase_hears : (past : Past) (unit : ℕ) (phase : Phase) (rate : DataRate) (polls : Fdc) (before : DriveState) (word : ℕ) (after : DriveState) → executes_single phase ≡ true → MayReadIdIn past unit phase
    → SeesWord phase rate before word after → MovesIn phase polls before after → HearsWord past unit phase rate before word after
phase_hears past unit (Execute execution) rate polls before word after single known sees moves =
    let (saw, passed) = task_hears past unit execution.head_drive execution.steps execution.task rate before word after known sees moves in
    record { sees = saw; passes = passed; executing = refl }
phase_hears past unit _ rate polls before word after single known sees moves = absurd (false≢true single)

-- what is known after the device step
record HeardMore (place : Place) (unit : ℕ) (between : AdapterState) : Type 0 where
  past : Past
  known : MayReadIdIn past unit between.controller.phase
  hearing : IsHearingAt place (id_at unit) past (drive_at between place.bay)

works_hear : (place : Place) (unit : ℕ) (past : Past) (old : Fdc) (before : DriveState) (new : Fdc) (after : DriveState) → IsDisk place.disk → old.rate ≡ place.rate → executes_single old.phase ≡ true
    → MayReadIdIn past unit old.phase → IsHearingAt place (id_at unit) past before → Works old before new after
    → (now : Past) × MayReadIdIn now unit new.phase × IsHearingAt place (id_at unit) now after
works_hear place unit past old before new after valid rate single known (from, since, led, began) works =
    let reads = works.reads in
    let moves : MovesIn old.phase (polled old) before after = subst (λ phase. MovesIn phase (polled old) before after) (polled_phase old) works.drive in
    let hears = phase_hears past unit old.phase old.rate (polled old) before reads.word after single known reads.sees moves in
    let now = heard (at_index before) reads.word (stepped past) in
    let knows = reads.follows.identifies past unit known in (
      now,
      subst (λ b. MayReadIdIn (after_step b (at_index before) reads.word past) unit new.phase) hears.executing knows,
      (from, since, hearing_led (outset_at place (id_at unit) from since) past before after reads.word valid led (subst (λ r. SeesUnder r (head_of unit) before reads.word after) rate hears.sees) hears.passes, began),
    )

-- the drive in the selected bay is heard
bay_hears : (place : Place) (unit bay : ℕ) (past : Past) (old new : AdapterState) → bay ≤ 1 → selected_at old ≡ bay → IsDisk place.disk → old.controller.rate ≡ place.rate → executes_single old.controller.phase ≡ true
    → MayReadIdIn past unit old.controller.phase → IsHearingAt place (id_at unit) past (drive_at old bay) → StepsAdapter old new
    → (now : Past) × MayReadIdIn now unit new.controller.phase × IsHearingAt place (id_at unit) now (drive_at new bay)
bay_hears place unit zero past old new few at valid rate single known hearing steps =
    works_hear place unit past old.controller old.first new.controller new.first valid rate single known hearing (steps.at_first at).0
bay_hears place unit (suc zero) past old new few at valid rate single known hearing steps =
    works_hear place unit past old.controller old.second new.controller new.second valid rate single known hearing (steps.at_second at).0
bay_hears place unit (suc (suc bay)) past old new few at valid rate single known hearing steps = absurd (omega (arith, few))

step_hears : (place : Place) (unit : ℕ) (chip : ChipState) (new : Front) (step : StepsFront chip.front new) → Identifying place unit chip → IsAt place chip.front → HeardMore place unit new.adapter
step_hears place unit chip new step was at =
    let heard_now = bay_hears place unit place.bay was.past chip.front.adapter step.between at.bay at.selects at.disk at.rate was.executes.executes was.known was.hearing step.steps in
    let is = through_step chip.front new step was.executes.through in
    subst (λ (front : Front). HeardMore place unit front.adapter) (sym is) (record { past = heard_now.0; known = heard_now.1; hearing = heard_now.2 })

-- ---- ---- what the device step leads to

abbrev is_telling : ChipStage → Bool
is_telling (Telling told read) = true
is_telling _ = false

-- READ ID asks for no sector ID, and so the chip doesn't look which cylinder passes
pub no_look : (order : Order) (results : Results) → is_read_id order ≡ true → looks_for_cylinder order results ≡ false
no_look order results is = ap (λ b. not b && is_not_found results) is

-- a READ ID is no FORMAT TRACK
read_id_other : (order : Order) → is_read_id order ≡ true → is_format order ≡ false
read_id_other order is = ap (λ kind. kind == 0x0D) (eqb-true (bit_and order.code 0x1F) 0x0A is)

-- READ ID goes on, or its results are given
record TellsId (place : Place) (unit : ℕ) (between : Front) (new : ChipState) : Type 0 where
  ending : Ending
  results : Results
  at : between.adapter.controller.phase ≡ Result (Long ending results 0)
  told : new.stage ≡ Telling (answer.Results results) 0

step_goes : (place : Place) (unit : ℕ) (old new : ChipState) (step : StepsChip old new) → IsSound old → Identifying place unit old → IsAt place old.front
    → (new ≡ with_front step.between old × ExecutesBehind step.between) ⊎ TellsId place unit step.between new
step_goes place unit old new step sound was at =
    let set = with_front step.between old in
    let may : MayEnd Sent set new = subst (λ stage. Follows stage set new) was.stage step.follows in
    let ends : EndsAs (results_outside step.between) Sent set new = subst (λ r. EndsAs r Sent set new) (judged_other set (read_id_other old.order was.order)) may in
    elim (executes_step old.front step.between step.steps sound.whole was.executes).0 [
      | inl executes ↦ inl (subst (λ r. EndsAs r Sent set new) (executes_none step.between executes) ends, executes)
      | inr waits ↦
          let taken = with_front (results_taken step.between) set in
          let told : EndsSent (looks_for_cylinder old.order waits.results) waits.results taken new = subst (λ r. EndsAs r Sent set new) (waits_shown step.between waits) ends in
          let is : new ≡ told_results waits.results taken = subst (λ b. EndsSent b waits.results taken new) (no_look old.order waits.results was.order) told in
          inr (record { ending = waits.ending; results = waits.results; at = waits.at; told = ap (λ (chip : ChipState). chip.stage) is })
    ]

step_identifies : (place : Place) (unit : ℕ) (old new : ChipState) → StepsChip old new → IsSound old → Identifying place unit old → IsAt place old.front → new.stage ≡ Busy Sent → Identifying place unit new
step_identifies place unit old new step sound was at stays = elim (step_goes place unit old new step sound was at) [
  | inl (is, executes) ↦
      let more = step_hears place unit old step.between step.steps was at in
      subst (Identifying place unit) (sym is) (record { stage = was.stage; order = was.order; executes = executes; past = more.past; known = more.known; hearing = more.hearing })
  | inr tells ↦ absurd (false≢true (sym (ap is_telling stays) ∙ ap is_telling tells.told))
]

-- ---- other calls

-- READ ID goes on, and the medium turns on
record KeepsId (place : Place) (old new : Front) : Type 0 where
  executes : ExecutesBehind new
  known : (past : Past) (unit : ℕ) → MayReadIdIn past unit old.adapter.controller.phase → MayReadIdIn past unit new.adapter.controller.phase
  turns : IsAt place new → TurnsOn (drive_at old.adapter place.bay) (drive_at new.adapter place.bay)

turns_as : (place : Place) (old new : DriveState) → new ≡ old → TurnsOn old new
turns_as place old new is = subst (TurnsOn old) (sym is) (record { place = refl; never_falls = omega arith; keeps_speed = λ fast. fast })

known_as : (old new : Phase) → new ≡ old → (past : Past) (unit : ℕ) → MayReadIdIn past unit old → MayReadIdIn past unit new
known_as old new is past unit known = subst (MayReadIdIn past unit) (sym is) known

same_keeps : (place : Place) (old new : Front) → new ≡ old → ExecutesBehind old → KeepsId place old new
same_keeps place old new is was = subst (KeepsId place old) (sym is)
    (record { executes = was; known = λ past unit known. known; turns = λ at. turns_as place (drive_at old.adapter place.bay) (drive_at old.adapter place.bay) refl })

alike_keeps : (place : Place) (old new : Front) → ExecutesBehind new → new.adapter.controller.phase ≡ old.adapter.controller.phase → drive_at new.adapter place.bay ≡ drive_at old.adapter place.bay → KeepsId place old new
alike_keeps place old new executes phase drive = record {
  executes = executes;
  known = known_as old.adapter.controller.phase new.adapter.controller.phase phase;
  turns = λ at. turns_as place (drive_at old.adapter place.bay) (drive_at new.adapter place.bay) drive;
}

told_known : (phase : Phase) (past : Past) (unit : ℕ) → MayReadIdIn past unit phase → MayReadIdIn past unit (phase_told phase)
told_known (Execute execution) past unit known = by_task execution.task known
  where
    by_task : (chosen : Task) → MayReadIdTask past unit execution.head_drive execution.steps chosen → MayReadIdIn past unit (phase_told (Execute (record execution { task = chosen })))
    by_task (phase_task.ReadId search) known = known
    by_task _ known = absurd known
told_known _ past unit known = known

makes_id : (b : Bool) (place : Place) (old new : Front) → (b ≡ true → TurnsOn (drive_at old.adapter place.bay) (drive_at new.adapter place.bay)) → Makes b old new → ExecutesBehind old → KeepsId place old new
makes_id b place old new turns (makes.Same is) was = same_keeps place old new is was
makes_id b place old new turns (makes.Takes byte takes) was =
    alike_keeps place old new (takes_executes old byte new takes was) (front_takes old byte new was.through takes).1.phase
    (ap (λ (front : Front). drive_at front.adapter place.bay) (subst (λ s. TakesAt s old byte new) was.through takes).1)
makes_id b place old new turns (makes.Gives byte given gives) was =
    alike_keeps place old new (gives_executes byte old given new gives was) (front_gives byte old given new was.through gives).1.phase
    (ap (λ (front : Front). drive_at front.adapter place.bay) (subst (λ s. GivesAt s byte old given new) was.through gives).1)
makes_id b place old new turns (makes.Counts is) was =
    let at : new ≡ record old { adapter = told_if true old.adapter } = subst (λ stage. new ≡ count_told stage old) was.through is in
    record {
      executes = counts_executes old new is was;
      known = λ past unit known. subst (λ (front : Front). MayReadIdIn past unit front.adapter.controller.phase) (sym at) (told_known old.adapter.controller.phase past unit known);
      turns = λ there. turns_as place (drive_at old.adapter place.bay) (drive_at new.adapter place.bay) (ap (λ (front : Front). drive_at front.adapter place.bay) at);
    }
makes_id b place old new turns (makes.Writes port value writes no_data quiet) was = record {
  executes = port_executes port value old new writes no_data quiet was;
  known = known_as old.adapter.controller.phase new.adapter.controller.phase (front_left port value old new writes no_data quiet).phase;
  turns = λ at. adapter_turns place (id_at 0) false false refl port value place.bay old.adapter new.adapter (writes.others no_data).0 at.motor;
}
makes_id b place old new turns (makes.Changes changes keeps) was = record {
  executes = keeps_executes old new keeps was;
  known = known_as old.adapter.controller.phase new.adapter.controller.phase (ap (λ (fdc : Fdc). fdc.phase) keeps.controller);
  turns = λ there. turns changes;
}

turns_by : (call : Call) (old new : DriveState) → TurnsOnBy call old new → is_change call ≡ true → TurnsOn old new
turns_by made.Changes old new turns is = turns
turns_by _ old new turns is = absurd (false≢true is)

as_step : (call : Call) (old new : ChipState) → is_step call ≡ true → Does call old new → StepsChip old new
as_step made.Steps old new is does = does
as_step _ old new is does = absurd (false≢true is)

call_identifies : (place : Place) (unit : ℕ) (call : Call) (old new : ChipState) → Does call old new → TurnsOnBy call (drive_at old.front.adapter place.bay) (drive_at new.front.adapter place.bay) → IsSound old
    → Identifying place unit old → IsAt place old.front → IsAt place new.front → new.stage ≡ Busy Sent → Identifying place unit new
call_identifies place unit call old new does turns sound was at after stays = either_way (is_step call)
    (λ steps. step_identifies place unit old new (as_step call old new steps does) sound was at stays)
    (λ other.
    let keeps = call_stays call Sent old new does was.stage other (ap has_command stays) in
    let front = makes_id (is_change call) place old.front new.front (turns_by call (drive_at old.front.adapter place.bay) (drive_at new.front.adapter place.bay) turns) keeps.front was.executes in
    record {
      stage = stays;
      order = ap is_read_id keeps.order ∙ was.order;
      executes = front.executes;
      past = was.past;
      known = front.known was.past unit was.known;
      hearing = kept_hearing place new.front (id_at unit) was.past (drive_at old.front.adapter place.bay) after (front.turns after) was.hearing;
    })

-- ---- ---- all calls

calls_identify : (place : Place) (unit : ℕ) (calls : List Call) (old new : ChipState) (at : AreAt (Busy Sent) calls old new) → IsSound old → StaysUnder place (Busy Sent) calls old new at → Identifying place unit old
    → IsSound new × Identifying place unit new × IsAt place new.front
calls_identify place unit [] old new same sound at was = subst (λ chip. IsSound chip × Identifying place unit chip × IsAt place chip.front) (sym same) (sound, was, at)
calls_identify place unit (call ∷ calls) old new (between, does, few, stays, rest) sound (at, turns, under) was =
    calls_identify place unit calls between new rest (call_sound call old between does few sound) under
    (call_identifies place unit call old between does turns sound was at (first_under place calls between new rest under) stays)
  where
    first_under : (place : Place) (calls : List Call) (old new : ChipState) (at : AreAt (Busy Sent) calls old new) → StaysUnder place (Busy Sent) calls old new at → IsAt place old.front
    first_under place [] old new at is = is
    first_under place (call ∷ calls) old new at is = is.0

-- ---- ---- the sector ID in the results

-- if the results report no error, an address field was found
found_key : (unit : ℕ) (past : Past) (ending : Ending) (results : Results) → results ≡ results_of ending unit (key_met ending results.key) → HasIdentified past results.key ending → results.st1.0 ≡ 0
    → HasAddress past results.key
found_key unit past (Done deleted) results are has none = has
found_key unit past NoMark results are has none = absurd (wrong (sym (ap (λ (r : Results). r.st1.0) are) ∙ none))
  where
    wrong : ◌≡◌ {A = ℕ} 1 0 → ⊥
    wrong is = absurd (omega arith)
found_key unit past NoSector results are has none = absurd (wrong (sym (ap (λ (r : Results). r.st1.0) are) ∙ none))
  where
    wrong : ◌≡◌ {A = ℕ} 4 0 → ⊥
    wrong is = absurd (omega arith)
found_key unit past Late results are has none = absurd (wrong (sym (ap (λ (r : Results). r.st1.0) are) ∙ none))
  where
    wrong : ◌≡◌ {A = ℕ} 1 0 → ⊥
    wrong is = absurd (omega arith)
found_key unit past _ results are has none = absurd has

on_track : (track : List ℕ) (from : ℕ) (late : Past) (key : Chrn) → IsHeardFrom track from late.turns late.seen → HasAddress late key → (spot : ℕ) × IsAddressAt track spot key
on_track track from late key heard (turn, p, has) =
    let (start, turned, whole) = turn_heard track from late.turns late.seen turn heard has.among in
    (p + 16 * start, address_heard track start turn turned p key has.address)

heard_none : (track : List ℕ) → IsHeardFrom track 0 [] []
heard_none track = record { over = tt; now = record { inside = omega arith; each = λ i below. absurd (omega arith) } }

key_on_track : (place : Place) (unit : ℕ) (past : Past) (key : Chrn) (drive : DriveState) → IsHearingAt place (id_at unit) past drive → HasAddress past key → (spot : ℕ) × IsAddressAt (track_at place (head_of unit)) spot key
key_on_track place unit past key drive (from, since, led, began) has =
    let track = track_at place (head_of unit) in
    let late = address_late led.lead led.late key (subst (λ (p : Past). HasAddress p key) led.past_is has) in
    elim led.drive_is [
      | inl (none, spins) ↦ on_track track 0 led.late key (subst (λ (p : Past). IsHeardFrom track 0 p.turns p.seen) (sym none) (heard_none track)) late
      | inr hears ↦ on_track track from led.late key hears.heard late
    ]

pub id_tells : (place : Place) (unit : ℕ) (calls : List Call) (begun last new : ChipState) (results : Results) (at : AreAt (Busy Sent) calls begun last) → IsSound begun → IsIdBegun unit begun
    → StaysUnder place (Busy Sent) calls begun last at → StepsChip last new → Tells results new → results.st1.0 ≡ 0 → (spot : ℕ) × IsAddressAt (track_at place (head_of unit)) spot results.key
id_tells place unit calls begun last new results at sound is under step tells none =
    let (then_sound, was, there) = calls_identify place unit calls begun last at sound under (begun_identifies place unit begun is (first_of calls begun last at under)) in
    elim (step_goes place unit last new step then_sound was there) [
      | inl (same, executes) ↦ absurd (false≢true (sym (ap is_telling (ap (λ (chip : ChipState). chip.stage) same ∙ was.stage)) ∙ ap is_telling tells.stage))
      | inr told ↦
          let more = step_hears place unit last step.between step.steps was there in
          let same : told.results ≡ results = cc in
          let (are, has) = subst (MayReadIdIn more.past unit) told.at more.known in
          let found = found_key unit more.past told.ending told.results are has (ap (λ (r : Results). r.st1.0) same ∙ none) in
          key_on_track place unit more.past results.key (drive_at step.between.adapter place.bay) more.hearing (subst (λ (r : Results). HasAddress more.past r.key) same found)
    ]
  where
    first_of : (calls : List Call) (old new : ChipState) (at : AreAt (Busy Sent) calls old new) → StaysUnder place (Busy Sent) calls old new at → IsAt place old.front
    first_of [] old new at is = is
    first_of (call ∷ calls) old new at is = is.0

-- ---- ---- how READ ID begins

-- the code of the command is that of READ ID
abbrev is_id : Option ChipOpcode → Bool
is_id (Some (code.ReadId mfm)) = true
is_id _ = false

id_code : (byte : ℕ) → byte < 256 → code_of byte ≡ Some (code.ReadId true) → (bit_and byte 0x1F == 0x0A) ≡ true
id_code byte few is = by_bool (is_id (code_of byte)) (bit_and byte 0x1F == 0x0A) (agree_below_at (λ n. not (is_id (code_of n)) || (bit_and n 0x1F == 0x0A)) (λ _. true) 256 byte refl few) (ap is_id is)
  where
    by_bool : (first second : Bool) → (not first || second) ≡ true → first ≡ true → second ≡ true
    by_bool true second either is = either
    by_bool false second either is = absurd (false≢true is)

pub id_begins : (old new : ChipState) → IsSound new → code_of old.order.code ≡ Some (code.ReadId true) → IsFreeBehind old.front → Obeys (code.ReadId true) old new → IsIdBegun old.order.unit new
id_begins old new sound is free begins =
    let sent = begins_sent Sent (GivesCommand (identifying old.order.unit)) old new (stands_free old.front free) begins in
    record { order = id_code new.order.code sound.code (ap (λ (order : Order). code_of order.code) sent.order ∙ is); set = old; free = free; begins = begins }
