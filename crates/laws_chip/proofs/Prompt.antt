-- A transfer whose bytes pass in time: no byte finds the FIFO full, or is missing.
use Rattle.std.proofs.Common.{◌≡◌, ◌⊎◌, inl, inr, ℕ, ◌+◌, ◌-◌, ◌<◌, ◌≤◌, nat_lt, nat_le, max, Bool, true, false, not, ◌&&◌, ◌||◌, ◌==◌, if◌then◌else◌, Option, Some, None, List, [], ◌∷◌, length, bit_and, refl, sym, ◌∙◌, ap, subst, arith}
use Rattle.laws_chip.proofs.Common.{eqb-true, false≢true, nat_tests, Chrn, IsSizeCode, DriveState, Fifo, emptied, low_level, room_of, wants, worth_fetching, overrun, has_ended_seek, seek_bits, Invalid, Command, ReadData, WriteData, WriteDeleted, Results, Past, Ending, Done, BadCheck, Overrun, NoCount, IsReadingData, phase_asks, phase_told, task_asks, task_told, MayReadIn, Sent, ending_of_phase, is_overrun, is_read, is_reading, moves_bytes, overran, MayWriteIn, Long, Short, Phase, Execute, Result, Task, BeginsData, TakesAs, answered, Works, asking_told, fifo_told, told_count, is_executing, asks, is_gated, FlowsIn, TakesWhole, ending_told, given_up, mark_of, without_seek, Fdc, Lines, AdapterState, StepsAdapter, lines_at, selected_at, st1_of, BeginsSector, Front, StartsIf, asks_at, asks_outside, begun_if, count_told, moving_of, passed_one, told_if, with_controller, EndsIf, EndsSector, FollowsStep, MovesOn, SeeksOn, StepsFront, goes_on, has_failed_other, has_met_other, is_unwanted, judged_if, passed_over_if, results_behind, results_failed, would_go_on, command_for, next_of, results_told, Operation, Read, Write, MovingSector, FrontStage, Through, Seeking, Moving, Telling, Transfer, ChipState, asks_chip, interrupts_chip, passes_by_channel, passes_by_port, shows_behind, StepsChip, SentTask, is_under_way, MayMove, ServesAt, sent_of, IsBegun, Call, Does, IsServing, IsSound, ServesBehind, has_command, ReadyCommand as Ready, FdcObeys as Obeys, phases_is_moving as is_moving, phases_is_over as is_over, front_judged as judged}
use Rattle.fdc_phases.specs.Waiting.{PhaseWaits, TaskWaits, phase_counted, task_counted}
use Rattle.fdc_phases.specs.declared.answers.Answer.{Answer}
use Rattle.fdc_core.specs.Waiting.{Lasts, LastsIn}
use Rattle.laws_chip.proofs.Free.{next_size}
use Rattle.laws_chip.proofs.Known.{port_same, which_drive}
use Rattle.laws_chip.proofs.Started.{size_some}
use Rattle.laws_chip.specs.InTime.{AreInTime, IsPrompt, PromptAt}
use Rattle.laws_chip.proofs.PassedOn.{step_same}
use Rattle.laws_chip.proofs.SoundCalls.{call_sound}
use Rattle.laws_chip.proofs.SoundParts.{serves_of, sound_basis}
use Rattle.laws_chip.proofs.UnderWay.{BytePasses, Own, OfSector, Quiet, clash, either_way, gives_pass, not_through, port_stage, takes_pass}
use Rattle.laws_chip.proofs.NextStages.{Makes, call_stays, is_change}
use Rattle.laws_chip.proofs.Courses.{given_starts}
use Rattle.fdc_phases.specs.declared.phases.Task.TheVariants as task
use Rattle.laws_chip.specs.Calls as made
use Rattle.laws_chip.proofs.SoundParts as parts
use Rattle.laws_chip.proofs.NextStages as makes

-- ---- while no byte is asked for there is time for one more step

below : (m n : ℕ) → nat_le m n ≡ false → n < m
below m n is = grind (arith, nat_tests)

fetch_low : (none before ended many : Bool) → (not none && (before || ended || many)) ≡ false → (none ≡ true) ⊎ (many ≡ false)
fetch_low true before ended many is = inl refl
fetch_low false true ended many is = absurd (false≢true (sym is))
fetch_low false false true many is = absurd (false≢true (sym is))
fetch_low false false false true is = absurd (false≢true (sym is))
fetch_low false false false false is = inr refl

fill_low : (counted full before few : Bool) → counted ≡ false → (not (counted || full) && (before || few)) ≡ false → (full ≡ true) ⊎ (few ≡ false)
fill_low true full before few none is = absurd (false≢true (sym none))
fill_low false true before few none is = inl refl
fill_low false false false false none is = inr refl
fill_low false false _ _ none is = absurd (false≢true (sym is))

room_some : (on : Bool) → 1 ≤ room_of on
room_some true = omega arith
room_some false = omega arith

worth_few : (fifo : Fifo) → worth_fetching fifo ≤ room_of fifo.on
worth_few fifo = by_on fifo.on
  where
    by_on : (on : Bool) → (if on then max 1 (16 - fifo.threshold) else 1) ≤ room_of on
    by_on true = grind (arith, nat_tests)
    by_on false = omega arith

-- a read has room for a byte
fetched : (before ended : Bool) (fifo : Fifo) → wants true before ended fifo ≡ false → 1 + length fifo.bytes ≤ room_of fifo.on
fetched before ended fifo low = let n = length fifo.bytes in
    elim (fetch_low (n == 0) before ended (nat_le (worth_fetching fifo) n) low) [
      | inl none ↦ let is = eqb-true n 0 none in let some = room_some fifo.on in omega arith
      | inr few ↦ let fewer = below (worth_fetching fifo) n few in let most = worth_few fifo in omega arith
    ]

-- a write has a byte
filled : (counted before : Bool) (fifo : Fifo) → counted ≡ false → wants false before counted fifo ≡ false → 1 ≤ length fifo.bytes
filled counted before fifo none low = let n = length fifo.bytes in
    elim (fill_low counted (n == room_of fifo.on) before (nat_le n (low_level fifo)) none low) [
      | inl full ↦ let same = eqb-true n (room_of fifo.on) full in let some = room_some fifo.on in omega arith
      | inr many ↦ let more = below n (low_level fifo) many in omega arith
    ]

-- a command for a sector is a read or a write
abbrev is_transfer : Task → Bool
is_transfer (task.Read reading) = true
is_transfer (task.Write writing) = true
is_transfer _ = false

abbrev transfers : Phase → Bool
transfers (Execute execution) = is_transfer execution.task
transfers _ = true

task_waits : (chosen : Task) (before : Bool) (fifo : Fifo) → is_transfer chosen ≡ true → task_asks chosen before fifo ≡ false → TaskWaits 1 chosen fifo
task_waits (task.Read reading) before fifo is low = λ none. fetched before (is_over reading.stage) fifo low
task_waits (task.Write writing) before fifo is low = λ none. let some = filled writing.counted before fifo none low in omega arith
task_waits _ before fifo is low = absurd (false≢true is)

phase_waits : (phase : Phase) (before : Bool) (fifo : Fifo) → transfers phase ≡ true → phase_asks phase before fifo ≡ false → PhaseWaits 1 phase fifo
phase_waits (Execute execution) before fifo is low = task_waits execution.task before fifo is low
phase_waits _ before fifo is low = tt

-- once the terminal count came there is always time
counted_task : (chosen : Task) (fifo : Fifo) → is_transfer chosen ≡ true → task_counted chosen ≡ true → TaskWaits 1 chosen fifo
counted_task (task.ReadId search) fifo is counted = absurd (false≢true is)
counted_task (task.Format formatting) fifo is counted = absurd (false≢true is)
counted_task _ fifo is counted = λ none. absurd (false≢true (sym none ∙ counted))

counted_phase : (phase : Phase) (fifo : Fifo) → transfers phase ≡ true → phase_counted phase ≡ true → PhaseWaits 1 phase fifo
counted_phase (Execute execution) fifo is counted = counted_task execution.task fifo is counted
counted_phase _ fifo is counted = tt

moves_transfer : (operation : Operation) (past : Past) (sent : Sent) (fdc : Fdc) → MayMove operation past sent fdc → transfers fdc.phase ≡ true
moves_transfer (Read wanted skip) past sent fdc was = by_phase fdc.phase was
  where
    by_phase : (phase : Phase) → MayReadIn past sent phase fdc.asking fdc.fifo.bytes → transfers phase ≡ true
    by_phase (Execute execution) was = by_task execution.task was
      where
        by_task : (chosen : Task) → MayReadIn past sent (Execute (record execution { task = chosen })) fdc.asking fdc.fifo.bytes → is_transfer chosen ≡ true
        by_task (task.ReadId search) was = absurd was
        by_task (task.Format formatting) was = absurd was
        by_task _ was = refl
    by_phase _ was = refl
moves_transfer (Write deleted) past sent fdc was = by_phase fdc.phase was
  where
    by_phase : (phase : Phase) → MayWriteIn past sent deleted phase fdc.asking fdc.fifo → transfers phase ≡ true
    by_phase (Execute execution) was = by_task execution.task was
      where
        by_task : (chosen : Task) → MayWriteIn past sent deleted (Execute (record execution { task = chosen })) fdc.asking fdc.fifo → is_transfer chosen ≡ true
        by_task (task.ReadId search) was = absurd was
        by_task (task.Format formatting) was = absurd was
        by_task _ was = refl
    by_phase _ was = refl

-- ---- DRQ goes by the FIFO's rule, and where all bytes of a sector passed the terminal count came

abbrev GoesByRule : Fdc → Type 0
GoesByRule fdc = (before : Bool) × (fdc.asking ≡ phase_asks fdc.phase before fdc.fifo)

record IsFed (moving : MovingSector) (fdc : Fdc) : Type 0 where
  rule : GoesByRule fdc
  last : moving.left ≡ 0 → phase_counted fdc.phase ≡ true

abbrev FedAt : FrontStage → Fdc → Type 0
FedAt (Moving moving) fdc = IsFed moving fdc
FedAt _ fdc = Unit {0}

abbrev IsFedFront : Front → Type 0
IsFedFront front = FedAt front.stage front.adapter.controller

fed_as : (moving : MovingSector) (front : Front) → front.stage ≡ Moving moving → IsFed moving front.adapter.controller → IsFedFront front
fed_as moving front is fed = subst (λ stage. FedAt stage front.adapter.controller) (sym is) fed

free_as : (stage : FrontStage) (front : Front) → front.stage ≡ stage → FedAt stage front.adapter.controller → IsFedFront front
free_as stage front is fed = subst (λ s. FedAt s front.adapter.controller) (sym is) fed

-- the terminal count
told_task : (chosen : Task) (before asking : Bool) (fifo : Fifo) → asking ≡ task_asks chosen before fifo → asking_told (moves_bytes chosen) asking ≡ task_asks (task_told chosen) before (fifo_told (is_read chosen) fifo)
told_task (task.ReadId search) before asking fifo is = is
told_task _ before asking fifo is = refl

told_phase : (phase : Phase) (before asking : Bool) (fifo : Fifo) → asking ≡ phase_asks phase before fifo → asking_told (is_moving phase) asking ≡ phase_asks (phase_told phase) before (fifo_told (is_reading phase) fifo)
told_phase (Execute execution) before asking fifo is = told_task execution.task before asking fifo is
told_phase _ before asking fifo is = is

told_rule : (fdc : Fdc) → GoesByRule fdc → GoesByRule (told_count fdc)
told_rule fdc (before, is) = (before, told_phase fdc.phase before fdc.asking fdc.fifo is)

told_task_counted : (chosen : Task) → task_counted (task_told chosen) ≡ true
told_task_counted (task.ReadId search) = refl
told_task_counted _ = refl

told_counted : (phase : Phase) → phase_counted (phase_told phase) ≡ true
told_counted (Execute execution) = told_task_counted execution.task
told_counted _ = refl

told_fed : (moving : MovingSector) (fdc : Fdc) → GoesByRule fdc → IsFed moving (told_count fdc)
told_fed moving fdc rule = record { rule = told_rule fdc rule; last = λ none. told_counted fdc.phase }

-- ---- a sector begins

not_executing : {A : Type 0} (old new : Fdc) → new ≡ answered 0x80 None old → is_executing new.phase ≡ true → A
not_executing old new is busy = absurd (false≢true (sym (ap (λ (fdc : Fdc). is_executing fdc.phase) is) ∙ busy))

begins_of : {B : Type 0} (old new : Fdc) → (seek_bits old.seeks ≡ 0 → (old.non_dma ≡ true → new ≡ answered 0x80 None old) × (old.non_dma ≡ false → B)) × ((seek_bits old.seeks == 0) ≡ false → new ≡ answered 0x80 None old)
    → is_executing new.phase ≡ true → B
begins_of old new (rests, moves) busy = either_way (seek_bits old.seeks == 0)
    (λ none. let begins = rests (eqb-true (seek_bits old.seeks) 0 none) in either_way old.non_dma
    (λ set. not_executing old new (begins.0 set) busy)
    (λ clear. begins.1 clear))
    (λ some. not_executing old new (moves some) busy)

read_rule : (sent : Sent) (chosen : Task) (on : Bool) (threshold : ℕ) → IsReadingData sent chosen → false ≡ task_asks chosen false (emptied on threshold)
read_rule sent (task.Read reading) on threshold is = refl
read_rule sent _ on threshold is = absurd is

sized_of : (b : Bool) (command : Command) (lines : Lines) (old new : Fdc) → TakesAs (if b then Ready command else Invalid) lines old new → is_executing new.phase ≡ true → Obeys command lines old new
sized_of true command lines old new takes busy = takes
sized_of false command lines old new takes busy = not_executing old new takes busy

begun_rule : (operation : Operation) (head_drive : ℕ) (key : Chrn) (last_sector gap code : ℕ) (lines : Lines) (old new : Fdc)
    → TakesWhole (Ready (command_for operation head_drive key last_sector gap code)) lines old new → is_executing new.phase ≡ true → GoesByRule new
begun_rule (Read wanted skip) head_drive key last_sector gap code lines old new takes busy =
    let set : Fdc = record old { command = [] } in
    let command = ReadData head_drive key last_sector gap code in
    let begins : BeginsData command set new = begins_of set new (sized_of (nat_le 1 key.n && nat_le key.n 6) command lines set new takes busy) busy in (
      false,
      ap (λ (fdc : Fdc). fdc.asking) begins.3 ∙ (read_rule (record { head_drive = head_drive; key = key; last_sector = last_sector }) begins.0 old.fifo.on old.fifo.threshold begins.1
          ∙ sym (ap (λ (fdc : Fdc). phase_asks fdc.phase false fdc.fifo) begins.3)),
    )
begun_rule (Write false) head_drive key last_sector gap code lines old new takes busy =
    let set : Fdc = record old { command = [] } in
    let command = WriteData head_drive key last_sector gap code in
    let begins : BeginsData command set new = begins_of set new (sized_of (nat_le 1 key.n && nat_le key.n 6) command lines set new takes busy) busy in
    subst GoesByRule (sym begins.3) (false, refl)
begun_rule (Write true) head_drive key last_sector gap code lines old new takes busy =
    let set : Fdc = record old { command = [] } in
    let command = WriteDeleted head_drive key last_sector gap code in
    let begins : BeginsData command set new = begins_of set new (sized_of (nat_le 1 key.n && nat_le key.n 6) command lines set new takes busy) busy in
    subst GoesByRule (sym begins.3) (false, refl)

sector_fed : (at : Transfer) (counted passed_over : Bool) (old new : Front) → IsSizeCode at.key.n → BeginsSector at counted passed_over old new → IsFedFront new
sector_fed at counted passed_over old new sized begins = by_busy (is_executing begins.between.controller.phase) refl begins.begun
  where
    told_or : (b : Bool) → GoesByRule begins.between.controller → IsFed (moving_of at b passed_over) (told_if b begins.between).controller
    told_or true rule = told_fed (moving_of at true passed_over) begins.between.controller rule
    told_or false rule = record { rule = rule; last = λ none. absurd (false≢true (sym (size_some at.key.n sized) ∙ ap (λ m. m == 0) none)) }

    by_busy : (b : Bool) → is_executing begins.between.controller.phase ≡ b → new ≡ begun_if b at counted passed_over begins.between old → IsFedFront new
    by_busy false quiet is = free_as Through new (ap (λ (f : Front). f.stage) is) tt
    by_busy true busy is =
        let op = at.opcode.operation in
        let rule = begun_rule op at.head_drive at.key at.last_sector at.gap at.length (lines_at old.adapter) old.adapter.controller begins.between.controller begins.takes.takes busy in
        subst IsFedFront (sym is) (told_or counted rule)

-- ---- the channel

fed_moving : (moving : MovingSector) (front : Front) → front.stage ≡ Moving moving → IsFedFront front → IsFed moving front.adapter.controller
fed_moving moving front is fed = subst (λ stage. FedAt stage front.adapter.controller) is fed

passed_fed : (moving : MovingSector) (fdc : Fdc) (old new : Front) → GoesByRule fdc → new ≡ passed_one moving fdc old → IsFedFront new
passed_fed moving fdc old new rule is = subst IsFedFront (sym is) (by_last (moving.left - 1 == 0) refl)
  where
    by_last : (b : Bool) → (moving.left - 1 == 0) ≡ b → IsFed (record moving { left = moving.left - 1 }) (if b then told_count fdc else fdc)
    by_last true over = told_fed (record moving { left = moving.left - 1 }) fdc rule
    by_last false more = record { rule = rule; last = λ none. absurd (false≢true (sym more ∙ ap (λ m. m == 0) none)) }

same_fed : (old new : Front) → new ≡ old → IsFedFront old → IsFedFront new
same_fed old new is fed = subst IsFedFront (sym is) fed

passes_fed : (old new : Front) → is_under_way old.stage ≡ true → BytePasses old new → IsFedFront old → IsFedFront new
passes_fed old new under (Quiet is) fed = same_fed old new is fed
passes_fed old new under (Own fdc at passed is) fed = absurd (not_through old under at)
passes_fed old new under (OfSector moving fdc at passed is) fed = passed_fed moving fdc old new (old.adapter.controller.asking, passed.rule) is

counts_fed : (stage : FrontStage) (old new : Front) → old.stage ≡ stage → is_under_way stage ≡ true → new ≡ count_told stage old → IsFedFront old → IsFedFront new
counts_fed (Moving moving) old new at under is fed = subst IsFedFront (sym is) (told_fed (record moving { counted = true }) old.adapter.controller (fed_moving moving old at fed).rule)
counts_fed (Seeking transfer counted) old new at under is fed = free_as (Seeking transfer true) new (ap (λ (f : Front). f.stage) is) tt
counts_fed _ old new at under is fed = absurd (false≢true under)

-- ---- ports and media

-- what the rule depends on stays
alike_fed : (stage : FrontStage) (old new : Front) → new.stage ≡ old.stage → old.stage ≡ stage → new.adapter.controller.phase ≡ old.adapter.controller.phase → new.adapter.controller.asking ≡ old.adapter.controller.asking
    → new.adapter.controller.fifo ≡ old.adapter.controller.fifo → IsFedFront old → IsFedFront new
alike_fed (Moving moving) old new stays at phase asking fifo fed =
    let was = fed_moving moving old at fed in
    let (before, is) = was.rule in
    fed_as moving new (stays ∙ at) (record {
      rule = (before, asking ∙ (is ∙ sym (ap (λ p. phase_asks p before new.adapter.controller.fifo) phase ∙ ap (phase_asks old.adapter.controller.phase before) fifo)));
      last = λ none. ap phase_counted phase ∙ was.last none;
    })
alike_fed stage old new stays at phase asking fifo fed = free_as stage new (stays ∙ at) tt

-- ---- a device step

-- DRQ goes by the FIFO's rule again, and no byte came too late
record IsCalmStep (old new : Fdc) : Type 0 where
  rule : GoesByRule new
  no_overrun : is_overrun new.phase ≡ false
  uncounted : phase_counted new.phase ≡ false → phase_counted old.phase ≡ false

calm_step : (phase : Phase) (old new : Fdc) → is_executing phase ≡ true → FlowsIn phase old.asking new → LastsIn phase old new → PhaseWaits 1 phase old.fifo → phase ≡ old.phase → IsCalmStep old new
calm_step (Execute execution) old new busy flows lasts waits is =
    let after : Lasts 0 old new = lasts 0 waits in
    record { rule = (old.asking, flows); no_overrun = after.no_overrun; uncounted = after.uncounted }
calm_step _ old new busy flows lasts waits is = absurd (false≢true busy)

works_calm : (old : Fdc) (before : DriveState) (new : Fdc) (after : DriveState) → is_executing old.phase ≡ true → PhaseWaits 1 old.phase old.fifo → Works old before new after → IsCalmStep old new
works_calm old before new after busy waits works = calm_step old.phase old new busy works.flows works.lasts waits refl

adapter_calm : (old new : AdapterState) → StepsAdapter old new → selected_at old ≤ 1 → is_executing old.controller.phase ≡ true → PhaseWaits 1 old.controller.phase old.controller.fifo → IsCalmStep old.controller new.controller
adapter_calm old new steps few busy waits = elim (which_drive (selected_at old)) [
  | inl at ↦ works_calm old.controller old.first new.controller new.first busy waits (steps.at_first at).0
  | inr (inl at) ↦ works_calm old.controller old.second new.controller new.second busy waits (steps.at_second at).0
  | inr (inr at) ↦ absurd (omega arith)
]

and_low : (first second : Bool) → first ≡ true → (first && second) ≡ false → second ≡ false
and_low true second is low = low
and_low false second is low = absurd (false≢true is)

-- the controller can wait for one more device step
moving_waits : (moving : MovingSector) (fdc : Fdc) → IsFed moving fdc → transfers fdc.phase ≡ true → is_gated fdc ≡ true → asks_at (Moving moving) fdc ≡ false → PhaseWaits 1 fdc.phase fdc.fifo
moving_waits moving fdc fed kind gated low = either_way (nat_lt 0 moving.left)
    (λ some.
    let quiet : fdc.asking ≡ false = and_low (is_gated fdc) fdc.asking gated (and_low (nat_lt 0 moving.left) (asks fdc) some low) in
    let (before, is) = fed.rule in
    phase_waits fdc.phase before fdc.fifo kind (sym is ∙ quiet))
    (λ none. counted_phase fdc.phase fdc.fifo kind (fed.last (none_left moving.left none)))
  where
    none_left : (left : ℕ) → nat_lt 0 left ≡ false → left ≡ 0
    none_left left none = grind (arith, nat_tests)

passed_over : (b : Bool) (moving : MovingSector) (front new : Front) → front.stage ≡ Moving moving → IsFed moving front.adapter.controller → new ≡ passed_over_if b moving front → IsFedFront new
passed_over true moving front new at fed is = subst IsFedFront (sym is) (told_fed (record moving { left = 0; passed_over = true; skipped = true }) front.adapter.controller fed.rule)
passed_over false moving front new at fed is = subst IsFedFront (sym is) (fed_as moving front at fed)

next_fed : (mark : Option Bool) (ending : Ending) (moving : MovingSector) (old new : Front) → IsSizeCode moving.transfer.key.n → EndsSector mark moving ending old new → IsFedFront new
next_fed mark (Done marked) moving old new sized ends = by_next (goes_on moving marked) ends
  where
    by_next : (b : Bool) → EndsIf b moving marked old new → IsFedFront new
    by_next true begins = sector_fed (next_of moving.transfer) false (has_met_other moving marked) old new (subst IsSizeCode (sym (next_size moving.transfer)) sized) begins
    by_next false is = free_as (Telling (results_behind moving marked)) new (ap (λ (f : Front). f.stage) is) tt
next_fed mark ending moving old new sized is = free_as (Telling (results_failed mark moving ending)) new (ap (λ (f : Front). f.stage) is) tt

-- ---- results without OR

abbrev is_telling : FrontStage → Bool
is_telling (Telling results) = true
is_telling _ = false

abbrev IsCalm : Results → Type 0
IsCalm results = bit_and results.st1.0 overrun ≡ 0

ending_calm : (ending : Ending) → overran ending ≡ false → bit_and (st1_of ending).0 overrun ≡ 0
ending_calm Overrun calm = absurd (false≢true (sym calm))
ending_calm _ calm = refl

told_calm : (ending : Ending) (at : Transfer) (key : Chrn) (met : Bool) → overran ending ≡ false → IsCalm (results_told ending at key met)
told_calm ending at key met calm = ap (λ n. bit_and n overrun) (by_cases at.seeks met) ∙ ending_calm ending calm
  where
    by_cases : (seeks other : Bool) → (results_told ending (record at { seeks = seeks }) key other).st1.0 ≡ (st1_of ending).0
    by_cases true true = refl
    by_cases true false = refl
    by_cases false true = refl
    by_cases false false = refl

same_results : (one other : Results) → Telling one ≡ Telling other → one ≡ other
same_results one other is = cc

as_told : (told results : Results) (old new : Front) → IsCalm told → new ≡ record old { stage = Telling told } → new.stage ≡ Telling results → IsCalm results
as_told told results old new calm is tells = subst IsCalm (same_results told results (sym (ap (λ (f : Front). f.stage) is) ∙ tells)) calm

behind_calm : (moving : MovingSector) (marked : Bool) → IsCalm (results_behind moving marked)
behind_calm moving marked = by_more (would_go_on moving marked)
  where
    by_more : (b : Bool) → IsCalm (if b then results_told NoCount moving.transfer moving.transfer.key (has_met_other moving marked)
        else results_told (Done false) moving.transfer (next_of moving.transfer).key (has_met_other moving marked))
    by_more true = told_calm NoCount moving.transfer moving.transfer.key (has_met_other moving marked) refl
    by_more false = told_calm (Done false) moving.transfer (next_of moving.transfer).key (has_met_other moving marked) refl

begins_silent : (at : Transfer) (counted passed_over : Bool) (old new : Front) (results : Results) → BeginsSector at counted passed_over old new → new.stage ≡ Telling results → IsCalm results
begins_silent at counted passed_over old new results begins tells = by_busy (is_executing begins.between.controller.phase) begins.begun
  where
    by_busy : (b : Bool) → new ≡ begun_if b at counted passed_over begins.between old → IsCalm results
    by_busy true is = absurd (false≢true (sym (ap (λ (f : Front). is_telling f.stage) is) ∙ ap is_telling tells))
    by_busy false is = absurd (false≢true (sym (ap (λ (f : Front). is_telling f.stage) is) ∙ ap is_telling tells))

ends_calm : (mark : Option Bool) (ending : Ending) (moving : MovingSector) (old new : Front) (results : Results) → overran ending ≡ false → EndsSector mark moving ending old new → new.stage ≡ Telling results → IsCalm results
ends_calm mark (Done marked) moving old new results calm ends tells = by_next (goes_on moving marked) ends
  where
    by_next : (b : Bool) → EndsIf b moving marked old new → IsCalm results
    by_next true begins = begins_silent (next_of moving.transfer) false (has_met_other moving marked) old new results begins tells
    by_next false is = as_told (results_behind moving marked) results old new (behind_calm moving marked) is tells
ends_calm mark Overrun moving old new results calm is tells = absurd (false≢true (sym calm))
ends_calm mark ending moving old new results calm is tells = as_told _ results old new (told_calm ending moving.transfer moving.transfer.key (has_failed_other mark moving ending) calm) is tells

answer_calm : (told : Answer) (ending : Ending) → is_overrun (Result told) ≡ false → ending_of_phase (Result told) ≡ Some ending → overran ending ≡ false
answer_calm (Long found results read) ending calm is = sym (ap overran (cc)) ∙ calm
answer_calm (Short next last) ending calm is = absurd (cc)

phase_calm : (phase : Phase) (ending : Ending) → is_overrun phase ≡ false → ending_of_phase phase ≡ Some ending → overran ending ≡ false
phase_calm (Result told) ending calm is = answer_calm told ending calm is
phase_calm _ ending calm is = absurd (cc)

judged_calm : (moving : MovingSector) (ending : Ending) → overran ending ≡ false → overran (judged moving ending) ≡ false
judged_calm moving BadCheck calm = by_skipped moving.skipped
  where
    by_skipped : (b : Bool) → overran (judged (record moving { skipped = b }) BadCheck) ≡ false
    by_skipped true = refl
    by_skipped false = refl
judged_calm moving Overrun calm = calm
judged_calm moving _ calm = refl

-- ---- the front in a device step

record IsStepped (new : Front) : Type 0 where
  fed : IsFedFront new
  calm : (results : Results) → new.stage ≡ Telling results → IsCalm results

moves_stepped : (mark : Option Bool) (ending : Option Ending) (moving : MovingSector) (old : Fdc) (front new : Front) → front.stage ≡ Moving moving → IsFed moving old → IsCalmStep old front.adapter.controller
    → ending_told front.adapter.controller ≡ ending → IsSizeCode moving.transfer.key.n → MovesOn mark (judged_if moving ending) moving front new → IsStepped new
moves_stepped mark None moving old front new at fed calm is sized follows =
    let fdc = front.adapter.controller in
    let now : IsFed moving fdc = record {
      rule = calm.rule;
      last = λ none. either_way (phase_counted fdc.phase) (λ yes. yes) (λ no. clash (phase_counted old.phase) (calm.uncounted no) (fed.last none));
    } in
    record {
      fed = passed_over (is_unwanted moving (mark_of fdc)) moving front new at now follows;
      calm = λ results tells. by_over (is_unwanted moving (mark_of fdc)) results follows tells;
    }
  where
    by_over : (b : Bool) (results : Results) → new ≡ passed_over_if b moving front → new.stage ≡ Telling results → IsCalm results
    by_over true results is tells = absurd (false≢true (sym (ap (λ (f : Front). is_telling f.stage) is) ∙ ap is_telling tells))
    by_over false results is tells = absurd (false≢true (sym (ap (λ (f : Front). is_telling f.stage) is ∙ ap is_telling at) ∙ ap is_telling tells))
moves_stepped mark (Some ending) moving old front new at fed calm is sized ends =
    let fdc = front.adapter.controller in
    let given : Front = record front { adapter = with_controller (given_up fdc) front.adapter } in
    record {
      fed = next_fed mark (judged moving ending) moving given new sized ends;
      calm = λ results tells. ends_calm mark (judged moving ending) moving given new results (judged_calm moving ending (phase_calm fdc.phase ending calm.no_overrun is)) ends tells;
    }

seeks_stepped : (b : Bool) (at : Transfer) (counted : Bool) (front new : Front) → front.stage ≡ Seeking at counted → IsSizeCode at.key.n → SeeksOn b at counted front new → IsStepped new
seeks_stepped true at counted front new is sized begins =
    let sought : Front = record front { adapter = with_controller (without_seek front.adapter.controller) front.adapter } in
    record { fed = sector_fed at counted false sought new sized begins; calm = λ results tells. begins_silent at counted false sought new results begins tells }
seeks_stepped false at counted front new is sized same =
    let stage = ap (λ (f : Front). f.stage) same ∙ is in
    record { fed = free_as (Seeking at counted) new stage tt; calm = λ results tells. absurd (false≢true (sym (ap is_telling stage) ∙ ap is_telling tells)) }

front_stepped : (stage : FrontStage) (old new : Front) (step : StepsFront old new) → old.stage ≡ stage → is_under_way stage ≡ true → (was : ServesBehind old) → IsFedFront old → is_gated old.adapter.controller ≡ true → asks_outside old ≡ false → selected_at old.adapter ≤ 1
    → IsStepped new
front_stepped (Seeking transfer counted) old new step at under was fed gated low few =
    let serves : ServesAt (Seeking transfer counted) was.first was.history old.adapter.controller = subst (λ s. ServesAt s was.first was.history old.adapter.controller) at was.serves.now in
    let front : Front = record old { adapter = step.between } in
    seeks_stepped (has_ended_seek step.between.controller.seeks) transfer counted front new at (subst (λ (t : Transfer). IsSizeCode t.key.n) (sym serves.0) was.serves.sized)
    (subst (λ s. FollowsStep (mark_of old.adapter.controller) s front new) at step.follows)
front_stepped (Moving moving) old new step at under was fed gated low few =
    let fdc = old.adapter.controller in
    let serves : ServesAt (Moving moving) was.first was.history fdc = subst (λ s. ServesAt s was.first was.history fdc) at was.serves.now in
    let carries = serves.2 in
    let now = fed_moving moving old at fed in
    let kind = moves_transfer was.first.opcode.operation was.history.past (sent_of moving.transfer) fdc carries.moves in
    let waits = moving_waits moving fdc now kind gated (sym (ap (λ s. asks_at s fdc) at) ∙ low) in
    let calm = adapter_calm old.adapter step.between step.steps few carries.busy waits in
    let front : Front = record old { adapter = step.between } in
    moves_stepped (mark_of fdc) (ending_told step.between.controller) moving fdc front new at now calm refl carries.accounts.sized (subst (λ s. FollowsStep (mark_of fdc) s front new) at step.follows)
front_stepped _ old new step at under was fed gated low few = absurd (false≢true under)

-- ---- the chip

record InTimeSoFar (chip : ChipState) : Type 0 where
  sound : IsSound chip
  serving : IsServing chip
  fed : IsFedFront chip.front

chip_stepped : (old new : ChipState) (step : StepsChip old new) → InTimeSoFar old → IsPrompt old → IsStepped step.between
chip_stepped old new step was prompt =
    let basis = sound_basis old (ap parts.is_ready was.serving.sent) was.sound in
    front_stepped old.front.stage old.front step.between step.steps refl was.serving.under_way (serves_of old was.sound was.serving.sent was.serving.under_way) was.fed basis.gated prompt.served prompt.drive

makes_fed : (b : Bool) (old new : Front) → Makes b old new → is_under_way old.stage ≡ true → IsFedFront old → IsFedFront new
makes_fed b old new (makes.Same is) under fed = same_fed old new is fed
makes_fed b old new (makes.Takes byte takes) under fed = passes_fed old new under (takes_pass old.stage byte old new refl takes) fed
makes_fed b old new (makes.Gives byte given gives) under fed = passes_fed old new under (gives_pass old.stage byte given old new refl gives) fed
makes_fed b old new (makes.Counts is) under fed = counts_fed old.stage old new refl under is fed
makes_fed b old new (makes.Writes port value writes no_data quiet) under fed =
    let same = port_same port value (lines_at old.adapter) old.adapter.controller new.adapter.controller (writes.others no_data).0.writes no_data quiet in
    alike_fed old.stage old new (port_stage port value old new writes no_data quiet) refl same.phase same.asking same.fifo fed
makes_fed b old new (makes.Changes changes keeps) under fed =
    let same = keeps.controller in
    alike_fed old.stage old new keeps.stage refl (ap (λ (fdc : Fdc). fdc.phase) same) (ap (λ (fdc : Fdc). fdc.asking) same) (ap (λ (fdc : Fdc). fdc.fifo) same) fed

call_on : (call : Call) (old new : ChipState) → InTimeSoFar old → Does call old new → PromptAt call old → IsServing new → IsFedFront new.front
call_on made.Steps old new was step prompt serving =
    subst (λ (chip : ChipState). IsFedFront chip.front) (sym (step_same old new step was.serving.sent serving.sent)) (chip_stepped old new step was prompt).fed
call_on call old new was does prompt serving =
    makes_fed (is_change call) old.front new.front (call_stays call SentTask old new does was.serving.sent refl (ap has_command serving.sent)).front was.serving.under_way was.fed

calls_on : (calls : List Call) (old new : ChipState) → AreInTime calls old new → InTimeSoFar old → InTimeSoFar new
calls_on [] old new same was = subst InTimeSoFar (sym same) was
calls_on (call ∷ calls) old new (between, does, few, prompt, serving, rest) was =
    calls_on calls between new rest (record { sound = call_sound call old between does few was.sound; serving = serving; fed = call_on call old between was does prompt serving })

-- ---- it begins

starts_fed : (b : Bool) (first : Transfer) (old new : Front) → IsSizeCode first.key.n → StartsIf b first old new → IsFedFront new
starts_fed false first old new sized begins = sector_fed first false false old new sized begins
starts_fed true first old new sized seeks = by_idle _ seeks.begun
  where
    by_idle : (b : Bool) → new ≡ record old { adapter = seeks.between; stage = if b then Seeking first false else Through } → IsFedFront new
    by_idle true is = free_as (Seeking first false) new (ap (λ (f : Front). f.stage) is) tt
    by_idle false is = free_as Through new (ap (λ (f : Front). f.stage) is) tt

begun_fed : (first : Transfer) (chip : ChipState) → IsBegun first chip → IsFedFront chip.front
begun_fed first chip is =
    let begun = is.begins in
    starts_fed first.seeks first begun.start chip.front begun.serves.sized (given_starts first begun.start chip.front begun.begins.ready begun.begins.gives)

pub prompt_calm : (first : Transfer) (calls : List Call) (begun last new : ChipState) (step : StepsChip last new) (results : Results) → IsSound begun → IsBegun first begun → AreInTime calls begun last → IsPrompt last
    → step.between.stage ≡ Telling results → bit_and results.st1.0 overrun ≡ 0
prompt_calm first calls begun last new step results sound is calls_are prompt tells =
    let was = calls_on calls begun last calls_are (record { sound = sound; serving = is.serving; fed = begun_fed first begun is }) in
    (chip_stepped last new step was prompt).calm results tells

-- ---- the lines

pub channel_asks : (chip : ChipState) → passes_by_channel chip ≡ true → asks_chip chip ≡ asks_outside chip.front
channel_asks chip passes = ap (λ b. b && asks_outside chip.front) passes

pub port_asks : (chip : ChipState) → passes_by_port chip ≡ true → chip.gated ≡ true → interrupts_chip chip ≡ asks_outside chip.front
port_asks chip passes gated =
    ap (λ b. b && (if passes_by_port chip then asks_outside chip.front else (chip.interrupts.line || shows_behind chip.stage chip.front))) gated
    ∙ ap (λ b. if b then asks_outside chip.front else (chip.interrupts.line || shows_behind chip.stage chip.front)) passes
