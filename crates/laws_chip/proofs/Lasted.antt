-- A command of several sectors ends: an implied seek and its sectors take so many device steps, and each one leaves one
-- fewer.
use Rattle.std.proofs.Common.{◌≡◌, ℕ, ◌+◌, ◌-◌, ◌*◌, ◌<◌, ◌≤◌, Bool, true, false, not, ◌==◌, if◌then◌else◌, Option, Some, None, List, [], ◌∷◌, refl, sym, ◌∙◌, ap, subst, arith}
use Rattle.laws_chip.proofs.Common.{eqb-true, false≢true, not-true, and_parts, Seeks, has_ended_seek, is_seeking, seek_bits, is_begun, Results, SeekCommand, new_past, Ending, Done, phase_told, MayReadIn, MayReadTask, Sent, MayWriteIn, MayWriteTask, Phase, Taking, Execute, Result, Task, ReadTask, WriteTask, told_count, is_executing, is_taking, resets, takes_in, IsInRange, is_held, EndsIn, IsCounted, TakesWhole, ending_told, is_idle, mark_of, Fdc, Lines, AdapterState, StepsAdapter, WritesAdapter, lines_at, BeginsSector, Front, ReadsSector, SeeksFirst, Starts, StartsIf, WritesFront, begun_if, count_told, passed_one, told_if, EndsIf, EndsSector, FollowsStep, MovesOn, SeeksOn, goes_on, has_met_other, is_unwanted, judged_if, passed_over_if, results_behind, results_failed, would_go_on, is_last, next_of, Operation, Read, Write, MovingSector, FrontStage, Through, Seeking, Moving, Telling, Transfer, AreWithin, HasByteNumbers, HasByteRecords, HasRecords, HasResults, is_under_way, most_steps, sectors_from, History, MayMove, Serves, ServesAt, nothing_moved, sent_of, ReadyCommand as Ready, core_steps_left as steps_left, front_reset_if as reset_if, SectorCallsBegins as Begins, SectorCallsCall as Call, SectorCallsDoes as Does, chip_steps_in as steps_in}
use Rattle.laws_chip.specs.SectorLasting.{steps_of}
use Rattle.laws_chip.proofs.Called.{call_serves, calls_serve}
use Rattle.laws_chip.proofs.Known.{SameCommand, adapter_ends, clash, either_way, port_same}
use Rattle.laws_chip.proofs.Started.{begun_busy, next_bytes, sectors_next, sectors_some}
use Rattle.laws_chip.proofs.UnderWay.{BytePasses, Own, OfSector, Quiet, gives_pass, takes_pass, begins_served}
use Rattle.laws_chip.proofs.Courses.{given_starts, ignored, served_on}
use Rattle.laws_chip.proofs.Judged.{NearsEnd, adapter_seeks, seek_few, seek_left, seek_some}
use Rattle.laws_chip.specs.SectorCalls as call

-- ---- a sector

step_fewer : (old new : Phase) → is_executing old ≡ true → EndsIn old new → (steps_left new < steps_left old) × IsCounted new
step_fewer (Execute execution) new busy ends = ends
step_fewer _ new busy ends = absurd (false≢true busy)

left_most : (phase : Phase) → steps_left phase ≤ 65536
left_most Taking = omega arith
left_most (Result answer) = omega arith
left_most (Execute execution) = omega arith

left_some : (phase : Phase) → is_executing phase ≡ true → IsCounted phase → 1 ≤ steps_left phase
left_some (Execute execution) busy counted = omega arith
left_some _ busy counted = absurd (false≢true busy)

-- as many steps are left
record SameSteps (old new : Phase) : Type 0 where
  left : steps_left new ≡ steps_left old
  counted : IsCounted old → IsCounted new

told_steps : (phase : Phase) → SameSteps phase (phase_told phase)
told_steps Taking = record { left = refl; counted = λ was. was }
told_steps (Result answer) = record { left = refl; counted = λ was. was }
told_steps (Execute execution) = record { left = refl; counted = λ was. was }

same_steps : (old new : Phase) → new ≡ old → SameSteps old new
same_steps old new same = record { left = ap steps_left same; counted = subst IsCounted (sym same) }

-- as a command begins, its count of device steps is in range
fresh_counted : (operation : Operation) (sent : Sent) (fdc : Fdc) → MayMove operation new_past sent fdc → IsCounted fdc.phase
fresh_counted (Read wanted skip) sent fdc was = by_phase fdc.phase was
  where
    by_task : (task : Task) (head_drive steps : ℕ) → MayReadTask new_past sent head_drive steps task fdc.asking fdc.fifo.bytes → steps < 65536
    by_task (ReadTask reading) head_drive steps (asks, (told, was)) = let none : 0 ≡ steps = was.steps_are in omega arith
    by_task _ head_drive steps was = absurd was

    by_phase : (phase : Phase) → MayReadIn new_past sent phase fdc.asking fdc.fifo.bytes → IsCounted phase
    by_phase (Execute execution) was = by_task execution.task execution.head_drive execution.steps was
    by_phase _ was = tt
fresh_counted (Write deleted) sent fdc was = by_phase fdc.phase was
  where
    by_task : (task : Task) (head_drive steps : ℕ) → MayWriteTask new_past sent deleted head_drive steps task fdc.asking fdc.fifo → steps < 65536
    by_task (WriteTask writing) head_drive steps (asks, (handed, was)) = let none : 0 ≡ steps = was.steps_are in omega arith
    by_task _ head_drive steps was = absurd was

    by_phase : (phase : Phase) → MayWriteIn new_past sent deleted phase fdc.asking fdc.fifo → IsCounted phase
    by_phase (Execute execution) was = by_task execution.task execution.head_drive execution.steps was
    by_phase _ was = tt

-- ---- so many device steps at most are left

-- the steps of the implied seek, and of all sectors
pub record SeeksWithin (n : ℕ) (at : Transfer) (fdc : Fdc) : Type 0 where
  bytes : HasRecords at
  idle : is_executing fdc.phase ≡ false
  runs : is_seeking fdc.seeks ≡ true
  within : seek_left fdc.seeks.seek + 65536 * sectors_from at ≤ n

-- the steps of the sector under way, and of those that come after it
pub record MovesWithin (n : ℕ) (at : Transfer) (fdc : Fdc) : Type 0 where
  bytes : HasRecords at
  counted : IsCounted fdc.phase
  within : steps_left fdc.phase + 65536 * sectors_from at ≤ n + 65536

abbrev pub LastsAt : ℕ → FrontStage → Fdc → Type 0
LastsAt n (Seeking at counted) fdc = SeeksWithin n at fdc
LastsAt n (Moving moving) fdc = MovesWithin n moving.transfer fdc
LastsAt n (Telling results) fdc = Unit {0}
LastsAt n _ fdc = ⊥

abbrev pub Lasts : ℕ → Front → Type 0
Lasts n front = LastsAt n front.stage front.adapter.controller

at_stage : (n : ℕ) (stage : FrontStage) (new : Front) → new.stage ≡ stage → LastsAt n stage new.adapter.controller → Lasts n new
at_stage n stage new is lasts = subst (λ s. LastsAt n s new.adapter.controller) (sym is) lasts

same_lasts : (n : ℕ) (old new : Front) → new ≡ old → Lasts n old → Lasts n new
same_lasts n old new is lasts = subst (Lasts n) (sym is) lasts

same_within : (n : ℕ) (at : Transfer) (old new : Fdc) → SameSteps old.phase new.phase → MovesWithin n at old → MovesWithin n at new
same_within n at old new same was = record {
  bytes = was.bytes;
  counted = same.counted was.counted;
  within = subst (λ left. left + 65536 * sectors_from at ≤ n + 65536) (sym same.left) was.within;
}

told_within : (n : ℕ) (at : Transfer) (fdc : Fdc) → MovesWithin n at fdc → MovesWithin n at (told_count fdc)
told_within n at fdc was = same_within n at fdc (told_count fdc) (told_steps fdc.phase) was

-- ---- a sector begins

some_within : (left sectors n : ℕ) → left ≤ 65536 → 65536 * sectors ≤ n → left + 65536 * sectors ≤ n + 65536
some_within left sectors n most all = omega arith

begun_within : (counted : Bool) (n : ℕ) (at : Transfer) (between : AdapterState) → HasRecords at → 65536 * sectors_from at ≤ n → IsCounted between.controller.phase
    → MovesWithin n at (told_if counted between).controller
begun_within counted n at between bytes all fresh = by_count counted
  where
    begun : MovesWithin n at between.controller
    begun = record { bytes = bytes; counted = fresh; within = some_within (steps_left between.controller.phase) (sectors_from at) n (left_most between.controller.phase) all }

    by_count : (b : Bool) → MovesWithin n at (told_if b between).controller
    by_count true = told_within n at between.controller begun
    by_count false = begun

begins_lasts : (n : ℕ) (at : Transfer) (counted passed_over : Bool) (old new : Front) → HasRecords at → 65536 * sectors_from at ≤ n → (new.stage ≡ Through → ⊥)
    → BeginsSector at counted passed_over old new → Lasts n new
begins_lasts n at counted passed_over old new bytes all stays begins = by_busy (is_executing begins.between.controller.phase) refl begins.begun
  where
    by_busy : (b : Bool) → is_executing begins.between.controller.phase ≡ b → new ≡ begun_if b at counted passed_over begins.between old → Lasts n new
    by_busy false idle is = absurd (stays (ap (λ front. front.stage) is))
    by_busy true busy is =
        let begun = begun_busy at (lines_at old.adapter) old.adapter.controller begins.between.controller begins.takes.takes busy in
        let fresh = fresh_counted at.opcode.operation (sent_of at) begins.between.controller begun.moves in
        subst (Lasts n) (sym is) (begun_within counted n at begins.between bytes all fresh)

-- ---- a device step

nearer_within : (now left sectors n : ℕ) → now ≤ left - 1 → 1 ≤ left → left + 65536 * sectors ≤ n → now + 65536 * sectors ≤ n - 1
nearer_within now left sectors n fewer some all = omega arith

sought_within : (left sectors n : ℕ) → 1 ≤ left → left + 65536 * sectors ≤ n → 65536 * sectors ≤ n - 1
sought_within left sectors n some all = omega arith

seek_lasts : (n : ℕ) (at : Transfer) (counted : Bool) (old : Front) (between : AdapterState) (new : Front) → old.stage ≡ Seeking at counted → SeeksWithin n at old.adapter.controller → StepsAdapter old.adapter between
    → FollowsStep (mark_of old.adapter.controller) (Seeking at counted) (record old { adapter = between }) new → (new.stage ≡ Through → ⊥) → Lasts (n - 1) new
seek_lasts n at counted old between new stage_is was steps follows stays = by_end (has_ended_seek between.controller.seeks) refl follows
  where
    on : NearsEnd old.adapter.controller between.controller
    on = adapter_seeks old.adapter between steps was.idle was.runs

    some : 1 ≤ seek_left old.adapter.controller.seeks.seek
    some = seek_some old.adapter.controller.seeks was.runs

    by_end : (b : Bool) → has_ended_seek between.controller.seeks ≡ b → SeeksOn b at counted (record old { adapter = between }) new → Lasts (n - 1) new
    by_end true over begins =
        begins_lasts (n - 1) at counted false _ new was.bytes (sought_within (seek_left old.adapter.controller.seeks.seek) (sectors_from at) n some was.within) stays begins
    by_end false goes is = subst (Lasts (n - 1)) (sym is) (subst (λ stage. LastsAt (n - 1) stage between.controller) (sym stage_is) (record {
      bytes = was.bytes;
      idle = on.idle;
      runs = on.nearer.runs goes;
      within = nearer_within (seek_left between.controller.seeks.seek) (seek_left old.adapter.controller.seeks.seek) (sectors_from at) n on.nearer.fewer some was.within;
    }))

-- after a device step of a sector's command
module _ (n : ℕ) (moving : MovingSector) (old : Fdc) (was : MovesWithin n moving.transfer old) where
  results_last : (results : Results) (front new : Front) → new ≡ record front { stage = Telling results } → Lasts (n - 1) new
  results_last results front new is = at_stage (n - 1) (Telling results) new (ap (λ f. f.stage) is) tt

  ends_last : (mark : Option Bool) (ending : Ending) (phase : Phase) (front new : Front) → steps_left phase < steps_left old.phase → (new.stage ≡ Through → ⊥) → EndsSector mark moving ending front new → Lasts (n - 1) new
  ends_last mark (Done marked) phase front new fewer stays ends = by_next (goes_on moving marked) refl ends
    where
      by_next : (b : Bool) → goes_on moving marked ≡ b → EndsIf b moving marked front new → Lasts (n - 1) new
      by_next true goes begins =
          let next = next_of moving.transfer in
          let more = not-true (is_last moving.transfer) (and_parts (would_go_on moving marked) (not (is_last moving.transfer)) goes).1 in
          let bytes = was.bytes more in
          let one = sectors_next moving.transfer bytes more in
          begins_lasts (n - 1) next false (has_met_other moving marked) front new (λ last. next_bytes moving.transfer bytes)
          (omega arith) stays begins
      by_next false over is = results_last (results_behind moving marked) front new is
  ends_last mark ending phase front new fewer stays is = results_last (results_failed mark moving ending) front new is

  passed_last : (b : Bool) (front new : Front) → front.stage ≡ Moving moving → MovesWithin (n - 1) moving.transfer front.adapter.controller → new ≡ passed_over_if b moving front → Lasts (n - 1) new
  passed_last true front new stage_is within is = subst (Lasts (n - 1)) (sym is) (told_within (n - 1) moving.transfer front.adapter.controller within)
  passed_last false front new stage_is within is = same_lasts (n - 1) front new is (at_stage (n - 1) (Moving moving) front stage_is within)

  moves_last : (mark : Option Bool) (ending : Option Ending) (front new : Front) → front.stage ≡ Moving moving → steps_left front.adapter.controller.phase < steps_left old.phase → IsCounted front.adapter.controller.phase
      → (new.stage ≡ Through → ⊥) → MovesOn mark ending moving front new → Lasts (n - 1) new
  moves_last mark (Some ending) front new stage_is fewer counted stays ends = ends_last mark ending front.adapter.controller.phase _ new fewer stays ends
  moves_last mark None front new stage_is fewer counted stays is = passed_last (is_unwanted moving (mark_of front.adapter.controller)) front new stage_is (record {
    bytes = was.bytes;
    counted = counted;
    within = omega arith;
  }) is

step_lasts : (n : ℕ) (first : Transfer) (history : History) (stage : FrontStage) (old : Front) (between : AdapterState) (new : Front) → old.stage ≡ stage → ServesAt stage first history old.adapter.controller
    → LastsAt n stage old.adapter.controller → StepsAdapter old.adapter between → FollowsStep (mark_of old.adapter.controller) stage (record old { adapter = between }) new → (new.stage ≡ Through → ⊥) → Lasts (n - 1) new
step_lasts n first history Through old between new stage_is now was steps follows stays = absurd was
step_lasts n first history (Telling results) old between new stage_is now was steps is stays = at_stage (n - 1) (Telling results) new (ap (λ front. front.stage) is ∙ stage_is) tt
step_lasts n first history (Seeking at counted) old between new stage_is now was steps follows stays = seek_lasts n at counted old between new stage_is was steps follows stays
step_lasts n first history (Moving moving) old between new stage_is (here, counts, carries) was steps follows stays =
    let (fewer, counted) = step_fewer old.adapter.controller.phase between.controller.phase carries.busy (adapter_ends old.adapter between steps) in
    moves_last n moving old.adapter.controller was (mark_of old.adapter.controller) (judged_if moving (ending_told between.controller)) (record old { adapter = between }) new stage_is fewer counted stays follows

-- ---- the channel

passed_lasts : (n : ℕ) (moving : MovingSector) (fdc : Fdc) (old : Front) → MovesWithin n moving.transfer fdc → Lasts n (passed_one moving fdc old)
passed_lasts n moving fdc old was = by_last (moving.left - 1 == 0)
  where
    by_last : (b : Bool) → MovesWithin n moving.transfer (if b then told_count fdc else fdc)
    by_last true = told_within n moving.transfer fdc was
    by_last false = was

passes_last : (n : ℕ) (old new : Front) → Lasts n old → BytePasses old new → Lasts n new
passes_last n old new was (Quiet is) = same_lasts n old new is was
passes_last n old new was (Own fdc at passed is) = absurd (subst (λ stage. LastsAt n stage old.adapter.controller) at was)
passes_last n old new was (OfSector moving fdc at passed is) =
    let now : MovesWithin n moving.transfer old.adapter.controller = subst (λ stage. LastsAt n stage old.adapter.controller) at was in
    subst (Lasts n) (sym is) (passed_lasts n moving fdc old (same_within n moving.transfer old.adapter.controller fdc (same_steps old.adapter.controller.phase fdc.phase passed.phase) now))

counts_last : (n : ℕ) (stage : FrontStage) (old new : Front) → LastsAt n stage old.adapter.controller → Lasts n old → new ≡ count_told stage old → Lasts n new
counts_last n Through old new now was is = absurd now
counts_last n (Telling results) old new now was is = same_lasts n old new is was
counts_last n (Seeking at counted) old new now was is = subst (Lasts n) (sym is) now
counts_last n (Moving moving) old new now was is = subst (Lasts n) (sym is) (told_within n moving.transfer old.adapter.controller now)

-- ---- ports

port_lasts : (n : ℕ) (stage : FrontStage) (old new : Fdc) → SameCommand old new → LastsAt n stage old → LastsAt n stage new
port_lasts n Through old new same was = absurd was
port_lasts n (Telling results) old new same was = tt
port_lasts n (Moving moving) old new same was = same_within n moving.transfer old new (same_steps old.phase new.phase same.phase) was
port_lasts n (Seeking at counted) old new same was = record {
  bytes = was.bytes;
  idle = ap is_executing same.phase ∙ was.idle;
  runs = ap is_seeking same.seeks ∙ was.runs;
  within = subst (λ (seeks : Seeks). seek_left seeks.seek + 65536 * sectors_from at ≤ n) (sym same.seeks) was.within;
}

writes_last : (n port value : ℕ) (old new : Front) → Lasts n old → (new.stage ≡ Through → ⊥) → WritesFront port value old new → Lasts n new
writes_last n port value old new was stays writes = by_port (port == 0x3F5) refl
  where
    by_reset : (b : Bool) → (port == 0x3F5) ≡ false → resets port value ≡ b → WritesAdapter port value old.adapter new.adapter → new ≡ record (reset_if b old) { adapter = new.adapter } → Lasts n new
    by_reset true no_byte reset wrote is = absurd (stays (ap (λ front. front.stage) is))
    by_reset false no_byte no_reset wrote is = at_stage n old.stage new (ap (λ front. front.stage) is)
        (port_lasts n old.stage old.adapter.controller new.adapter.controller (port_same port value (lines_at old.adapter) old.adapter.controller new.adapter.controller wrote.writes no_byte no_reset) was)

    by_port : (b : Bool) → (port == 0x3F5) ≡ b → Lasts n new
    by_port true is = same_lasts n old new (writes.bytes (eqb-true port 0x3F5 is)) was
    by_port false is = let (wrote, after) = writes.others is in by_reset (resets port value) is refl wrote after

-- ---- all calls

none_fewer : (n : ℕ) (new : Front) → Lasts n new → Lasts (n - 0) new
none_fewer n new lasts = let same : n ≡ n - 0 = omega arith in subst (λ m. Lasts m new) same lasts

pub call_lasts : (made : Call) (n : ℕ) (first : Transfer) (history : History) (old new : Front) → Does made old new → (new.stage ≡ Through → ⊥) → Serves first history old → Lasts n old → Lasts (n - steps_of made) new
call_lasts call.Steps n first history old new does stays serves was = step_lasts n first history old.stage old does.between new refl serves.now was does.steps does.follows stays
call_lasts (call.Takes byte) n first history old new does stays serves was = none_fewer n new (passes_last n old new was (takes_pass old.stage byte old new refl does))
call_lasts (call.Gives byte given) n first history old new does stays serves was = none_fewer n new (passes_last n old new was (gives_pass old.stage byte given old new refl does))
call_lasts call.Counts n first history old new does stays serves was = none_fewer n new (counts_last n old.stage old new was was does)
call_lasts (call.Writes port value) n first history old new does stays serves was = none_fewer n new (writes_last n port value old new was stays does)
call_lasts call.Changes n first history old new does stays serves was =
    none_fewer n new (at_stage n old.stage new does.stage (subst (LastsAt n old.stage) (sym does.controller) was))
call_lasts made n first history old new does stays serves was = none_fewer n new (same_lasts n old new (ignored made old new tt does (served_on first history old serves) stays) was)

pub calls_last : (calls : List Call) (n : ℕ) (first : Transfer) (history : History) (old new : Front) → AreWithin calls old new → Serves first history old → Lasts n old → Lasts (n - steps_in calls) new
calls_last [] n first history old new same serves was = none_fewer n new (same_lasts n old new same was)
calls_last (made ∷ calls) n first history old new (between, does, stays, rest) serves was =
    let one = call_serves made first history old between does stays serves in
    let lasts = call_lasts made n first history old between does stays serves was in
    subst (λ m. Lasts m new) (omega arith) (calls_last calls (n - steps_of made) first one.history between new rest one.serves lasts)

-- ---- how a command begins

rests_idle : (fdc : Fdc) → is_idle fdc ≡ true → is_executing fdc.phase ≡ false
rests_idle fdc idle = by_phase fdc.phase (and_parts (is_taking fdc) (not (is_begun fdc.command)) idle).0
  where
    by_phase : (phase : Phase) → takes_in phase (is_held fdc) ≡ true → is_executing phase ≡ false
    by_phase Taking takes = refl
    by_phase (Result answer) takes = refl
    by_phase (Execute execution) takes = absurd (false≢true takes)

seek_runs : (head_drive cylinder : ℕ) (lines : Lines) (old new : Fdc) → TakesWhole (Ready (SeekCommand head_drive cylinder)) lines old new → is_idle new ≡ true → is_seeking new.seeks ≡ true
seek_runs head_drive cylinder lines old new takes idle = either_way (seek_bits old.seeks == 0)
    (λ none. ap (λ fdc. is_seeking fdc.seeks) (takes.0 (eqb-true (seek_bits old.seeks) 0 none)))
    (λ some. clash (is_idle new) (ap is_idle (takes.1 some)) idle)

sought_first : (left sectors : ℕ) → left ≤ 256 → left + 65536 * sectors ≤ 256 + 65536 * sectors
sought_first left sectors few = omega arith

starts_last : (first : Transfer) (old new : Front) → HasRecords first → IsInRange new.adapter.controller → (new.stage ≡ Through → ⊥) → Starts first old new → Lasts (most_steps first) new
starts_last first old new bytes range stays starts = by_seek first.seeks starts
  where
    by_idle : (seeks : SeeksFirst first old new) (b : Bool) → is_idle seeks.between.controller ≡ b → new ≡ record old { adapter = seeks.between; stage = if b then Seeking first false else Through } → Lasts (most_steps first) new
    by_idle seeks false busy is = absurd (stays (ap (λ front. front.stage) is))
    by_idle seeks true idle is =
        let fdc = seeks.between.controller in
        let fits : IsInRange fdc = subst (λ front. IsInRange front.adapter.controller) is range in
        subst (Lasts (most_steps first)) (sym is) (record {
          bytes = bytes;
          idle = rests_idle fdc idle;
          runs = seek_runs first.head_drive first.key.c (lines_at old.adapter) old.adapter.controller fdc seeks.takes.takes idle;
          within = sought_first (seek_left fdc.seeks.seek) (sectors_from first) (seek_few fdc.seeks.seek fits.seeks.motion);
        })

    by_seek : (b : Bool) → StartsIf b first old new → Lasts (most_steps first) new
    by_seek true seeks = by_idle seeks (is_idle seeks.between.controller) refl seeks.begun
    by_seek false begins = begins_lasts (most_steps first) first false false old new bytes (omega arith) stays begins

-- a sector whose address field has just passed
pub field_lasts : (at : Transfer) (old new : Front) → HasRecords at → ReadsSector at old new → Lasts (most_steps at) new
field_lasts at old new bytes reads =
    let counted : IsCounted reads.between.controller.phase = subst (λ (fdc : Fdc). IsCounted fdc.phase) (sym reads.reads.reads.2) (omega arith) in
    subst (Lasts (most_steps at)) (sym reads.begun) (begun_within false (most_steps at) at reads.between bytes (omega arith) counted)

pub first_lasts : (first : Transfer) (start begun : Front) → Begins first start begun → HasRecords first → IsInRange begun.adapter.controller → Lasts (most_steps first) begun
first_lasts first start begun begins records range = starts_last first start begun records range begins.stays (given_starts first start begun begins.ready begins.gives)

starts_under : (first : Transfer) (old new : Front) → (new.stage ≡ Through → ⊥) → Starts first old new → is_under_way new.stage ≡ true
starts_under first old new stays starts = by_seek first.seeks starts
  where
    by_idle : (seeks : SeeksFirst first old new) (b : Bool) → new ≡ record old { adapter = seeks.between; stage = if b then Seeking first false else Through } → is_under_way new.stage ≡ true
    by_idle seeks false is = absurd (stays (ap (λ front. front.stage) is))
    by_idle seeks true is = ap (λ front. is_under_way front.stage) is

    by_busy : (begins : BeginsSector first false false old new) (b : Bool) → new ≡ begun_if b first false false begins.between old → is_under_way new.stage ≡ true
    by_busy begins false is = absurd (stays (ap (λ front. front.stage) is))
    by_busy begins true is = ap (λ front. is_under_way front.stage) is

    by_seek : (b : Bool) → StartsIf b first old new → is_under_way new.stage ≡ true
    by_seek true seeks = by_idle seeks (is_idle seeks.between.controller) seeks.begun
    by_seek false begins = by_busy begins (is_executing begins.between.controller.phase) begins.begun

first_under : (first : Transfer) (start begun : Front) → Begins first start begun → is_under_way begun.stage ≡ true
first_under first start begun begins = starts_under first start begun begins.stays (given_starts first start begun begins.ready begins.gives)

-- what is then under way is of the command's first sector
pub begun_records : (stage : FrontStage) (first : Transfer) (fdc : Fdc) → ServesAt stage first (nothing_moved false) fdc → is_under_way stage ≡ true → HasByteNumbers stage → HasByteRecords first
begun_records Through first fdc now under bytes = absurd now
begun_records (Telling results) first fdc now under bytes = absurd (false≢true under)
begun_records (Seeking at counted) first fdc (here, nothing) under bytes = subst HasByteRecords here bytes
begun_records (Moving moving) first fdc (here, counts, carries) under bytes = subst HasByteRecords here bytes

-- ---- the whole command

some_moves : (left sectors n : ℕ) → 1 ≤ left → 1 ≤ sectors → left + 65536 * sectors ≤ n + 65536 → 1 ≤ n
some_moves left sectors n some one all = omega arith

-- while the command is under way, at least one device step is left
pub lasts_some : (n : ℕ) (stage : FrontStage) (first : Transfer) (history : History) (fdc : Fdc) → ServesAt stage first history fdc → LastsAt n stage fdc → is_under_way stage ≡ true → 1 ≤ n
lasts_some n Through first history fdc now was under = absurd was
lasts_some n (Telling results) first history fdc now was under = absurd (false≢true under)
lasts_some n (Seeking at counted) first history fdc now was under = omega arith
lasts_some n (Moving moving) first history fdc (here, counts, carries) was under =
    some_moves (steps_left fdc.phase) (sectors_from moving.transfer) n (left_some fdc.phase carries.busy was.counted) (sectors_some moving.transfer) was.within

less_by : (n m : ℕ) → 1 ≤ n - m → m < n
less_by n m some = omega arith

pub command_within : (first : Transfer) (start begun end : Front) (calls : List Call) → Begins first start begun → HasByteNumbers begun.stage → IsInRange begun.adapter.controller → AreWithin calls begun end
    → is_under_way end.stage ≡ true → steps_in calls < most_steps first
command_within first start begun end calls begins bytes range are under =
    let serves = begins_served first start begun begins in
    let records = begun_records begun.stage first begun.adapter.controller serves.now (first_under first start begun begins) bytes in
    let behind = calls_serve calls first (nothing_moved false) begun end are serves in
    let lasts = calls_last calls (most_steps first) first (nothing_moved false) begun end are serves (first_lasts first start begun begins (λ more. records) range) in
    less_by (most_steps first) (steps_in calls) (lasts_some (most_steps first - steps_in calls) end.stage first behind.history end.adapter.controller behind.serves.now lasts under)

told_by : (stage : FrontStage) (first : Transfer) (history : History) (end : Front) → end.stage ≡ stage → ServesAt stage first history end.adapter.controller → (is_under_way stage ≡ true → ⊥) → HasResults end
told_by Through first history end is now over = absurd now
told_by (Telling results) first history end is now over = (results, is)
told_by _ first history end is now over = absurd (over refl)

not_both : (n m : ℕ) → n < m → m ≤ n → ⊥
not_both n m less more = omega arith

pub command_told : (first : Transfer) (start begun end : Front) (calls : List Call) → Begins first start begun → HasByteNumbers begun.stage → IsInRange begun.adapter.controller → AreWithin calls begun end
    → most_steps first ≤ steps_in calls → HasResults end
command_told first start begun end calls begins bytes range are many =
    let behind = calls_serve calls first (nothing_moved false) begun end are (begins_served first start begun begins) in
    told_by end.stage first behind.history end refl behind.serves.now
    (λ under. not_both (steps_in calls) (most_steps first) (command_within first start begun end calls begins bytes range are under) many)
