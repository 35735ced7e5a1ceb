-- After the terminal count no byte passes, and no further sector begins.
use Rattle.std.proofs.Common.{◌≡◌, inl, inr, ℕ, ◌+◌, ◌-◌, ◌==◌, nat_lt, Bool, true, false, not, ◌&&◌, ◌||◌, Option, Some, None, List, [], ◌∷◌, ◌++◌, length, if◌then◌else◌, refl, sym, ◌∙◌, ap, subst}
use Rattle.laws_chip.proofs.Common.{and_parts, eqb-true, false≢true, DriveState, at_index, Fifo, wants, Past, ReadOutcome, Ending, Done, Overrun, has_ended_seek, WriteNext, On, needs_byte, phase_told, task_told, MayReadIn, MayReadTask, Sent, ending_of, is_listening, is_read, is_reading, moves_bytes, MayWriteIn, MayWriteTask, Phase, Execute, Result, Task, ReadTask, WriteTask, Format, Reading, Writing, asking_told, fifo_told, to_memory_of, told_count, ExecutesTask, is_executing, resets, after_heard, at_stage, gone_on_reading, is_full, over_or_on, pushed, asks, finished, is_gated, polled, StepsNowhere, TaskStepsNowhere, WordTime, Wrote, Stopped, after_time, ending_told, given_up, mark_of, WritesIn, WritesTask, WriteDoes, after_next, without_byte, Fdc, AdapterState, StepsAdapter, WritesAdapter, lines_at, Front, GivesAt, TakesAt, WritesFront, begun_if, count_told, moving_of, told_front, with_controller, EndsIf, EndsSector, FollowsStep, MovesOn, SeeksOn, is_unwanted, judged_if, passed_over_if, Operation, Read, Write, MovingSector, FrontStage, Through, Seeking, Moving, Telling, Transfer, AreWithin, Changes, Counts, Gather, Gives, Grows, Steps, Takes, passed_in_all, History, MayMove, Serves, ServesAt, history_counted, history_ended, history_given, history_moved, history_sought, history_stepped, history_taken, passed_in, passed_out, FollowsWord as Follows, phases_is_moving as is_moving, phases_is_over as is_over, Taking as Command, TaskReadId as ReadId, front_reset_if as reset_if, WriteNextEnded as Ended, SectorCallsCall as Call, SectorCallsDoes as Does, SectorCallsWrites as Writes, chip_passed_by as passed_by}
use Rattle.laws_chip.proofs.Called.{call_serves}
use Rattle.laws_chip.proofs.Served.{counts_serve}
use Rattle.laws_chip.proofs.Known.{at_drive, clash, polled_by, port_same}
use Rattle.laws_chip.proofs.Courses.{ignored, served_on}
use Rattle.fdc_stages.specs.Readings as heard

-- ---- the controller

-- the terminal count came to this read or write, and no byte is asked for. The FIFO of a read is empty
abbrev MutedTask : Task → Bool → List ℕ → Type 0
MutedTask (ReadTask reading) asking bytes = (reading.counted ≡ true) × (asking ≡ false) × (bytes ≡ [])
MutedTask (WriteTask writing) asking bytes = (writing.counted ≡ true) × (asking ≡ false)
MutedTask _ asking bytes = ⊥

abbrev MutedIn : Phase → Bool → List ℕ → Type 0
MutedIn (Execute execution) asking bytes = MutedTask execution.task asking bytes
MutedIn _ asking bytes = Unit {0}

abbrev Muted : Fdc → Type 0
Muted fdc = MutedIn fdc.phase fdc.asking fdc.fifo.bytes

-- what it executes, if anything, is a read or a write
abbrev IsKindTask : Task → Type 0
IsKindTask (ReadTask reading) = Unit {0}
IsKindTask (WriteTask writing) = Unit {0}
IsKindTask _ = ⊥

abbrev IsKind : Phase → Type 0
IsKind (Execute execution) = IsKindTask execution.task
IsKind _ = Unit {0}

kind_of : (operation : Operation) (past : Past) (sent : Sent) (fdc : Fdc) → MayMove operation past sent fdc → IsKind fdc.phase
kind_of (Read wanted skip) past sent fdc was = by_phase fdc.phase was
  where
    by_task : (task : Task) (h s : ℕ) → MayReadTask past sent h s task fdc.asking fdc.fifo.bytes → IsKindTask task
    by_task (ReadTask reading) h s was = tt
    by_task _ h s was = absurd was

    by_phase : (phase : Phase) → MayReadIn past sent phase fdc.asking fdc.fifo.bytes → IsKind phase
    by_phase (Execute execution) was = by_task execution.task execution.head_drive execution.steps was
    by_phase _ was = tt
kind_of (Write deleted) past sent fdc was = by_phase fdc.phase was
  where
    by_task : (task : Task) (h s : ℕ) → MayWriteTask past sent deleted h s task fdc.asking fdc.fifo → IsKindTask task
    by_task (WriteTask writing) h s was = tt
    by_task _ h s was = absurd was

    by_phase : (phase : Phase) → MayWriteIn past sent deleted phase fdc.asking fdc.fifo → IsKind phase
    by_phase (Execute execution) was = by_task execution.task execution.head_drive execution.steps was
    by_phase _ was = tt

-- the terminal count makes the task silent
told_task : (task : Task) (asking : Bool) (fifo : Fifo) → IsKindTask (task_told task) → MutedTask (task_told task) (asking_told (moves_bytes task) asking) (fifo_told (is_read task) fifo).bytes
told_task (ReadTask reading) asking fifo kind = (refl, refl, refl)
told_task (WriteTask writing) asking fifo kind = (refl, refl)
told_task _ asking fifo kind = absurd kind

told_muted : (fdc : Fdc) → IsKind (phase_told fdc.phase) → Muted (told_count fdc)
told_muted fdc kind = by_phase fdc.phase kind
  where
    by_phase : (phase : Phase) → IsKind (phase_told phase) → MutedIn (phase_told phase) (asking_told (is_moving phase) fdc.asking) (fifo_told (is_reading phase) fdc.fifo).bytes
    by_phase Command kind = tt
    by_phase (Result answer) kind = tt
    by_phase (Execute execution) kind = told_task execution.task fdc.asking fdc.fifo kind

muted_task : (task : Task) (asking : Bool) (bytes : List ℕ) → MutedTask task asking bytes → IsKindTask (task_told task)
muted_task (ReadId search) asking bytes was = absurd was
muted_task (Format formatting) asking bytes was = absurd was
muted_task _ asking bytes was = tt

muted_kind : (phase : Phase) (asking : Bool) (bytes : List ℕ) → MutedIn phase asking bytes → IsKind (phase_told phase)
muted_kind (Execute execution) asking bytes was = muted_task execution.task asking bytes was
muted_kind _ asking bytes was = tt

kind_task : (task : Task) → IsKindTask task → IsKindTask (task_told task)
kind_task (ReadId search) kind = absurd kind
kind_task (Format formatting) kind = absurd kind
kind_task _ kind = tt

kind_told : (phase : Phase) → IsKind phase → IsKind (phase_told phase)
kind_told (Execute execution) kind = kind_task execution.task kind
kind_told _ kind = tt

-- such a task asks for no byte
asks_task : (task : Task) (asking : Bool) (bytes : List ℕ) → MutedTask task asking bytes → asking ≡ false
asks_task (ReadId search) asking bytes was = absurd was
asks_task (Format formatting) asking bytes was = absurd was
asks_task _ asking bytes was = was.1

muted_asks : (phase : Phase) (asking : Bool) (bytes : List ℕ) → is_executing phase ≡ true → MutedIn phase asking bytes → asking ≡ false
muted_asks (Execute execution) asking bytes busy was = asks_task execution.task asking bytes was
muted_asks _ asking bytes busy was = absurd (false≢true busy)

-- ---- a device step

none_and : (a b : Bool) → a ≡ false → (a && b) ≡ false
none_and true b is = absurd (false≢true (sym is))
none_and false b is = refl

some_or : (a b : Bool) → a ≡ true → not (a || b) ≡ false
some_or true b is = refl
some_or false b is = absurd (false≢true is)

fetches_none : (asking ended : Bool) (fifo : Fifo) → fifo.bytes ≡ [] → wants true asking ended fifo ≡ false
fetches_none asking ended fifo none = none_and (not (length fifo.bytes == 0)) _ (ap (λ (bytes : List ℕ). not (length bytes == 0)) none)

reading_on : (head_drive steps : ℕ) (reading : Reading) (old : Fdc) → reading.counted ≡ true → old.fifo.bytes ≡ [] → Muted (gone_on_reading head_drive steps reading old)
reading_on head_drive steps reading old counted none = by_ending (ending_of reading) (length old.fifo.bytes == 0)
  where
    by_ending : (ending : Option Ending) (empty : Bool) → Muted (over_or_on ending empty head_drive steps reading old)
    by_ending None empty = (counted, fetches_none old.asking (is_over reading.stage) old.fifo none, none)
    by_ending (Some ending) true = tt
    by_ending (Some ending) false = (counted, fetches_none old.asking (is_over reading.stage) old.fifo none, none)

heard_muted : (head_drive steps : ℕ) (reading : Reading) (after : ReadOutcome) (old : Fdc) → reading.counted ≡ true → old.fifo.bytes ≡ [] → Muted (after_heard head_drive steps reading after old)
heard_muted head_drive steps reading (heard.On stage) old counted none = reading_on head_drive steps (at_stage reading stage) old counted none
heard_muted head_drive steps reading (heard.Byte stage value) old counted none =
    let same = at_stage reading stage in
    let other = if is_full old then finished Overrun head_drive reading.wanted.key old else gone_on_reading head_drive steps same (pushed value old) in
    subst (λ b. Muted (if b then gone_on_reading head_drive steps same old else other)) (sym counted) (reading_on head_drive steps same old counted none)
heard_muted head_drive steps reading (heard.Ended ending) old counted none = tt

next_muted : (head_drive steps : ℕ) (writing : Writing) (next : WriteNext) (old : Fdc) → writing.counted ≡ true → Muted (after_next head_drive steps writing next old)
next_muted head_drive steps writing (On stage) old counted = (counted, (none_and _ _ (some_or writing.counted _ counted)))
next_muted head_drive steps writing (Ended ending) old counted = tt

writes_muted : (time : WordTime) (head_drive steps : ℕ) (writing : Writing) (old : Fdc) (before : DriveState) (new : Fdc) → WriteDoes time head_drive steps writing old before new → writing.counted ≡ true → Muted new
writes_muted (Wrote opened closed index word) head_drive steps writing old before new does counted =
    subst Muted (sym does.after_is) (next_muted head_drive (steps + 1) writing does.next (without_byte (needs_byte writing.stage) old) counted)
writes_muted Stopped head_drive steps writing old before new does counted = subst Muted (sym does.after_is) tt
writes_muted _ head_drive steps writing old before new (due, does) counted = subst Muted (sym does.after_is) (next_muted head_drive (steps + 1) writing does.next old counted)

polled_bytes : (old : Fdc) → (polled old).fifo.bytes ≡ old.fifo.bytes
polled_bytes old = polled_by (λ (fdc : Fdc). fdc.fifo.bytes ≡ old.fifo.bytes) old refl refl

-- the same, by what the controller executes
listens_task : (task : Task) (h s : ℕ) (asking : Bool) (bytes : List ℕ) (polls new : Fdc) (index : Bool) (word : ℕ) → MutedTask task asking bytes → polls.fifo.bytes ≡ bytes
    → ExecutesTask (is_listening task) h s task index word polls new → ((writing : Writing) → task ≡ WriteTask writing → writing.counted ≡ true → Muted new) → Muted new
listens_task (ReadTask reading) h s asking bytes polls new index word was same executes writes = elim executes [
  | inl (last, is) ↦ subst Muted (sym is) tt
  | inr (few, (after, hears, is)) ↦ subst Muted (sym is) (heard_muted h (s + 1) reading after polls was.0 (same ∙ was.2))
]
listens_task (WriteTask writing) h s asking bytes polls new index word was same executes writes = writes writing refl was.0
listens_task _ h s asking bytes polls new index word was same executes writes = absurd was

-- what a write's step is
abbrev MutesWrite : Phase → Fdc → Type 0
MutesWrite (Execute execution) new = (writing : Writing) → execution.task ≡ WriteTask writing → writing.counted ≡ true → Muted new
MutesWrite _ new = Unit {0}

listens_muted : (phase : Phase) (old polls new : Fdc) (index : Bool) (word : ℕ) → is_executing phase ≡ true → MutedIn phase old.asking old.fifo.bytes → polls.fifo.bytes ≡ old.fifo.bytes
    → Follows phase polls index word old new → MutesWrite phase new → Muted new
listens_muted (Execute execution) old polls new index word busy was same follows writes =
    listens_task execution.task execution.head_drive execution.steps old.asking old.fifo.bytes polls new index word was same follows.executes writes
listens_muted _ old polls new index word busy was same follows writes = absurd (false≢true busy)

writes_in : (phase : Phase) (asking : Bool) (fifo : Fifo) (polls : Fdc) (before after : DriveState) (new : Fdc) → WritesIn phase asking fifo polls before after new → MutesWrite phase new
writes_in (Execute execution) asking fifo polls before after new writes = λ writing is counted.
    let step = subst (λ task. WritesTask task execution.head_drive execution.steps asking fifo polls before after new) is writes in
    writes_muted step.step.does.time execution.head_drive execution.steps writing polls before new step.step.does.does counted
writes_in _ asking fifo polls before after new writes = tt

nowhere_in : (phase : Phase) (polls new : Fdc) → StepsNowhere phase polls new → MutesWrite phase new
nowhere_in (Execute execution) polls new does = λ writing is counted.
    elim (subst (λ task. TaskStepsNowhere task execution.head_drive execution.steps polls new) is does) [
      | inl (last, after) ↦ subst Muted (sym after) tt
      | inr (few, (next, hears, after)) ↦ subst Muted (sym after) (next_muted execution.head_drive (execution.steps + 1) writing next polls counted)
    ]
nowhere_in _ polls new does = tt

step_muted : (old new : AdapterState) → StepsAdapter old new → is_executing old.controller.phase ≡ true → Muted old.controller → Muted new.controller
step_muted old new steps busy was =
    let fdc = old.controller in
    let listens = listens_muted fdc.phase fdc (polled fdc) new.controller in
    at_drive old new steps
    (λ before after works. listens (at_index before) works.reads.word busy was (polled_bytes fdc) works.reads.follows
    (writes_in fdc.phase fdc.asking fdc.fifo (polled fdc) before after new.controller works.writes))
    (λ alone. listens false 0 busy was (polled_bytes fdc) alone.reads (nowhere_in fdc.phase (polled fdc) new.controller alone.nowhere))

-- ---- the front

-- the terminal count came, and no byte is asked for
abbrev IsSilentAt : FrontStage → Fdc → Type 0
IsSilentAt (Seeking at counted) fdc = counted ≡ true
IsSilentAt (Moving moving) fdc = (moving.counted ≡ true) × Muted fdc
IsSilentAt _ fdc = Unit {0}

abbrev IsSilent : Front → Type 0
IsSilent front = IsSilentAt front.stage front.adapter.controller

stage_silent : (stage : FrontStage) (new : Front) → new.stage ≡ stage → IsSilentAt stage new.adapter.controller → IsSilent new
stage_silent stage new is silent = subst (λ s. IsSilentAt s new.adapter.controller) (sym is) silent

-- after a device step of a sector no further sector begins
record GoesSilent (history now : History) (new : Front) : Type 0 where
  silent : IsSilent new
  parts : now.parts ≡ history.parts

module _ (history : History) (past : Past) (moving : MovingSector) (counted : moving.counted ≡ true) (new : Front) where
  silent_ends : (was : Option Bool) (ending : Ending) (mark : Option Bool) (old : Front) → EndsSector was moving ending old new → GoesSilent history (history_moved (Some ending) moving mark past history) new
  silent_ends was (Done marked) mark old ends =
      let none = (none_and _ _ (none_and (not moving.counted) _ (ap not counted))) in
      let is : EndsIf false moving marked old new = subst (λ b. EndsIf b moving marked old new) none ends in
      record { silent = stage_silent _ new (ap (λ f. f.stage) is) tt; parts = ap (λ b. (history_ended b moving.transfer marked past history).parts) none }
  silent_ends was ending mark old ends = record { silent = stage_silent _ new (ap (λ f. f.stage) ends) tt; parts = refl }

  silent_passes : (b : Bool) (old : Front) → old.stage ≡ Moving moving → Muted old.adapter.controller → new ≡ passed_over_if b moving old → IsSilent new
  silent_passes false old stage_is was is = subst IsSilent (sym is) (subst (λ s. IsSilentAt s old.adapter.controller) (sym stage_is) (counted, was))
  silent_passes true old stage_is was is =
      subst IsSilent (sym is) (counted, told_muted old.adapter.controller (muted_kind old.adapter.controller.phase old.adapter.controller.asking old.adapter.controller.fifo.bytes was))

  silent_moves : (was : Option Bool) (ending : Option Ending) (old : Front) → old.stage ≡ Moving moving → Muted old.adapter.controller → MovesOn was ending moving old new
      → GoesSilent history (history_moved ending moving (mark_of old.adapter.controller) past history) new
  silent_moves was None old stage_is muted does = record { silent = silent_passes (is_unwanted moving (mark_of old.adapter.controller)) old stage_is muted does; parts = refl }
  silent_moves was (Some ending) old stage_is muted does = silent_ends was ending (mark_of old.adapter.controller) (record old { adapter = with_controller (given_up old.adapter.controller) old.adapter }) does

-- what a served command executes is a read or a write
served_kind : (first : Transfer) (history : History) (moving : MovingSector) (new : Front) → Serves first history new → new.stage ≡ Moving moving → IsKind new.adapter.controller.phase
served_kind first history moving new serves is =
    let (here, counts, carries) = subst (λ s. ServesAt s first history new.adapter.controller) is serves.now in
    kind_of first.opcode.operation history.past _ new.adapter.controller carries.moves

-- ---- the calls

-- what is known after one call: no byte passed in it, and no sector was over
record StaysSilent (call : Call) (history now : History) (new : Front) : Type 0 where
  silent : IsSilent new
  parts : now.parts ≡ history.parts
  none : passed_by call ≡ []

same_silent : (call : Call) (history : History) (old new : Front) → passed_by call ≡ [] → new ≡ old → IsSilent old → StaysSilent call history history new
same_silent call history old new none is was = record { silent = subst IsSilent (sym is) was; parts = refl; none = none }

module _ (first : Transfer) (served history : History) where
  -- where the next front is served too
  silent_step : (stage : FrontStage) (time : WordTime) (old : Front) (between : AdapterState) (new : Front) → old.stage ≡ stage → ServesAt stage first served old.adapter.controller → IsSilentAt stage old.adapter.controller
      → StepsAdapter old.adapter between → FollowsStep (mark_of old.adapter.controller) stage (record old { adapter = between }) new → (then_served : History) → Serves first then_served new → (new.stage ≡ Through → ⊥)
      → GoesSilent history (history_stepped stage time between.controller history) new
  silent_step Through time old between new is now was steps follows then_served serves stays = absurd now
  silent_step (Telling results) time old between new is now was steps follows then_served serves stays =
      record { silent = stage_silent (Telling results) new (ap (λ f. f.stage) follows ∙ is) tt; parts = refl }
  silent_step (Moving moving) time old between new is (here, counts, carries) (counted, muted) steps follows then_served serves stays =
      silent_moves history (after_time time history.past) moving counted new (mark_of old.adapter.controller) (judged_if moving (ending_told between.controller)) (record old { adapter = between }) is (step_muted old.adapter between steps carries.busy muted) follows
  silent_step (Seeking at counted) time old between new is now was steps follows then_served serves stays = by_sought (has_ended_seek between.controller.seeks) follows
    where
      by_busy : (b : Bool) (adapter : AdapterState) (front : Front) → new ≡ begun_if b at counted false adapter front → IsSilent new
      by_busy false adapter front is = absurd (stays (ap (λ f. f.stage) is))
      by_busy true adapter front is =
          let stage_now = ap (λ f. f.stage) is in
          let told : new ≡ begun_if true at true false adapter front = is ∙ ap (λ c. begun_if true at c false adapter front) was in
          let kind = subst (λ f. IsKind f.adapter.controller.phase) told (served_kind first then_served (moving_of at counted false) new serves stage_now) in
          subst IsSilent (sym told) (refl, told_muted adapter.controller kind)

      by_sought : (b : Bool) → SeeksOn b at counted (record old { adapter = between }) new → GoesSilent history (history_sought b counted history) new
      by_sought false does = record { silent = stage_silent (Seeking at counted) new (ap (λ f. f.stage) does ∙ is) was; parts = refl }
      by_sought true begins = record { silent = by_busy (is_executing begins.between.controller.phase) begins.between _ begins.begun; parts = refl }

  silent_take : (stage : FrontStage) (byte : Option ℕ) (old new : Front) → ServesAt stage first served old.adapter.controller → IsSilentAt stage old.adapter.controller → IsSilent old → TakesAt stage old byte new
      → StaysSilent (Takes byte) history (history_taken stage byte history) new
  silent_take Through byte old new now was silent takes = absurd now
  silent_take (Moving moving) None old new now was silent (quiet, is) = same_silent (Takes None) history old new refl is silent
  silent_take (Moving moving) (Some byte) old new (here, counts, carries) (counted, muted) silent (up, byte_is, is) =
      let fdc = old.adapter.controller in
      let (some, asked) = and_parts (nat_lt 0 moving.left) (asks fdc && to_memory_of fdc) up in
      clash fdc.asking (muted_asks fdc.phase fdc.asking fdc.fifo.bytes carries.busy muted) (and_parts (is_gated fdc) fdc.asking (and_parts (asks fdc) (to_memory_of fdc) asked).0).1
  silent_take stage byte old new now was silent takes = same_silent (Takes byte) history old new (ap passed_out takes.0) takes.1 silent

  silent_give : (stage : FrontStage) (byte : ℕ) (given : Bool) (old new : Front) → ServesAt stage first served old.adapter.controller → IsSilentAt stage old.adapter.controller → IsSilent old → GivesAt stage byte old given new
      → StaysSilent (Gives byte given) history (history_given stage byte given history) new
  silent_give Through byte given old new now was silent gives = absurd now
  silent_give (Moving moving) byte false old new now was silent (quiet, is) = same_silent (Gives byte false) history old new refl is silent
  silent_give (Moving moving) byte true old new (here, counts, carries) (counted, muted) silent (up, is) =
      let fdc = old.adapter.controller in
      let (some, asked) = and_parts (nat_lt 0 moving.left) (asks fdc && not (to_memory_of fdc)) up in
      clash fdc.asking (muted_asks fdc.phase fdc.asking fdc.fifo.bytes carries.busy muted) (and_parts (is_gated fdc) fdc.asking (and_parts (asks fdc) (not (to_memory_of fdc)) asked).0).1
  silent_give stage byte given old new now was silent (none, is) = same_silent (Gives byte given) history old new (ap (λ g. passed_in g byte) none) is silent

  -- the terminal count comes again, or for the first time
  silent_count : (stage : FrontStage) (old new : Front) → old.stage ≡ stage → ServesAt stage first served old.adapter.controller → new ≡ count_told stage old → StaysSilent Counts history (history_counted stage history) new
  silent_count Through old new here_is now is = absurd now
  silent_count (Telling results) old new here_is now is =
      record { silent = stage_silent (Telling results) new (ap (λ f. f.stage) is ∙ here_is) tt; parts = refl; none = refl }
  silent_count (Seeking at counted) old new here_is now is = record { silent = stage_silent (Seeking at true) new (ap (λ f. f.stage) is) refl; parts = refl; none = refl }
  silent_count (Moving moving) old new here_is (here, counts, carries) is = record {
    silent = subst IsSilent (sym is) (refl, told_muted old.adapter.controller (kind_told old.adapter.controller.phase (kind_of first.opcode.operation served.past _ old.adapter.controller carries.moves)));
    parts = refl;
    none = refl;
  }

  -- the stage stays, and what the controller executes stays silent
  silent_kept : (stage : FrontStage) (call : Call) (old new : Front) → passed_by call ≡ [] → IsSilentAt stage old.adapter.controller → new.stage ≡ stage
      → (Muted old.adapter.controller → Muted new.adapter.controller) → StaysSilent call history history new
  silent_kept (Moving moving) call old new none (counted, muted) is same = record { silent = stage_silent (Moving moving) new is (counted, same muted); parts = refl; none = none }
  silent_kept stage call old new none was is same = record { silent = stage_silent stage new is was; parts = refl; none = none }

  silent_write : (port value : ℕ) (old new : Front) → Serves first served old → IsSilent old → (new.stage ≡ Through → ⊥) → WritesFront port value old new → StaysSilent (Writes port value) history history new
  silent_write port value old new serves was stays writes = by_port (port == 0x3F5) refl
    where
      by_reset : (b : Bool) → resets port value ≡ b → (port == 0x3F5) ≡ false → WritesAdapter port value old.adapter new.adapter → new ≡ record (reset_if b old) { adapter = new.adapter } → StaysSilent (Writes port value) history history new
      by_reset true reset other wrote is = absurd (stays (ap (λ f. f.stage) is))
      by_reset false reset other wrote is =
          let same = port_same port value (lines_at old.adapter) old.adapter.controller new.adapter.controller wrote.writes other reset in
          silent_kept old.stage (Writes port value) old new refl was (ap (λ f. f.stage) is)
          (λ muted. subst (λ p. MutedIn p new.adapter.controller.asking new.adapter.controller.fifo.bytes) (sym same.phase)
          (subst (λ a. MutedIn old.adapter.controller.phase a new.adapter.controller.fifo.bytes) (sym same.asking)
          (subst (λ f. MutedIn old.adapter.controller.phase old.adapter.controller.asking f.bytes) (sym same.fifo) muted)))

      by_port : (b : Bool) → (port == 0x3F5) ≡ b → StaysSilent (Writes port value) history history new
      by_port true is = same_silent (Writes port value) history old new refl (writes.bytes (eqb-true port 0x3F5 is)) was
      by_port false is = let (wrote, after) = writes.others is in by_reset (resets port value) refl is wrote after

  silent_call : (call : Call) (grown : History) (old new : Front) (does : Does call old new) → (new.stage ≡ Through → ⊥) → Serves first served old → IsSilent old → (then_served : History) → Serves first then_served new
      → Grows call old new does history grown → StaysSilent call history grown new
  silent_call Steps grown old new step stays serves was then_served then_serves (time, passes, is) =
      let goes = silent_step old.stage time old step.between new refl serves.now was step.steps step.follows then_served then_serves stays in
      record { silent = goes.silent; parts = ap (λ h. h.parts) is ∙ goes.parts; none = refl }
  silent_call (Takes byte) grown old new does stays serves was then_served then_serves is =
      subst (λ h. StaysSilent (Takes byte) history h new) (sym is) (silent_take old.stage byte old new serves.now was was does)
  silent_call (Gives byte given) grown old new does stays serves was then_served then_serves is =
      subst (λ h. StaysSilent (Gives byte given) history h new) (sym is) (silent_give old.stage byte given old new serves.now was was does)
  silent_call Counts grown old new does stays serves was then_served then_serves is =
      subst (λ h. StaysSilent Counts history h new) (sym is) (silent_count old.stage old new refl serves.now does)
  silent_call (Writes port value) grown old new does stays serves was then_served then_serves is =
      subst (λ h. StaysSilent (Writes port value) history h new) (sym is) (silent_write port value old new serves was stays does)
  silent_call Changes grown old new does stays serves was then_served then_serves is =
      subst (λ h. StaysSilent Changes history h new) (sym is)
      (silent_kept old.stage Changes old new refl was does.stage (λ muted. subst (λ (f : Fdc). Muted f) (sym does.controller) muted))
  silent_call call grown old new does stays serves was then_served then_serves is =
      subst (λ h. StaysSilent call history h new) (sym is) (same_silent call history old new refl (ignored call old new tt does (served_on first served old serves) stays) was)

-- no byte passes, and no sector is over
pub calls_silent : (calls : List Call) (first : Transfer) (served history grown : History) (old new : Front) (within : AreWithin calls old new) → Serves first served old → IsSilent old
    → Gather calls old new within history grown → (passed_in_all calls ≡ []) × (grown.parts ≡ history.parts)
calls_silent [] first served history grown old new within serves was is = (refl, ap (λ h. h.parts) is)
calls_silent (call ∷ calls) first served history grown old new (between, does, within, rest) serves was (mid, grows, gather) =
    let one = call_serves call first served old between does within serves in
    let silent = silent_call first served history call mid old between does within serves was one.history one.serves grows in
    let more = calls_silent calls first one.history mid grown between new rest one.serves silent.silent gather in
    ((ap (λ bytes. bytes ++ (passed_in_all calls)) silent.none ∙ more.0), more.1 ∙ silent.parts)

-- where the terminal count is heard, the front becomes silent
pub count_silent : (first : Transfer) (served : History) (old : Front) → Serves first served old → IsSilent (told_front old)
count_silent first served old serves = (silent_count first served served old.stage old (told_front old) refl serves.now refl).silent

pub told_silent : (first : Transfer) (was history now : History) (start end : Front) (calls : List Call) → Serves first was start → (within : AreWithin calls (told_front start) end)
    → Gather calls (told_front start) end within history now → (passed_in_all calls ≡ []) × (now.parts ≡ history.parts)
told_silent first was history now start end calls serves within gather =
    let told = counts_serve start (told_front start) refl first was serves in
    calls_silent calls first (history_counted start.stage was) history now (told_front start) end within told.2 (count_silent first was start serves) gather
