-- What is known of the controller's own command for a sector, through device steps, transfers, the terminal count and
-- port accesses.
use Rattle.std.proofs.Common.{◌≡◌, ◌⊎◌, inl, inr, ℕ, zero, suc, ◌+◌, ◌≤◌, Bool, true, false, not, ◌&&◌, ◌==◌, if◌then◌else◌, Option, List, [], ◌∷◌, ◌++◌, refl, sym, ◌∙◌, ap, subst, arith}
use Rattle.laws_chip.proofs.Common.{false≢true, and_parts, eqb-true, DriveState, at_index, Chrn, Fifo, with_polls, Past, Late, is_open, opens, On, WriteStage, byte_out, taken_out, taken_in, told_count, to_memory_of, phase_told, Sent, MayReadIn, MayReadTask, gave, stepped, told_in, SeesTask, SeesUnder, SeesWord, after_step, is_executing, MovesIn, MovesTask, polled, DataRate, head_of, is_listening, is_reading, mark_of_phase, Writes, dor_resets, dsr_resets, resets, rate_chosen, asks, is_gated, is_held, reset, EndsIn, Rests, Stays, Works, StepsNowhere, TaskStepsNowhere, WritesNowhere, WordTime, IsTime, Saw, KeptOut, Wrote, Stopped, after_time, ending_told, mark_of, WritesIn, WritesTask, WriteDoes, after_next, MayWrite, MayWriteIn, MayWriteTask, took, Fdc, Lines, Phase, Execute, Task, ReadTask, WriteTask, Writing, out_reads, told_reads, in_writes, told_writes, writes_on, AdapterState, StepsAdapter, selected_at, IsNowhere, IsTimeOf, MayMove, PassesAt, StopsAtEnd, bytes_moved, Operation, Read, Write, FollowsWord as Follows, Taking as Command, Result as Telling, stages_is_due as is_due}
use Rattle.fdc_core.specs.Courses.{WorksAlone}
use Rattle.fdc_phases.proofs.AtFirst.{rule_room}
use Rattle.laws_chip.proofs.Marks.{EndsBadly, MarkStays, mark_then, step_bad, step_stays}
use Rattle.fdc_stages.specs.declared.writing.WriteStage.TheVariants as stage

pub clash : {A : Type 0} (b : Bool) → b ≡ false → b ≡ true → A
clash b is other = absurd (false≢true (sym is ∙ other))

pub either_way : {P : Type 0} (b : Bool) → (b ≡ true → P) → (b ≡ false → P) → P
either_way true set clear = set refl
either_way false set clear = clear refl

-- ---- a device step

-- the mark of a field that is read stays, and before the mark was met no byte passed
abbrev pub MarkGoes : Operation → List ℕ → Option Bool → Option Bool → Type 0
MarkGoes (Read _ _) bytes was now = MarkStays bytes was now
MarkGoes (Write _) bytes was now = Unit {0}

-- where a read ends with a wrong CRC, the mark of that field was known
abbrev pub BadGoes : Operation → Past → Chrn → Option Bool → Fdc → Type 0
BadGoes (Read _ _) past key was new = EndsBadly past key was new
BadGoes (Write _) past key was new = Unit {0}

-- after a device step the same is known, with the word that passed in the step added. `Is` holds of this word time. No
-- byte moved
pub record KnownOn (operation : Operation) (past : Past) (sent : Sent) (mark : Option Bool) (Is : WordTime → Type 0) (new : Fdc) : Type 0 where
  pub time : WordTime
  pub is : Is time
  pub bytes : bytes_moved operation (after_time time past) ≡ bytes_moved operation past
  pub counted : (after_time time past).counted ≡ past.counted
  pub moves : MayMove operation (after_time time past) sent new
  pub marks : MarkGoes operation (bytes_moved operation past) mark (mark_then mark new.phase)
  pub bad : BadGoes operation (after_time time past) sent.key mark new

known_as : (operation : Operation) (past : Past) (sent : Sent) (mark : Option Bool) (Is Was : WordTime → Type 0) (new : Fdc) → ((time : WordTime) → Was time → Is time)
    → KnownOn operation past sent mark Was new → KnownOn operation past sent mark Is new
known_as operation past sent mark Is Was new goes known = record {
  time = known.time;
  is = goes known.time known.is;
  bytes = known.bytes;
  counted = known.counted;
  moves = known.moves;
  marks = known.marks;
  bad = known.bad;
}

-- what holds with the poll and without it
pub polled_by : (P : Fdc → Type 0) (old : Fdc) → P old → P (record old { poll_due = false; interrupt = true; seeks = with_polls old.seeks }) → P (polled old)
polled_by P old stays comes = by_poll (old.poll_due && not (is_held old))
  where
    by_poll : (b : Bool) → P (if b then record old { poll_due = false; interrupt = true; seeks = with_polls old.seeks } else old)
    by_poll true = comes
    by_poll false = stays

-- the poll changes neither the phase nor the rate
pub polled_phase : (old : Fdc) → (polled old).phase ≡ old.phase
polled_phase old = polled_by (λ (fdc : Fdc). fdc.phase ≡ old.phase) old refl refl

pub polled_rate : (old : Fdc) → (polled old).rate ≡ old.rate
polled_rate old = polled_by (λ (fdc : Fdc). fdc.rate ≡ old.rate) old refl refl

-- which drive is selected
pub which_drive : (n : ℕ) → (n ≡ 0) ⊎ ((n ≡ 1) ⊎ (2 ≤ n))
which_drive zero = inl refl
which_drive (suc zero) = inr (inl refl)
which_drive (suc (suc n)) = inr (inr (omega arith))

-- whichever drive is selected, or none
pub at_drive : {P : Type 0} (old new : AdapterState) → StepsAdapter old new → ((before after : DriveState) → Works old.controller before new.controller after → P)
    → (WorksAlone old.controller new.controller → P) → P
at_drive old new steps of alone = elim (which_drive (selected_at old)) [
  | inl at ↦ of old.first new.first (steps.at_first at).0
  | inr (inl at) ↦ of old.second new.second (steps.at_second at).0
  | inr (inr at) ↦ alone (steps.at_none at).0
]

pub by_rests : {P : Type 0} (old new : AdapterState) → StepsAdapter old new → ((track0 : Bool) → Rests track0 (polled old.controller) new.controller → P) → P
by_rests old new steps of = at_drive old new steps (λ before after works. of (before.cylinder == 0) works.rests) (λ alone. of false alone.rests)

pub adapter_ends : (old new : AdapterState) → StepsAdapter old new → EndsIn old.controller.phase new.controller.phase
adapter_ends old new steps = at_drive old new steps (λ before after works. works.ends) (λ alone. alone.ends)

pub adapter_stays : (old new : AdapterState) → StepsAdapter old new → Stays old.controller new.controller
adapter_stays old new steps = at_drive old new steps (λ before after works. works.stays) (λ alone. alone.stays)

-- the same, with the word time that passes there
by_drive : {P : Type 0} (head : ℕ) (old new : AdapterState) → StepsAdapter old new
    → ((before after : DriveState) → Works old.controller before new.controller after
    → ((time : WordTime) → IsTime time old.controller.rate head before after × StopsAtEnd time new.controller → PassesAt (selected_at old) head time old new) → P)
    → (WorksAlone old.controller new.controller → ((time : WordTime) → IsNowhere time → PassesAt (selected_at old) head time old new) → P) → P
by_drive head old new steps of alone = elim (which_drive (selected_at old)) [
  | inl at ↦ of old.first new.first (steps.at_first at).0
      (λ time is. record { at_first = λ same. is; at_second = λ other. absurd (omega (arith, at, other)); at_none = λ more. absurd (omega (arith, at, more)) })
  | inr (inl at) ↦ of old.second new.second (steps.at_second at).0
      (λ time is. record { at_first = λ other. absurd (omega (arith, at, other)); at_second = λ same. is; at_none = λ more. absurd (omega (arith, at, more)) })
  | inr (inr at) ↦ alone (steps.at_none at).0
      (λ time is. record { at_first = λ other. absurd (omega (arith, at, other)); at_second = λ other. absurd (omega (arith, at, other)); at_none = λ same. is })
]

-- ---- a read

read_on : (wanted skip : Bool) (past : Past) (sent : Sent) (phase : Phase) (polls old new : Fdc) (index : Bool) (word : ℕ) (Is : WordTime → Type 0) → Is (Saw index word) → is_executing phase ≡ true
    → Follows phase polls index word old new → MayReadIn past sent phase old.asking old.fifo.bytes → KnownOn (Read wanted skip) past sent (mark_of_phase phase) Is new
read_on wanted skip past sent phase polls old new index word Is is busy follows was = record {
  time = Saw index word;
  is = is;
  bytes = refl;
  counted = refl;
  moves = subst (λ b. MayMove (Read wanted skip) (after_step b index word past) sent new) busy (follows.reads past sent was);
  marks = step_stays past sent index word polls new phase old busy follows was;
  bad = step_bad past sent index word polls new phase old busy follows was;
}

-- a read sees the word under its head, and lets it pass
read_seen : (past : Past) (sent : Sent) (phase : Phase) (asking : Bool) (fifo : List ℕ) (rate : DataRate) (fdc : Fdc) (before after : DriveState) (word : ℕ) → is_executing phase ≡ true
    → MayReadIn past sent phase asking fifo → SeesWord phase rate before word after → MovesIn phase fdc before after → IsTime (Saw (at_index before) word) rate (head_of sent.head_drive) before after
read_seen past sent Command asking fifo rate fdc before after word busy was sees moves = absurd was
read_seen past sent (Telling answer) asking fifo rate fdc before after word busy was sees moves = absurd (false≢true busy)
read_seen past sent (Execute execution) asking fifo rate fdc before after word busy was sees moves = in_task execution.task execution.head_drive execution.steps was sees moves
  where
    in_task : (task : Task) (head_drive steps : ℕ) → MayReadTask past sent head_drive steps task asking fifo → SeesTask (is_listening task) (head_of head_drive) rate before word after
        → MovesTask (is_listening task) before after → IsTime (Saw (at_index before) word) rate (head_of sent.head_drive) before after
    in_task (ReadTask reading) head_drive steps (asks, (told, was)) sees moves = record {
      index_is = refl;
      sees = subst (λ head_drive. SeesUnder rate (head_of head_drive) before word after) (ap (λ s. s.head_drive) was.sent_is) sees;
      passes = moves;
    }
    in_task _ head_drive steps was sees moves = absurd was

reads_on : (wanted skip : Bool) (past : Past) (sent : Sent) (old new : AdapterState) → StepsAdapter old new → is_executing old.controller.phase ≡ true
    → MayMove (Read wanted skip) past sent old.controller → KnownOn (Read wanted skip) past sent (mark_of old.controller) (λ time. IsTimeOf (Read wanted skip) time × PassesAt (selected_at old) (head_of sent.head_drive) time old new) new.controller
reads_on wanted skip past sent old new steps busy was =
    let fdc = old.controller in
    let head = head_of sent.head_drive in
    let Is : WordTime → Type 0 = λ time. IsTimeOf (Read wanted skip) time × PassesAt (selected_at old) head time old new in
    by_drive head old new steps
    (λ before after works at.
    let hears = works.reads in
    let index = at_index before in
    let moves = subst (λ phase. MovesIn phase (polled fdc) before after) (polled_phase fdc) works.drive in
    let seen = read_seen past sent fdc.phase fdc.asking fdc.fifo.bytes fdc.rate (polled fdc) before after hears.word busy was hears.sees moves in
    read_on wanted skip past sent fdc.phase (polled fdc) fdc new.controller index hears.word Is (tt, at (Saw index hears.word) (seen, tt)) busy hears.follows was)
    (λ alone at. read_on wanted skip past sent fdc.phase (polled fdc) fdc new.controller false 0 Is (tt, at (Saw false 0) (refl, refl)) busy alone.reads was)

-- ---- a write

pub time_taken : (time : WordTime) (past : Past) → (after_time time past).taken ≡ past.taken
time_taken (Saw index word) past = refl
time_taken (KeptOut index word) past = refl
time_taken (Wrote opened closed index word) past = refl
time_taken Stopped past = refl

pub time_counted : (time : WordTime) (past : Past) → (after_time time past).counted ≡ past.counted
time_counted (Saw index word) past = refl
time_counted (KeptOut index word) past = refl
time_counted (Wrote opened closed index word) past = refl
time_counted Stopped past = refl

module _ (deleted : Bool) (past : Past) (sent : Sent) (mark : Option Bool) where
  -- what a write's step is at the drive
  abbrev IsWriteAt : DataRate → DriveState → DriveState → Fdc → WordTime → Type 0
  IsWriteAt rate before after new time = IsTime time rate (head_of sent.head_drive) before after × StopsAtEnd time new

  pub write_stops : (time : WordTime) (head_drive steps : ℕ) (writing : Writing) (old : Fdc) (before : DriveState) (new : Fdc) → WriteDoes time head_drive steps writing old before new → StopsAtEnd time new
  write_stops Stopped head_drive steps writing old before new does = (does.ending, ap ending_told does.after_is)
  write_stops _ head_drive steps writing old before new does = tt

  write_task : (task : Task) (head_drive steps : ℕ) (asking : Bool) (fifo : Fifo) (polls : Fdc) (before after : DriveState) (new : Fdc) → WritesTask task head_drive steps asking fifo polls before after new
      → MayWriteTask past sent deleted head_drive steps task asking fifo → KnownOn (Write deleted) past sent mark (IsWriteAt polls.rate before after new) new
  write_task (WriteTask writing) head_drive steps asking fifo polls before after new writes (asks, (handed, was)) = record {
    time = writes.step.does.time;
    is = (
      subst (λ head_drive. IsTime writes.step.does.time polls.rate (head_of head_drive) before after) (ap (λ s. s.head_drive) was.sent_is) writes.step.does.is,
      write_stops writes.step.does.time head_drive steps writing polls before new writes.step.does.does,
    );
    bytes = time_taken writes.step.does.time past;
    counted = time_counted writes.step.does.time past;
    moves = writes.writes past sent deleted (asks, (handed, was));
    marks = tt;
    bad = tt;
  }
  write_task _ head_drive steps asking fifo polls before after new writes was = absurd was

  write_in : (phase : Phase) (asking : Bool) (fifo : Fifo) (polls : Fdc) (before after : DriveState) (new : Fdc) → is_executing phase ≡ true → WritesIn phase asking fifo polls before after new
      → MayWriteIn past sent deleted phase asking fifo → KnownOn (Write deleted) past sent mark (IsWriteAt polls.rate before after new) new
  write_in Command asking fifo polls before after new busy writes was = absurd was
  write_in (Telling answer) asking fifo polls before after new busy writes was = absurd (false≢true busy)
  write_in (Execute execution) asking fifo polls before after new busy writes was = write_task execution.task execution.head_drive execution.steps asking fifo polls before after new writes was

  -- ---- where no drive is selected

  by_time : (head_drive steps : ℕ) (writing : Writing) (old : Fdc) (before : DriveState) (new : Fdc) (time : WordTime) → IsNowhere time → WriteDoes time head_drive steps writing old before new
      → MayWriteTask past sent deleted head_drive steps (WriteTask writing) old.asking old.fifo → KnownOn (Write deleted) past sent mark IsNowhere new
  by_time head_drive steps writing old before new time is does was = record {
    time = time;
    is = is;
    bytes = time_taken time past;
    counted = time_counted time past;
    moves = writes_on time head_drive steps writing old before new does past sent deleted was;
    marks = tt;
    bad = tt;
  }

  -- while its gate is open, a write stays at its stage
  waits_open : (head_drive steps : ℕ) (writing : Writing) (old : Fdc) → MayWriteTask past sent deleted head_drive steps (WriteTask writing) old.asking old.fifo
      → MayWrite (stepped past) sent deleted (after_next head_drive (steps + 1) writing (On writing.stage) old)
  waits_open head_drive steps writing old (asks, (handed, was)) = (
    rule_room writing.counted old.asking old.fifo,
    (
      handed,
      record {
        sent_is = was.sent_is;
        deleted_is = was.deleted_is;
        counted_is = was.counted_is;
        steps_are = ap (λ n. n + 1) was.steps_are;
        fresh = λ none. absurd (omega arith);
        writes = was.writes;
        handed_is = was.handed_is;
      },
    ),
  )

which_word : (now : WriteStage) → (is_due now ≡ false) ⊎ ((opens now ≡ true) ⊎ (is_open now ≡ true))
which_word (stage.Gap zero) = inr (inl refl)
which_word (stage.Window window) = inr (inr refl)
which_word _ = inl refl

module _ (deleted : Bool) (past : Past) (sent : Sent) (mark : Option Bool) (before : DriveState) where
  nowhere_write : (head_drive steps : ℕ) (writing : Writing) (old new : Fdc) → WritesNowhere head_drive steps writing old new
      → MayWriteTask past sent deleted head_drive steps (WriteTask writing) old.asking old.fifo → KnownOn (Write deleted) past sent mark IsNowhere new
  nowhere_write head_drive steps writing old new (inl (last, is)) was =
      by_time deleted past sent mark head_drive steps writing old before new Stopped tt (record { ending = Late; stops = last; after_is = is }) was
  nowhere_write head_drive steps writing old new (inr (few, (next, hears, is))) was = elim (which_word writing.stage) [
    | inl due ↦ by_time deleted past sent mark head_drive steps writing old before new (Saw false 0) (refl, refl) (due, record { few = few; next = next; hears = hears; after_is = is }) was
    | inr (inl first) ↦ by_time deleted past sent mark head_drive steps writing old before new (KeptOut false 0) (refl, refl) (first, record { few = few; next = next; hears = hears; after_is = is }) was
    | inr (inr opened) ↦ record {
      time = Stopped;
      is = tt;
      bytes = refl;
      counted = refl;
      moves = subst (MayWrite (stepped past) sent deleted) (sym (is ∙ ap (λ n. after_next head_drive (steps + 1) writing n old) (hears.3 opened)))
          (waits_open deleted past sent mark head_drive steps writing old was);
      marks = tt;
      bad = tt;
    }
  ]

  nowhere_task : (task : Task) (head_drive steps : ℕ) (old new : Fdc) → TaskStepsNowhere task head_drive steps old new
      → MayWriteTask past sent deleted head_drive steps task old.asking old.fifo → KnownOn (Write deleted) past sent mark IsNowhere new
  nowhere_task (WriteTask writing) head_drive steps old new does was = nowhere_write head_drive steps writing old new does was
  nowhere_task _ head_drive steps old new does was = absurd was

  nowhere_in : (phase : Phase) (old new : Fdc) → is_executing phase ≡ true → StepsNowhere phase old new → MayWriteIn past sent deleted phase old.asking old.fifo
      → KnownOn (Write deleted) past sent mark IsNowhere new
  nowhere_in Command old new busy does was = absurd was
  nowhere_in (Telling answer) old new busy does was = absurd (false≢true busy)
  nowhere_in (Execute execution) old new busy does was = nowhere_task execution.task execution.head_drive execution.steps old new does was

writes_on_adapter : (deleted : Bool) (past : Past) (sent : Sent) (old new : AdapterState) → StepsAdapter old new → is_executing old.controller.phase ≡ true
    → MayMove (Write deleted) past sent old.controller
    → KnownOn (Write deleted) past sent (mark_of old.controller) (λ time. PassesAt (selected_at old) (head_of sent.head_drive) time old new) new.controller
writes_on_adapter deleted past sent old new steps busy was =
    let fdc = old.controller in
    let head = head_of sent.head_drive in
    let Is : WordTime → Type 0 = λ time. PassesAt (selected_at old) head time old new in
    by_drive head old new steps
    (λ before after works at.
    known_as (Write deleted) past sent (mark_of fdc) Is (IsWriteAt deleted past sent (mark_of fdc) (polled fdc).rate before after new.controller) new.controller
    (λ time is. at time (subst (λ r. IsTime time r head before after) (polled_rate fdc) is.0, is.1))
    (write_in deleted past sent (mark_of fdc) fdc.phase fdc.asking fdc.fifo (polled fdc) before after new.controller busy works.writes was))
    (λ alone at.
    let held = polled_by (λ (polls : Fdc). MayWriteIn past sent deleted fdc.phase polls.asking polls.fifo) fdc was was in
    known_as (Write deleted) past sent (mark_of fdc) Is IsNowhere new.controller at
    (nowhere_in deleted past sent (mark_of fdc) old.first fdc.phase (polled fdc) new.controller busy alone.nowhere held))

-- what is known after a device step of a data command: what passed in it under the sector's head is added to what was
-- known
pub steps_on : (operation : Operation) (past : Past) (sent : Sent) (old new : AdapterState) → StepsAdapter old new → is_executing old.controller.phase ≡ true
    → MayMove operation past sent old.controller
    → KnownOn operation past sent (mark_of old.controller) (λ time. IsTimeOf operation time × PassesAt (selected_at old) (head_of sent.head_drive) time old new) new.controller
steps_on (Read wanted skip) past sent old new steps busy was = reads_on wanted skip past sent old new steps busy was
steps_on (Write deleted) past sent old new steps busy was =
    known_as (Write deleted) past sent (mark_of old.controller) (λ time. IsTimeOf (Write deleted) time × PassesAt (selected_at old) (head_of sent.head_drive) time old new)
    (λ time. PassesAt (selected_at old) (head_of sent.head_drive) time old new) new.controller (λ time is. (tt, is)) (writes_on_adapter deleted past sent old new steps busy was)

-- ---- the terminal count

pub bytes_told : (operation : Operation) (b : Bool) (past : Past) → bytes_moved operation (told_in b past) ≡ bytes_moved operation past
bytes_told (Read wanted skip) true past = refl
bytes_told (Read wanted skip) false past = refl
bytes_told (Write deleted) true past = refl
bytes_told (Write deleted) false past = refl

pub told_busy : (phase : Phase) → is_executing phase ≡ true → is_executing (phase_told phase) ≡ true
told_busy (Execute execution) busy = refl
told_busy _ busy = busy

pub told_on : (operation : Operation) (past : Past) (sent : Sent) (old : Fdc) → is_executing old.phase ≡ true → MayMove operation past sent old
    → MayMove operation (told_in true past) sent (told_count old)
told_on (Read wanted skip) past sent old busy was =
    subst (λ b. MayMove (Read wanted skip) (told_in b past) sent (told_count old)) busy (told_reads past sent old.phase old.asking old.fifo was)
told_on (Write deleted) past sent old busy was =
    subst (λ b. MayMove (Write deleted) (told_in b past) sent (told_count old)) busy (told_writes past sent deleted old.phase old.asking old.fifo was)

-- ---- bytes

-- after a byte the same is known, with the byte added
pub record MovedOn (operation : Operation) (past : Past) (sent : Sent) (byte : ℕ) (now : Past) (new : Fdc) : Type 0 where
  pub bytes : bytes_moved operation now ≡ bytes_moved operation past ++ byte ∷ []
  pub counted : now.counted ≡ past.counted
  pub moves : MayMove operation now sent new

read_phase : (past : Past) (sent : Sent) (phase : Phase) (asking : Bool) (fifo : List ℕ) → is_executing phase ≡ true → MayReadIn past sent phase asking fifo → is_reading phase ≡ true
read_phase past sent Command asking fifo busy was = absurd was
read_phase past sent (Telling answer) asking fifo busy was = absurd (false≢true busy)
read_phase past sent (Execute execution) asking fifo busy was = in_task execution.task execution.head_drive execution.steps was
  where
    in_task : (task : Task) (head_drive steps : ℕ) → MayReadTask past sent head_drive steps task asking fifo → is_reading (Execute (record { head_drive = head_drive; steps = steps; task = task })) ≡ true
    in_task (ReadTask reading) head_drive steps was = refl
    in_task _ head_drive steps was = absurd was

write_phase : (past : Past) (sent : Sent) (deleted : Bool) (phase : Phase) (asking : Bool) (fifo : Fifo) → MayWriteIn past sent deleted phase asking fifo → is_reading phase ≡ false
write_phase past sent deleted Command asking fifo was = absurd was
write_phase past sent deleted (Telling answer) asking fifo was = refl
write_phase past sent deleted (Execute execution) asking fifo was = in_task execution.task execution.head_drive execution.steps was
  where
    in_task : (task : Task) (head_drive steps : ℕ) → MayWriteTask past sent deleted head_drive steps task asking fifo → is_reading (Execute (record { head_drive = head_drive; steps = steps; task = task })) ≡ false
    in_task (WriteTask writing) head_drive steps was = refl
    in_task _ head_drive steps was = absurd was

-- the channel takes a byte
pub out_on : (operation : Operation) (past : Past) (sent : Sent) (old : Fdc) → (asks old && to_memory_of old) ≡ true → MayMove operation past sent old
    → MovedOn operation past sent (byte_out old) (gave (byte_out old) past) (taken_out old)
out_on (Read wanted skip) past sent old up was = record {
  bytes = refl;
  counted = refl;
  moves = out_reads past sent old.phase old.asking old.fifo (and_parts (is_gated old) old.asking (and_parts (asks old) (to_memory_of old) up).0).1 (and_parts (asks old) (to_memory_of old) up).1 was;
}
out_on (Write deleted) past sent old up was =
    clash (is_reading old.phase) (write_phase past sent deleted old.phase old.asking old.fifo was) (and_parts (asks old) (to_memory_of old) up).1

-- the channel gives a byte
pub in_on : (operation : Operation) (past : Past) (sent : Sent) (byte : ℕ) (old : Fdc) → is_executing old.phase ≡ true → (asks old && not (to_memory_of old)) ≡ true → MayMove operation past sent old
    → MovedOn operation past sent byte (took byte past) (taken_in byte old)
in_on (Read wanted skip) past sent byte old busy up was =
    let reading = read_phase past sent old.phase old.asking old.fifo.bytes busy was in
    absurd (false≢true (sym (ap not reading) ∙ (and_parts (asks old) (not (to_memory_of old)) up).1))
in_on (Write deleted) past sent byte old busy up was = record {
  bytes = refl;
  counted = refl;
  moves = in_writes past sent deleted old.phase old.asking old.fifo byte (and_parts (is_gated old) old.asking (and_parts (asks old) (not (to_memory_of old)) up).0).1 was;
}

-- ---- port accesses

-- what the knowledge of the command depends on stays, and so does what the next command needs to begin
pub record SameCommand (old new : Fdc) : Type 0 where
  pub phase : new.phase ≡ old.phase
  pub asking : new.asking ≡ old.asking
  pub fifo : new.fifo ≡ old.fifo
  pub seeks : new.seeks ≡ old.seeks
  pub non_dma : new.non_dma ≡ old.non_dma
  pub command : new.command ≡ old.command
  pub poll : new.poll_due ≡ old.poll_due
  pub interrupt : new.interrupt ≡ old.interrupt

same_known : (operation : Operation) (past : Past) (sent : Sent) (old new : Fdc) → SameCommand old new → MayMove operation past sent old → MayMove operation past sent new
same_known (Read wanted skip) past sent old new same was =
    subst (λ phase. MayReadIn past sent phase new.asking new.fifo.bytes) (sym same.phase)
    (subst (λ asking. MayReadIn past sent old.phase asking new.fifo.bytes) (sym same.asking)
    (subst (λ fifo. MayReadIn past sent old.phase old.asking fifo.bytes) (sym same.fifo) was))
same_known (Write deleted) past sent old new same was =
    subst (λ phase. MayWriteIn past sent deleted phase new.asking new.fifo) (sym same.phase)
    (subst (λ asking. MayWriteIn past sent deleted old.phase asking new.fifo) (sym same.asking)
    (subst (λ fifo. MayWriteIn past sent deleted old.phase old.asking fifo) (sym same.fifo) was))

-- what a port sets, after which the controller may be reset
pub record PortSets (port value : ℕ) (old new : Fdc) : Type 0 where
  pub set : Fdc
  pub same : SameCommand old set
  pub is : new ≡ (if resets port value then reset set else set)
  pub free : resets port value ≡ false → is_held set ≡ true → is_held old ≡ true

sets_all : (port value : ℕ) (anew : Bool) (old set new : Fdc) → SameCommand old set → resets port value ≡ anew → new ≡ (if anew then reset set else set)
    → (anew ≡ false → is_held set ≡ true → is_held old ≡ true) → PortSets port value old new
sets_all port value anew old set new same resets is free =
    record { set = set; same = same; is = is ∙ ap (λ b. if b then reset set else set) (sym resets); free = λ quiet. free (sym resets ∙ quiet) }

pub port_sets : (port value : ℕ) (lines : Lines) (old new : Fdc) → Writes port value lines old new → (port == 0x3F5) ≡ false → PortSets port value old new
port_sets port value lines old new writes no_byte = either_way (port == 0x3F2)
    (λ output.
    let anew = ap (λ b. if b then dor_resets value else (if port == 0x3F4 then dsr_resets value else false)) output in
    sets_all port value (dor_resets value) old (record old { dor = record { 0 = value } }) new
    (record { phase = refl; asking = refl; fifo = refl; seeks = refl; non_dma = refl; command = refl; poll = refl; interrupt = refl }) anew (writes.output (eqb-true port 0x3F2 output)) (λ quiet held. clash (dor_resets value) quiet held))
    (λ no_output.
    let other = ap (λ b. if b then dor_resets value else (if port == 0x3F4 then dsr_resets value else false)) no_output in
    either_way (port == 0x3F4)
    (λ select.
    let anew = other ∙ ap (λ b. if b then dsr_resets value else false) select in
    sets_all port value (dsr_resets value) old (record old { rate = rate_chosen value }) new
    (record { phase = refl; asking = refl; fifo = refl; seeks = refl; non_dma = refl; command = refl; poll = refl; interrupt = refl }) anew (writes.select (eqb-true port 0x3F4 select)) (λ quiet held. held))
    (λ no_select.
    let quiet = other ∙ ap (λ b. if b then dsr_resets value else false) no_select in
    either_way (port == 0x3F7)
    (λ control. sets_all port value false old _ new
    (record { phase = refl; asking = refl; fifo = refl; seeks = refl; non_dma = refl; command = refl; poll = refl; interrupt = refl }) quiet (writes.control (eqb-true port 0x3F7 control)) (λ quiet held. held))
    (λ no_control. sets_all port value false old _ new
    (record { phase = refl; asking = refl; fifo = refl; seeks = refl; non_dma = refl; command = refl; poll = refl; interrupt = refl }) quiet (writes.others no_output no_select no_byte no_control) (λ quiet held. held))))

pub port_same : (port value : ℕ) (lines : Lines) (old new : Fdc) → Writes port value lines old new → (port == 0x3F5) ≡ false → resets port value ≡ false → SameCommand old new
port_same port value lines old new writes no_byte no_reset =
    let sets = port_sets port value lines old new writes no_byte in
    subst (SameCommand old) (sym (sets.is ∙ ap (λ b. if b then reset sets.set else sets.set) no_reset)) sets.same

-- a write of another port than the data port's that doesn't reset the controller
pub port_on : (operation : Operation) (past : Past) (sent : Sent) (port value : ℕ) (lines : Lines) (old new : Fdc) → Writes port value lines old new → (port == 0x3F5) ≡ false
    → resets port value ≡ false → MayMove operation past sent old → MayMove operation past sent new
port_on operation past sent port value lines old new writes no_byte no_reset was = search (same_known, port_same)

pub port_busy : (port value : ℕ) (lines : Lines) (old new : Fdc) → Writes port value lines old new → (port == 0x3F5) ≡ false → resets port value ≡ false
    → is_executing old.phase ≡ true → is_executing new.phase ≡ true
port_busy port value lines old new writes no_byte no_reset busy = ap is_executing (port_same port value lines old new writes no_byte no_reset).phase ∙ busy

pub port_mark : (port value : ℕ) (lines : Lines) (old new : Fdc) → Writes port value lines old new → (port == 0x3F5) ≡ false → resets port value ≡ false → mark_of new ≡ mark_of old
port_mark port value lines old new writes no_byte no_reset = ap mark_of_phase (port_same port value lines old new writes no_byte no_reset).phase
