-- A byte of a READ DATA goes to memory.
use Rattle.std.proofs.Common.{◌≡◌, ℕ, ◌+◌, ◌≤◌, ◌==◌, Bool, true, false, List, length, [], ◌∷◌, ◌++◌, if◌then◌else◌, refl, sym, subst, ◌∙◌, ap, arith}
use Rattle.laws_machine.proofs.Common.{after_transfer, Past, taken_out, told_count, told_in, is_executing, asks, is_gated, can_move, moved_to_memory, moved_from_memory, told_if, Chips, Scene, IsMoved, grants, out_reads, told_reads, byte_out, gave, memory_after, and_parts, DriveState, Fifo, polled, RestsIn, MovesIn, WordTime, Stopped, after_time, WritesIn, Fdc, Execution, Phase, Command, Execute, Result, Works, IsScene, IsTaken, refuses, Laid, Window, Track, Order, Identify, Read, Write, MayLayIn, MayLay, LaysOn, AtDrive, IsDoneBy, led, IsGuarded, outset_of, rests_on, led_none, Long, Task, fills_task, RestsWritten}
use Rattle.laws_machine.proofs.Facts.{told_busy, polled_phase, polled_keeps}
use Rattle.fdc_core.specs.Heard.{MayRead}
use Rattle.pc_bus.specs.Transfers.{moved}
use Rattle.laws_machine.proofs.OnReads.Steps.{reads_there}
use Rattle.laws_machine.proofs.OnWrites.Guards.{moves_same}
use Rattle.laws_machine.proofs.OnOrders.Behind.{IsDoing, IsBehind, IsTimed, IsTimedLed, Laying, laid_on}
use Rattle.laws_machine.proofs.OnReads.Bytes as moving
use Rattle.fdc_phases.specs.declared.phases.Task.TheVariants as task
use Rattle.laws_machine.proofs.OnReads.IdWords as ids
use Rattle.laws_machine.proofs.OnReads.Steps as reads
use Rattle.laws_machine.proofs.OnWrites.Steps as writes
use Rattle.laws_machine.proofs.OnFormats.Steps as formats

-- a byte moves where the controller asks
pub must_ask : (chips : Chips) → can_move chips ≡ true → chips.controller.asking ≡ true
must_ask chips can = (and_parts (is_gated chips.controller) chips.controller.asking (and_parts (asks chips.controller) (grants chips.channel) can).0).1

-- the bytes that were given after the transfer; the same words were heard
pub record Fetched (scene : Scene) (past : Past) (old new : Chips) : Type 0 where
  pub given : List ℕ
  pub counted : Bool
  pub may : MayRead (record past { given = given; counted = counted }) scene.sent new.controller
  pub moved : IsMoved scene given counted new.memory new.channel
  pub busy : is_executing new.controller.phase ≡ is_executing old.controller.phase
  pub dor : new.controller.dor ≡ old.controller.dor
  pub rate : new.controller.rate ≡ old.controller.rate

by_last : (scene : Scene) (past : Past) (chips : Chips) → is_executing chips.controller.phase ≡ true → MayRead (gave (byte_out chips.controller) past) scene.sent (taken_out chips.controller) → past.counted ≡ false
    → (last : Bool) → IsMoved scene (past.given ++ byte_out chips.controller ∷ []) last (memory_after chips.channel (byte_out chips.controller) chips.memory) (after_transfer chips.channel)
    → Fetched scene past chips (record chips { controller = told_if last (taken_out chips.controller); channel = after_transfer chips.channel; memory = memory_after chips.channel (byte_out chips.controller) chips.memory })
by_last scene past chips busy out uncounted true moves = record {
  given = past.given ++ byte_out chips.controller ∷ [];
  counted = true;
  may = subst (λ b. MayRead (told_in b (gave (byte_out chips.controller) past)) scene.sent (told_count (taken_out chips.controller))) busy
      (told_reads (gave (byte_out chips.controller) past) scene.sent (taken_out chips.controller).phase (taken_out chips.controller).asking (taken_out chips.controller).fifo out);
  moved = moves;
  busy = told_busy chips.controller.phase;
  dor = refl;
  rate = refl;
}
by_last scene past chips busy out uncounted false moves = record {
  given = past.given ++ byte_out chips.controller ∷ [];
  counted = past.counted;
  may = out;
  moved = subst (λ c. IsMoved scene (past.given ++ byte_out chips.controller ∷ []) c (memory_after chips.channel (byte_out chips.controller) chips.memory) (after_transfer chips.channel)) (sym uncounted) moves;
  busy = refl;
  dor = refl;
  rate = refl;
}

pub fetched : (scene : Scene) → scene.address + scene.size ≤ length scene.memory → (past : Past) (chips : Chips) → can_move chips ≡ true → MayRead past scene.sent chips.controller
    → (chips.controller.asking ≡ true → is_executing chips.controller.phase ≡ true) → IsMoved scene past.given past.counted chips.memory chips.channel → Fetched scene past chips (moved chips)
unfolding moved
fetched scene fits past chips can may quiet was =
    let granting = (and_parts (asks chips.controller) (grants chips.channel) can).1 in
    let up = must_ask chips can in
    let busy = quiet up in
    let reading = reads_there past scene.sent chips.controller.phase chips.controller.asking chips.controller.fifo.bytes may busy in
    let uncounted = moving.still_uncounted scene past.given past.counted chips.memory chips.channel was granting in
    subst (λ b. Fetched scene past chips (if b then moved_to_memory chips else moved_from_memory chips)) (sym reading)
    (by_last scene past chips busy (out_reads past scene.sent chips.controller.phase chips.controller.asking chips.controller.fifo up reading may) uncounted (chips.channel.count == 0)
    (moving.moved_more scene past.given chips.memory chips.channel (byte_out chips.controller) fits (subst (λ c. IsMoved scene past.given c chips.memory chips.channel) uncounted was) (chips.channel.count == 0) refl))

-- ---- the word time of a data command

-- ---- of a command that writes

polled_rate : (old : Fdc) → (polled old).rate ≡ old.rate
polled_rate old = polled_keeps (λ fdc. fdc.rate) old refl

-- a word time takes no byte
same_taken : (time : WordTime) (past : Past) (P : List ℕ → Bool → Type 0) → P past.taken past.counted → P (after_time time past).taken (after_time time past).counted
same_taken Stopped past P was = was
same_taken _ past P was = was

-- a word time after `lead` words 0000
pub timed_led : (laid : Laid) (scene : Scene) (lead : ℕ) (late : Past) (drive after : DriveState) (polls between : Fdc) (asking : Bool) (fifo : Fifo) → IsScene scene → polls.rate ≡ scene.rate
    → IsGuarded (Write laid) scene lead → LaysOn laid scene late true drive → (execution : Execution) → MayLayIn laid scene (led lead late) (Execute execution) asking fifo
    → WritesIn (Execute execution) asking fifo polls drive after between → IsTimedLed laid scene lead late between after
timed_led (Window deleted) scene lead late drive after polls between asking fifo whole rate guarded was execution may does =
    writes.in_task scene deleted lead late drive after polls between asking fifo whole rate guarded was execution.task execution.head_drive execution.steps may does
timed_led (Track numbers) scene lead late drive after polls between asking fifo whole rate guarded was execution may does =
    formats.in_task scene numbers lead late drive after polls between asking fifo whole rate guarded was execution.task execution.head_drive execution.steps may does

timed : (laid : Laid) (scene : Scene) (past : Past) (between : Fdc) (after : DriveState) → IsTimedLed laid scene 0 past between after → IsTimed laid scene (λ now executes. LaysOn laid scene now executes after) past between
timed laid scene past between after made =
    record { time = made.time; may = subst (λ p. MayLay laid scene (after_time made.time p) between) (led_none past) made.may; covered = made.covered; at = made.at }

-- what word times leave of the words of the track
pub laying : (laid : Laid) (scene : Scene) → IsScene scene → Laying laid scene (LaysOn laid scene)
laying laid scene whole = record {
  works = λ past drive after polls between asking fifo rate was execution may does. timed laid scene past between after
      (timed_led laid scene 0 past drive after polls between asking fifo whole rate (λ some. absurd (omega arith)) was execution
      (subst (λ p. MayLayIn laid scene p (Execute execution) asking fifo) (sym (led_none past)) may) does);
  rests = λ past drive after was same falls. laid_on laid scene past past false false drive after (λ at. rests_on (outset_of scene) past drive after at same falls) refl refl was;
}

-- a command that writes takes bytes from memory in execution, after as many device steps as its history has. In its
-- results DRQ is low
abbrev pub Views : Past → Phase → Bool → Type 0
Views past (Execute execution) asking = (fills_task execution.task ≡ true) × (past.steps ≡ execution.steps)
Views past (Result (Long ending results read)) asking = asking ≡ false
Views past _ asking = ⊥

views_task : (laid : Laid) (scene : Scene) (past : Past) (head_drive steps : ℕ) (task : Task) (asking : Bool) (fifo : Fifo)
    → MayLayIn laid scene past (Execute (record { head_drive = head_drive; steps = steps; task = task })) asking fifo → (fills_task task ≡ true) × (past.steps ≡ steps)
views_task (Window deleted) scene past head_drive steps (task.Write writing) asking fifo (room, (handed, on)) = (refl, on.steps_are)
views_task (Track numbers) scene past head_drive steps (task.Format formatting) asking fifo (room, (handed, on)) = (refl, on.steps_are)
views_task (Window deleted) scene past head_drive steps _ asking fifo may = absurd may
views_task (Track numbers) scene past head_drive steps _ asking fifo may = absurd may

pub views : (laid : Laid) (scene : Scene) (past : Past) (phase : Phase) (asking : Bool) (fifo : Fifo) → MayLayIn laid scene past phase asking fifo → Views past phase asking
views laid scene past (Execute execution) asking fifo may = views_task laid scene past execution.head_drive execution.steps execution.task asking fifo may
views (Window deleted) scene past (Result (Long ending results read)) asking fifo may = may.0
views (Track numbers) scene past (Result (Long ending results read)) asking fifo may = may.0
views (Window deleted) scene past _ asking fifo may = absurd may
views (Track numbers) scene past _ asking fifo may = absurd may

rests_may : (laid : Laid) (scene : Scene) (past : Past) (phase : Phase) (asking : Bool) (fifo : Fifo) (new : Fdc) → RestsWritten phase asking fifo new → MayLayIn laid scene past phase asking fifo → MayLay laid scene past new
rests_may (Window deleted) scene past phase asking fifo new rests may = rests.writes past scene.sent deleted may
rests_may (Track numbers) scene past phase asking fifo new rests may = rests.formats past scene.sent.head_drive numbers may

in_phase : (laid : Laid) (scene : Scene) (P : Past → Bool → DriveState → Type 0) → Laying laid scene P → (past : Past) (chips : Chips) (drive after : DriveState) (between : Fdc) → IsDoneBy (Write laid) scene past chips
    → Works chips.controller drive between after → (phase : Phase) → (polled chips.controller).phase ≡ phase
    → MayLayIn laid scene past phase chips.controller.asking chips.controller.fifo → P past (is_executing phase) drive
    → (refuses phase ≡ true → scene.disk.protected ≡ true)
    → WritesIn phase chips.controller.asking chips.controller.fifo (polled chips.controller) drive after between
    → RestsIn phase (drive.cylinder == 0) (polled chips.controller) between → MovesIn phase (polled chips.controller) drive after
    → IsDoing (Write laid) scene (λ now executes. P now executes after) (record chips { controller = between })
in_phase laid scene P lays past chips drive after between known works Command is may was covered does rests moves = absurd (views laid scene past Command _ _ may)
in_phase laid scene P lays past chips drive after between known works (Execute execution) is may was covered does rests moves =
    let made = lays.works past drive after (polled chips.controller) between _ _ (polled_rate chips.controller ∙ known.rate) was execution may does in
    record {
      past = after_time made.time past;
      known = record {
        may = made.may;
        shows = made.covered;
        dor = ap (λ dor. dor.0) works.stays.dor ∙ known.dor;
        rate = works.stays.rate ∙ known.rate;
        moves = same_taken made.time past (λ taken counted. IsTaken scene taken counted chips.memory chips.channel) known.moves;
      };
      at = made.at;
    }
in_phase laid scene P lays past chips drive after between known works (Result answer) is may was covered does rests moves =
    let same : between.phase ≡ Result answer = ap (λ fdc. fdc.phase) rests ∙ is in
    record {
      past = past;
      known = record {
        may = rests_may laid scene past (Result answer) chips.controller.asking chips.controller.fifo between does may;
        shows = λ yes. covered (sym (ap refuses same) ∙ yes);
        dor = ap (λ dor. dor.0) works.stays.dor ∙ known.dor;
        rate = works.stays.rate ∙ known.rate;
        moves = known.moves;
      };
      at = subst (λ b. P past b after) (sym (ap is_executing same)) (lays.rests past drive after was (moves_same _ drive after moves) (reads.moves_faults _ drive after moves));
    }

pub laid_timed : (laid : Laid) (scene : Scene) (P : Past → Bool → DriveState → Type 0) → Laying laid scene P → (past : Past) (chips : Chips) (drive : DriveState) (between : Fdc) (after : DriveState)
    → IsDoneBy (Write laid) scene past chips → P past (is_executing chips.controller.phase) drive → Works chips.controller drive between after
    → IsDoing (Write laid) scene (λ now executes. P now executes after) (record chips { controller = between })
laid_timed laid scene P lays past chips drive between after known at works =
    let old = chips.controller in
    let same : (polled old).phase ≡ old.phase = polled_phase old in
    in_phase laid scene P lays past chips drive after between known works old.phase same known.may at known.shows works.writes
    (subst (λ phase. RestsIn phase (drive.cylinder == 0) (polled old) between) same works.rests)
    (subst (λ phase. MovesIn phase (polled old) drive after) same works.drive)

-- ---- by the order

pub word_time : (order : Order) (scene : Scene) (past : Past) (chips : Chips) (drive : DriveState) (between : Fdc) (after : DriveState) → IsScene scene → IsDoneBy order scene past chips
    → AtDrive order scene past (is_executing chips.controller.phase) drive → Works chips.controller drive between after → IsBehind order scene (record chips { controller = between }) after
word_time Identify scene past chips drive between after whole known at works = ids.word_time scene past chips drive between after whole known at works
word_time Read scene past chips drive between after whole known at works = reads.word_time scene past chips drive between after whole known at works
word_time (Write laid) scene past chips drive between after whole known at works = laid_timed laid scene (LaysOn laid scene) (laying laid scene whole) past chips drive between after known at works
