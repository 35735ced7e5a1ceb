-- A data command that is awaited, from the port write that begins it on, and through port reads.
use Rattle.std.proofs.Common.{◌≡◌, ℕ, ◌==◌, Bool, true, false, if◌then◌else◌, refl, sym, ◌∙◌, ap, subst, ◌⊎◌, inl, inr, ◌+◌, ◌≤◌, min, arith, ◌*◌}
use Rattle.laws_machine.proofs.Common.{is_executing, given, data_commands_of, Fdc, counted, Board, controller_of, irq_taken, is_controllers, Inputs, Outputs, shown_again, drive_stays, IsHushed, Scene, read_from, Order, CanBegin, IsLetOut, HoldsSet, IsAwaited, false≢true, after_read, last_count, takes_in, asks, is_held, Phase, Command, Execute, CountsGoOn, GoesQuietly, HoldsOn, Turned, only_listens, AreShort, shown, LeavesOthers, IsFedInTime, IsOnTime, Stalled, Keeping, regapped, Steady, Identify, Read, Write, is_unread, holds_of, Waits, stirred, Chips, CountsOn, EndsSoon, GoesOn, InTime, Listens, StandsReady, with_one, Runs, DriveState, Past, IsPaced, PacedIn, drive_in, IsScene, IsHearing, Window, Track, most_steps_of, steps_taken, paced_id, MayReadIdIn}
use Rattle.laws_machine.proofs.OnOrders.Beginning.{begun_at}
use Rattle.laws_machine.proofs.OnSteps.Runs.{gap, inputs, from_start, wait, waits, gap_since, until_stalled}
use Rattle.laws_machine.proofs.OnAwaits.Turning.{on_still}
use Rattle.laws_machine.proofs.OnAwaits.Awaiting.{awaiting, same_await}
use Rattle.laws_machine.proofs.Facts.{shown_stalls}
use Rattle.laws_machine.proofs.OnCounts.Counting.{counting, input_counts, output_counts}
use Rattle.laws_machine.proofs.OnQuiet.Steps.{quietly, starts_quietly}
use Rattle.laws_machine.proofs.OnReads.Beginnings.{begins_quietly}
use Rattle.laws_machine.proofs.OnReads.EndCalls.{begins_prompt, begins_soon, inputs_prompt, inputs_soon}
use Rattle.laws_machine.proofs.OnReads.EndSteps.{prompting, soon_over, soon_few_of}
use Rattle.laws_machine.proofs.OnWrites.Guards.{leaving}
use Rattle.laws_machine.proofs.OnOrders.Punctual.{begins_on_time}
use Rattle.laws_machine.proofs.OnOrders.Accesses.{begins, inputs_keep, begin_leaves}
use Rattle.laws_machine.proofs.OnOrders.Steps.{underway}
use Rattle.laws_machine.proofs.OnWrites.Filling.{filling_held, filling_low}
use Rattle.laws_machine.proofs.OnWrites.IdlePorts.{on_time}
use Rattle.laws_machine.proofs.OnOrders.Words.{Views, views}
use Rattle.laws_machine.proofs.OnReads.IdWords.{id_few, listens_id}

-- ---- the beginning

-- a controller that has begun a command
pub record HasBegun (old new : Fdc) : Type 0 where
  pub calm : IsLetOut new
  pub holds : HoldsSet (counted (data_commands_of old)) old new
  pub low : new.interrupt ≡ false
  pub busy : is_executing new.phase ≡ true

-- after the write, before its gap
has_begun : (order : Order) (scene : Scene) (byte : ℕ) (old new : Board) (access : Outputs 0x3F5 byte old new) → CanBegin order scene byte old → IsLetOut (controller_of old) → IsHushed old
    → HasBegun (controller_of old) (controller_of access.between)
has_begun order scene byte old new access can out hushed =
    let (has, chips_are) = begun_at order scene byte old access.between access.writes can.last in
    subst (HasBegun (controller_of old)) (sym has.after) (record {
      calm = record { selects = out.selects; gated = out.gated; no_seek = out.no_seek; polled = out.polled };
      holds = record { seeks = refl; dor = refl; rate = refl; non_dma = refl; polling = refl; on = refl; threshold = refl; command = refl; data_commands = refl };
      low = hushed.low;
      busy = refl;
    })

pub begins_awaited : (order : Order) (scene : Scene) (byte : ℕ) (old new : Board) → Outputs 0x3F5 byte old new → CanBegin order scene byte old → IsLetOut (controller_of old) → IsHushed old
    → IsAwaited (counted (data_commands_of (controller_of old))) old new
begins_awaited order scene byte old new access can out hushed =
    let count = counted (data_commands_of (controller_of old)) in
    let begun = has_begun order scene byte old new access can out hushed in
    gap (IsAwaited count old) (awaiting count old) access.between new access.gap (record {
      calm = begun.calm;
      holds = begun.holds;
      first = on_still old.first access.between.first (drive_stays access.writes.lines.first refl);
      second = on_still old.second access.between.second (drive_stays access.writes.lines.second refl);
      waits = λ busy. record { low = begun.low; polled = begun.calm.polled; level = ap (λ bus. bus.latch.level) access.writes.bus ∙ hushed.level };
      ended = λ idle. absurd (false≢true (sym idle ∙ begun.busy));
    })

-- ---- port reads

-- a port but the data port
read_same : (old new : Board) (controllers data_port : Bool) (port : ℕ) → data_port ≡ false
    → new.bus.chips ≡ (if controllers then shown_again (record old.bus.chips { controller = if data_port then given (controller_of old) else controller_of old }) else record old.bus.chips { channel = after_read port old.bus.chips.channel })
    → controller_of new ≡ controller_of old
read_same old new true true port other is = absurd (false≢true (sym other))
read_same old new _ _ port other is = ap (λ chips. chips.controller) is

pub input_awaits : (begun port value : ℕ) (start old new : Board) → (port == 0x3F5) ≡ false → Inputs port old value new → IsAwaited begun start old → IsAwaited begun start new
input_awaits begun port value start old new other access was =
    inputs (IsAwaited begun start) (awaiting begun start) port value old new
    (same_await begun start old (read_from port old) (read_same old (read_from port old) (is_controllers port) (port == 0x3F5) port other refl) refl refl refl was) access

-- ---- a spurious interrupt is taken

pub stray_awaits : (begun : ℕ) (start old : Board) → is_executing (controller_of old).phase ≡ true → IsAwaited begun start old → IsAwaited begun start (record old { bus = irq_taken old.bus })
stray_awaits begun start old busy was = record {
  calm = was.calm;
  holds = was.holds;
  first = was.first;
  second = was.second;
  waits = λ now. let hushed = was.waits now in record { low = hushed.low; polled = hushed.polled; level = hushed.level };
  ended = λ idle. absurd (false≢true (sym idle ∙ busy));
}

-- ---- A data command, from its beginning until its end is reported: through device steps, waits, spurious
-- interrupts that are taken, and reads of MSR.

-- ---- the counts

counts_none : (board : Board) → CountsOn board board
counts_none board = record { stalls = omega arith; spent = omega arith; taken = omega arith; direct = refl }

min_then : (a b c most : ℕ) → min a most ≤ b → min b most ≤ c → min a most ≤ c
min_then a b c most one two = omega arith

counts_then : (a b c : Board) → CountsOn a b → CountsGoOn b c → CountsOn a c
counts_then a b c one two = record {
  stalls = min_then _ _ _ _ one.stalls two.stalls;
  spent = let before = one.spent in let after = two.spent in omega arith;
  taken = subst (λ n. min a.bus.taken last_count ≤ n) (sym two.taken) one.taken;
  direct = two.direct ∙ one.direct;
}

counted_if : (b : Bool) (before count : ℕ) → min before last_count ≤ count → min before last_count ≤ (if b then counted count else count)
counted_if true before count is = omega arith
counted_if false before count is = is

-- ---- in time

-- what each order is in its time
timing : (order : Order) (scene : Scene) → Keeping (InTime order scene)
timing Identify scene = record { step = λ old new step was. inl tt; idle = λ old gaps fresh was. tt }
timing Read scene = prompting scene
timing (Write laid) scene = on_time

later : (a b c most : ℕ) → min a most ≤ b → min (b + 1) most ≤ c → min (a + 1) most ≤ c
later a b c most one two = omega arith

kept_up : (a b c most : ℕ) → min (a + 1) most ≤ b → min b most ≤ c → min (a + 1) most ≤ c
kept_up a b c most one two = omega arith

-- while MSR is read
shown_ready : (chips : Chips) → IsFedInTime chips → (line : Bool) → asks chips.controller ≡ line → IsFedInTime (record chips { holding = shown line chips.holding })
shown_ready chips was true is = record { slack = was.slack; filling = filling_held was.slack chips (shown true chips.holding) was.filling; ready = was.ready }
shown_ready chips was false is =
    record { slack = 9; filling = filling_held 9 chips (shown false chips.holding) (filling_low was.slack chips was.filling is); ready = λ _. omega arith }

status_in_time : (order : Order) (scene : Scene) (value : ℕ) (old new : Board) → Inputs 0x3F4 old value new → ((controller_of new).phase ≡ Command → ⊥) → InTime order scene old
    → InTime order scene new ⊎ Stalled old new
status_in_time Identify scene value old new access other was = inl tt
status_in_time Read scene value old new access other was = elim (inputs_prompt 0x3F4 value old new access scene was) [
  | inl on ↦ inl on
  | inr (inl over) ↦ absurd (other over)
  | inr (inr rose) ↦ inr rose
]
status_in_time (Write laid) scene value old new access other was = gap_since IsOnTime on_time old (read_from 0x3F4 old) new (shown_stalls (asks (controller_of old)) (holds_of old)) access.gap between
  where
    between : IsOnTime (read_from 0x3F4 old)
    between = record {
      selects = was.selects;
      punctual = record {
        timely = λ busy. shown_ready old.bus.chips (was.punctual.timely busy) (asks (controller_of old)) refl;
        no_overrun = was.punctual.no_overrun;
      };
    }

taken_in_time : (order : Order) (scene : Scene) (old : Board) → InTime order scene old → InTime order scene (record old { bus = irq_taken old.bus })
taken_in_time Identify scene old was = tt
taken_in_time Read scene old (((past, is), punctual), soon) = (((past, record { scene_is = is.scene_is; chips = is.chips; drive = is.drive }), punctual), soon)
taken_in_time (Write laid) scene old was = record { selects = was.selects; punctual = was.punctual }

begins_in_time : (order : Order) (scene : Scene) (byte : ℕ) (old new : Board) → Outputs 0x3F5 byte old new → CanBegin order scene byte old → StandsReady old → InTime order scene new ⊎ Stalled old new
begins_in_time Identify scene byte old new access can ready = inl tt
begins_in_time Read scene byte old new access can ready = begins_prompt scene byte old new access can ready.on ready.threshold ready.out.gated
begins_in_time (Write laid) scene byte old new access can ready = begins_on_time laid scene byte old new access can ready.on ready.threshold ready.out.gated ready.low

-- ---- a READ DATA ends soon

ending_soon : (order : Order) (scene : Scene) → Steady (EndsSoon order scene)
ending_soon Read scene = soon_over scene
ending_soon _ scene = record { step = λ old new step was. tt; idle = λ old gaps fresh was. tt }

begins_to_end : (order : Order) (scene : Scene) (byte : ℕ) (old new : Board) → Outputs 0x3F5 byte old new → CanBegin order scene byte old → StandsReady old → AreShort (holds_of old)
    → EndsSoon order scene new
begins_to_end Read scene byte old new access can ready short = begins_soon scene byte old new access can ready.out.gated short
begins_to_end _ scene byte old new access can ready short = tt

status_soon : (order : Order) (scene : Scene) (value : ℕ) (old new : Board) → Inputs 0x3F4 old value new → ((controller_of new).phase ≡ Command → ⊥) → EndsSoon order scene old
    → EndsSoon order scene new
status_soon Identify scene value old new access other was = tt
status_soon Read scene value old new access other was = elim (inputs_soon 0x3F4 value old new access scene was) [
  | inl on ↦ on
  | inr over ↦ absurd (other over)
]
status_soon (Write laid) scene value old new access other was = tt

taken_soon : (order : Order) (scene : Scene) (old : Board) → EndsSoon order scene old → EndsSoon order scene (record old { bus = irq_taken old.bus })
taken_soon Read scene old ((past, is), soon, short) = ((past, record { scene_is = is.scene_is; chips = is.chips; drive = is.drive }), soon, short)
taken_soon _ scene old was = tt

-- ---- the drives under a command that reads

listening : (order : Order) (begun : ℕ) (start : Board) → Steady (Listens order begun start)
listening (Write laid) begun start = record { step = λ old new step was. tt; idle = λ old gaps fresh was. tt }
listening _ begun start = quietly begun start

same_quietly : (begun : ℕ) (start old new : Board) → controller_of new ≡ controller_of old → new.first ≡ old.first → new.second ≡ old.second → new.bus.direct ≡ old.bus.direct
    → GoesQuietly begun start old → GoesQuietly begun start new
same_quietly begun start old new controller first second direct was = record {
  controller = subst (HoldsOn begun (controller_of start)) (sym controller) was.controller;
  drives = record {
    first = subst (Turned start.first) (sym first) was.drives.first;
    second = subst (Turned start.second) (sym second) was.drives.second;
    direct = direct ∙ was.drives.direct;
  };
}

-- the same controller and drives
listens_same : (order : Order) (begun : ℕ) (start old new : Board) → controller_of new ≡ controller_of old → new.first ≡ old.first → new.second ≡ old.second → new.bus.direct ≡ old.bus.direct
    → Listens order begun start old → Listens order begun start new
listens_same (Write laid) begun start old new controller first second direct was = tt
listens_same _ begun start old new controller first second direct was = same_quietly begun start old new controller first second direct was

taking_listens : (phase : Phase) (held : Bool) → takes_in phase held ≡ true → only_listens phase ≡ true
taking_listens (Execute execution) held taking = absurd (false≢true taking)
taking_listens _ held taking = refl

begins_listening : (order : Order) (scene : Scene) (byte : ℕ) (old new : Board) → Outputs 0x3F5 byte old new → CanBegin order scene byte old → StandsReady old → Listens order (with_one old) old new
begins_listening (Write laid) scene byte old new access can ready = tt
begins_listening order scene byte old new access can ready =
    begins_quietly order tt (data_commands_of (controller_of old)) old scene byte old new access can
    (starts_quietly old (record { no_seek = ready.out.no_seek; listens = taking_listens (controller_of old).phase (is_held (controller_of old)) can.last.taking }))

-- ---- all of it

pub goes_begins : (order : Order) (scene : Scene) (byte : ℕ) (old new : Board) → Outputs 0x3F5 byte old new → CanBegin order scene byte old → StandsReady old → GoesOn order scene old new
goes_begins order scene byte old new access can ready = record {
  underway = begins order scene byte old new access can;
  awaited = begins_awaited order scene byte old new access can ready.out ready.hushed;
  listens = begins_listening order scene byte old new access can ready;
  others = begin_leaves order scene byte old new access can;
  counts = counts_then old old new (counts_none old) (output_counts 0x3F5 byte old new access);
  in_time = begins_in_time order scene byte old new access can ready;
  soon = begins_to_end order scene byte old new access can ready;
}

pub going : (order : Order) (scene : Scene) (start : Board) → Steady (GoesOn order scene start)
going order scene start = record {
  step = λ old new step was. record {
    underway = (underway order scene).step old new step was.underway;
    awaited = (awaiting (with_one start) start).step old new step was.awaited;
    listens = (listening order (with_one start) start).step old new step was.listens;
    others = (from_start LeavesOthers leaving start).step old new step was.others;
    counts = counts_then start old new was.counts (counting.step old new step);
    in_time = ((until_stalled (InTime order scene) (timing order scene) start).step old new step (record { grows = was.counts.stalls; holds = was.in_time })).holds;
    soon = λ short. (ending_soon order scene).step old new step (was.soon short);
  };
  idle = λ old gaps fresh was. record {
    underway = (underway order scene).idle old gaps fresh was.underway;
    awaited = (awaiting (with_one start) start).idle old gaps fresh was.awaited;
    listens = (listening order (with_one start) start).idle old gaps fresh was.listens;
    others = (from_start LeavesOthers leaving start).idle old gaps fresh was.others;
    counts = counts_then start old (regapped gaps fresh old) was.counts (counting.idle old gaps fresh);
    in_time = ((until_stalled (InTime order scene) (timing order scene) start).idle old gaps fresh (record { grows = was.counts.stalls; holds = was.in_time })).holds;
    soon = λ short. (ending_soon order scene).idle old gaps fresh (was.soon short);
  };
}

pub goes_wait : (order : Order) (scene : Scene) (start : Board) (n : ℕ) (old new : Board) → Runs n (stirred old) new → GoesOn order scene start old → GoesOn order scene start new
goes_wait order scene start = wait (GoesOn order scene start) (going order scene start)

pub goes_waits : (order : Order) (scene : Scene) (start : Board) (most : ℕ) (set : Bool) (old new : Board) → Waits most old set new → GoesOn order scene start old → GoesOn order scene start new
goes_waits order scene start = waits (GoesOn order scene start) (going order scene start)

-- an awaited command gives its results, or is in execution
not_over : (begun : ℕ) (start now : Board) → IsAwaited begun start now → (controller_of now).phase ≡ Command → ⊥
not_over begun start now awaited over = false≢true (sym (ap is_unread over) ∙ (awaited.ended (ap is_executing over)).unread)

pub goes_status : (order : Order) (scene : Scene) (start : Board) (value : ℕ) (old new : Board) → Inputs 0x3F4 old value new → GoesOn order scene start old → GoesOn order scene start new
goes_status order scene start value old new access was =
    let awaited = input_awaits (with_one start) 0x3F4 value start old new refl access was.awaited in
    let counts = input_counts 0x3F4 value old new access in
    record {
      underway = elim (inputs_keep order scene 0x3F4 value old new access was.underway) [
        | inl now ↦ now
        | inr over ↦ absurd (not_over (with_one start) start new awaited over)
      ];
      awaited = awaited;
      listens = inputs (Listens order (with_one start) start) (listening order (with_one start) start) 0x3F4 value old new
          (listens_same order (with_one start) start old (read_from 0x3F4 old) refl refl refl refl was.listens) access;
      others = inputs (LeavesOthers start) (from_start LeavesOthers leaving start) 0x3F4 value old new
          (record { dor = was.others.dor; first = was.others.first; second = was.others.second }) access;
      counts = counts_then start old new was.counts counts;
      in_time = elim was.in_time [
        | inl time ↦ elim (status_in_time order scene value old new access (not_over (with_one start) start new awaited) time) [
          | inl now ↦ inl now
          | inr rose ↦ inr (later _ _ _ last_count was.counts.stalls rose)
        ]
        | inr rose ↦ inr (kept_up _ _ _ last_count rose counts.stalls)
      ];
      soon = λ short. status_soon order scene value old new access (not_over (with_one start) start new awaited) (was.soon short);
    }

pub goes_stray : (order : Order) (scene : Scene) (start old : Board) → is_executing (controller_of old).phase ≡ true → GoesOn order scene start old
    → GoesOn order scene start (record old { bus = irq_taken old.bus })
goes_stray order scene start old busy was = record {
  underway = let (past, is) = was.underway in (past, record { scene_is = is.scene_is; chips = is.chips; drive = is.drive });
  awaited = stray_awaits (with_one start) start old busy was.awaited;
  listens = listens_same order (with_one start) start old (record old { bus = irq_taken old.bus }) refl refl refl refl was.listens;
  others = record { dor = was.others.dor; first = was.others.first; second = was.others.second };
  counts = record { stalls = was.counts.stalls; spent = was.counts.spent; taken = counted_if old.bus.latch.is_set start.bus.taken old.bus.taken was.counts.taken; direct = was.counts.direct };
  in_time = elim was.in_time [
    | inl time ↦ inl (taken_in_time order scene old time)
    | inr rose ↦ inr rose
  ];
  soon = λ short. taken_soon order scene old (was.soon short);
}

-- ---- how many device steps a data command has taken

-- ---- READ ID hears two revolutions at most

id_in : (scene : Scene) (past : Past) (executes : Bool) (drive : DriveState) (phase : Phase) → IsScene scene → IsHearing scene past executes drive → MayReadIdIn past scene.sent.head_drive phase
    → PacedIn past phase → steps_taken phase ≤ 2 * scene.disk.words_per_track
id_in scene past executes drive (Execute execution) whole hears was pace =
    id_few scene past execution.steps executes drive whole hears
    (subst (IsPaced past execution.steps) (listens_id past scene.sent.head_drive execution.head_drive execution.steps execution.task was).2 pace)
id_in scene past executes drive _ whole hears was pace = omega arith

-- ---- commands that write are in time

taken_by : (past : Past) (phase : Phase) (asking : Bool) → Views past phase asking → steps_taken phase ≤ past.steps
taken_by past (Execute execution) asking (filling, same) = omega arith
taken_by past _ asking was = omega arith

-- ---- every order

pub few : (order : Order) (scene : Scene) (start now : Board) → GoesOn order scene start now → AreShort (holds_of start) → steps_taken (controller_of now).phase ≤ most_steps_of scene.disk.words_per_track
few Identify scene start now was short =
    let (past, is) = was.underway in
    let taken = id_in scene past _ (drive_in now scene.bay) (controller_of now).phase is.scene_is is.drive is.chips.may (paced_id past scene.sent.head_drive (controller_of now) is.chips.may) in
    omega arith
few Read scene start now was short = soon_few_of scene now (was.soon short)
few (Write (Window deleted)) scene start now was short =
    let (past, is) = was.underway in
    let taken = taken_by past (controller_of now).phase (controller_of now).asking (views (Window deleted) scene past (controller_of now).phase (controller_of now).asking (controller_of now).fifo is.chips.may) in
    let early = is.drive.at.early in
    omega arith
few (Write (Track numbers)) scene start now was short =
    let (past, is) = was.underway in
    let taken = taken_by past (controller_of now).phase (controller_of now).asking (views (Track numbers) scene past (controller_of now).phase (controller_of now).asking (controller_of now).fifo is.chips.may) in
    let early = is.drive.early in
    omega arith
