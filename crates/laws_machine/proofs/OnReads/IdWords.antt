-- The word time of a READ ID.
use Rattle.std.proofs.Common.{◌≡◌, inl, inr, ℕ, ◌+◌, ◌<◌, ◌==◌, Bool, true, false, refl, ◌∙◌, ap, subst, arith, ◌*◌, ◌≤◌, ◌⊎◌, ◌&&◌, ◌||◌, not, nat_le, List, length, sym}
use Rattle.laws_machine.proofs.Common.{DriveState, at_index, Fifo, Past, heard, SearchOutcome, Ending, Late, phase_asks, stepped, is_executing, StepHears, StepsOn, ExecutesTask, PacedIn, IsPaced, is_hearing, is_listening, after_searched, polled, RestsIn, FlowsIn, Fdc, Phase, Command, Execute, Result, Task, ReadId, Works, Chips, Scene, IsScene, track_met, IsHearing, ends_late, is_late, Identify, IsDoneBy, IsMiss, MissesWell, MayReadIdIn, MayReadIdTask, paced_id, is_reading, is_gated, moved_up_to, Rose, room_of, worth_fetching, task_asks, Sent, MayReadIn, MayReadTask, is_read, is_overrun, is_over, is_full, asks, Holds, IsReady, IsInTime, is_due, shown, DmaRequest, Low, High, in_time, looked_at, shown_again, IsRuled, slack_of, IsPunctualRead, false_from_ne_true, false≢true, nat_tests, grants, OverrunsIn, OverrunsTask, dma_stepped, IsEmptiedInTime, ReadTask as Read}
use Rattle.laws_machine.proofs.Facts.{polled_asking, polled_phase, number_is, some_of}
use Rattle.laws_machine.proofs.OnReads.Steps.{Hearkens, listened_as, listening, reads_there, IsBetween}
use Rattle.laws_machine.proofs.OnReads.Words.{length-met, words_few}
use Rattle.laws_machine.proofs.OnOrders.Behind.{IsDoing, IsBehind, Listening}
use Rattle.laws_machine.proofs.OnSteps.Transfers.{up_to, by_request}
use Rattle.laws_machine.proofs.OnSteps.Words.{by_phase, told_reading, moved_only, dma_executing, dma_overrun, gated_same, polled_fifo}
use Rattle.laws_machine.proofs.OnReads.Served.{phase_again, served, left_reading, IsServed}
use Rattle.laws_machine.proofs.OnSteps.Runs.{dma_stalls}
use Rattle.fdc_stages.specs.Searches as searched
use Rattle.laws_machine.specs.OnOrders.Orders as order

-- ---- the task

pub listens_id : (past : Past) (sent head_drive steps : ℕ) (task : Task) → MayReadIdTask past sent head_drive steps task → (head_drive ≡ sent) × (is_listening task ≡ true) × (is_hearing task ≡ true)
listens_id past sent head_drive steps (ReadId search) was = (was.sent_is, refl, refl)
listens_id past sent head_drive steps _ was = absurd was

-- a READ ID never asks for DMA
low_task : (past : Past) (sent head_drive steps : ℕ) (task : Task) (asking : Bool) (fifo : Fifo) → MayReadIdTask past sent head_drive steps task
    → phase_asks (Execute (record { head_drive = head_drive; steps = steps; task = task })) asking fifo ≡ false
low_task past sent head_drive steps (ReadId search) asking fifo was = refl
low_task past sent head_drive steps _ asking fifo was = absurd was

low_in : (past : Past) (sent : ℕ) (phase : Phase) (asking : Bool) (fifo : Fifo) → MayReadIdIn past sent phase → phase_asks phase asking fifo ≡ false
low_in past sent (Execute execution) asking fifo was = low_task past sent execution.head_drive execution.steps execution.task asking fifo was
low_in past sent _ asking fifo was = refl

-- ---- how long it takes

-- it hears two revolutions at most
pub id_few : (scene : Scene) (past : Past) (steps : ℕ) (executes : Bool) (drive : DriveState) → IsScene scene → IsHearing scene past executes drive
    → IsPaced past steps true → steps ≤ 2 * scene.disk.words_per_track
id_few scene past steps executes drive whole hears pace =
    let words = words_few (track_met scene) scene.from past.turns past.seen hears.heard (pace.few refl) in
    let long = length-met scene whole.disk in
    let heard = pace.heard_are in
    omega arith

misses_late : (ending : Ending) → IsMiss ending → ends_late ending ≡ false
misses_late Late is = absurd is
misses_late _ is = refl

searched_late : (head_drive steps : ℕ) (after : SearchOutcome) (old : Fdc) → MissesWell after → is_late (after_searched head_drive steps after old).phase ≡ false
searched_late head_drive steps (searched.Missed ending) old well = misses_late ending well
searched_late head_drive steps _ old well = refl

late_task : (past : Past) (sent head_drive steps : ℕ) (task : Task) (index : Bool) (word : ℕ) (polls new : Fdc) → MayReadIdTask past sent head_drive steps task → steps < 65535
    → StepsOn head_drive steps task index word polls new → is_late new.phase ≡ false
late_task past sent head_drive steps (ReadId search) index word polls new was few does = elim does [
  | inl last ↦ let all = last.0 in absurd (omega arith)
  | inr on ↦ let (after, hears, is) = on.1 in ap (λ fdc. is_late fdc.phase) is ∙ searched_late head_drive (steps + 1) after polls hears.1
]
late_task past sent head_drive steps _ index word polls new was few does = absurd was

-- ---- the word time

-- such a command in execution has steps left
abbrev pub IsBrief : (Past → Bool → DriveState → Type 0) → Type 0
IsBrief P = (past : Past) (steps : ℕ) (drive : DriveState) → P past true drive → IsPaced past steps true → steps < 65535

id_hearkens : (scene : Scene) (past : Past) (phase : Phase) → MayReadIdIn past scene.sent.head_drive phase → Hearkens scene phase
id_hearkens scene past (Execute execution) was =
    let (head, listens, hears) = listens_id past scene.sent.head_drive execution.head_drive execution.steps execution.task was in (head, listens)
id_hearkens scene past _ was = tt

shows_id : (scene : Scene) (P : Past → Bool → DriveState → Type 0) → IsBrief P → (past : Past) (old between : Fdc) (drive after : DriveState) → old.asking ≡ false → (phase : Phase) → (polled old).phase ≡ phase
    → is_late phase ≡ false → MayReadIdIn past scene.sent.head_drive phase → PacedIn past phase → P past (is_executing phase) drive
    → StepHears phase (polled old) (at_index drive) old drive after between → RestsIn phase (drive.cylinder == 0) (polled old) between → FlowsIn phase old.asking between → (between.asking ≡ false) × (is_late between.phase ≡ false)
shows_id scene P brief past old between drive after low Command is calm was pace hears steps rests flows = absurd was
shows_id scene P brief past old between drive after low (Execute execution) is calm was pace hears steps rests flows =
    let sent = scene.sent.head_drive in
    let (head, listens, hearing) = listens_id past sent execution.head_drive execution.steps execution.task was in
    let few = brief past execution.steps drive hears (subst (IsPaced past execution.steps) hearing pace) in (
      flows ∙ low_in (heard (at_index drive) steps.word (stepped past)) sent between.phase old.asking between.fifo (steps.follows.identifies past sent was),
      late_task past sent execution.head_drive execution.steps execution.task (at_index drive) steps.word (polled old) between was few
          (subst (λ b. ExecutesTask b execution.head_drive execution.steps execution.task (at_index drive) steps.word (polled old) between) listens steps.follows.executes),
    )
shows_id scene P brief past old between drive after low (Result answer) is calm was pace hears steps rests flows =
    (ap (λ fdc. fdc.asking) rests ∙ (polled_asking old ∙ low), ap is_late (ap (λ fdc. fdc.phase) rests ∙ is) ∙ calm)

pub listened : (scene : Scene) (P : Past → Bool → DriveState → Type 0) → Listening scene P → IsBrief P → (past : Past) (chips : Chips) (drive : DriveState) (between : Fdc) (after : DriveState) → IsDoneBy Identify scene past chips
    → P past (is_executing chips.controller.phase) drive → Works chips.controller drive between after → IsDoing Identify scene (λ past executes. P past executes after) (record chips { controller = between })
listened scene P listening brief past chips drive between after known hears works =
    let old = chips.controller in
    listened_as Identify scene P listening past chips drive between after known hears works (id_hearkens scene past old.phase known.may) _ refl
    (works.reads.follows.identifies past scene.sent.head_drive known.may)
    (shows_id scene P brief past old between drive after known.shows.0 old.phase (polled_phase old) known.shows.1 known.may (paced_id past scene.sent.head_drive old known.may) hears works.reads
    (subst (λ phase. RestsIn phase (drive.cylinder == 0) (polled old) between) (polled_phase old) works.rests) works.flows)
    known.moves

pub word_time : (scene : Scene) (past : Past) (chips : Chips) (drive : DriveState) (between : Fdc) (after : DriveState) → IsScene scene → IsDoneBy Identify scene past chips
    → IsHearing scene past (is_executing chips.controller.phase) drive → Works chips.controller drive between after → IsBehind Identify scene (record chips { controller = between }) after
word_time scene past chips drive between after whole known hears works =
    listened scene (IsHearing scene) (listening scene whole) (λ past steps drive hears pace.
    let few = id_few scene past steps true drive whole hears pace in let size = whole.disk.words_per_track.1 in omega arith) past chips drive between after known hears works

-- ---- the mode of a READ DATA on time, which transfers keep

-- the FIFO's mode and the gate
pub record HasMode (controller : Fdc) : Type 0 where
  pub on : controller.fifo.on ≡ true
  pub threshold : controller.fifo.threshold ≡ 8
  pub gated : is_gated controller ≡ true

pub up_to_mode : (n : ℕ) (chips : Chips) → HasMode chips.controller → HasMode (moved_up_to n chips).controller
up_to_mode n chips was = let only = moved_only n chips in
    record { on = ap (λ f. f.fifo.on) only ∙ was.on; threshold = ap (λ f. f.fifo.threshold) only ∙ was.threshold; gated = ap is_gated only ∙ was.gated }

pub up_to_reading : (n : ℕ) (chips : Chips) → is_reading chips.controller.phase ≡ true → is_reading (moved_up_to n chips).controller.phase ≡ true
up_to_reading n chips was = up_to (λ c. is_reading c.controller.phase ≡ true) (by_phase is_reading told_reading true).one n chips was

-- ---- A READ DATA in time, step by step

-- ---- tests

above : (a b : ℕ) → nat_le a b ≡ false → b < a
above a b h = grind (arith, nat_tests)

last_of : (a b l : Bool) → false ≡ (a || b || l) → l ≡ false
last_of false false l h = sym h
last_of _ _ l h = absurd (false≢true h)

-- ---- the word time

over_task : (past : Past) (sent : Sent) (head_drive steps : ℕ) (task : Task) (asking : Bool) (fifo : List ℕ) (index : Bool) (word : ℕ) (polls between : Fdc)
    → MayReadTask past sent head_drive steps task asking fifo → OverrunsTask task index word polls between
    → (past.counted ≡ false → is_full polls ≡ true → ⊥) → is_overrun between.phase ≡ false
over_task past sent head_drive steps (Read reading) asking fifo index word polls between (up, (told, underway)) overruns room =
    false_from_ne_true (is_overrun between.phase) (λ over. let finds = overruns over in room (underway.counted_is ∙ finds.uncounted) finds.full)
over_task past sent head_drive steps _ asking fifo index word polls between was overruns room = absurd was

over_in : (past : Past) (sent : Sent) (phase : Phase) (asking : Bool) (fifo : List ℕ) (index : Bool) (word : ℕ) (polls between : Fdc) (track0 : Bool)
    → MayReadIn past sent phase asking fifo → OverrunsIn phase index word polls between → RestsIn phase track0 polls between → polls.phase ≡ phase
    → (past.counted ≡ false → is_executing phase ≡ true → is_full polls ≡ true → ⊥) → is_overrun phase ≡ false → is_overrun between.phase ≡ false
over_in past sent Command asking fifo index word polls between track0 was overruns rests same room calm = absurd was
over_in past sent (Result answer) asking fifo index word polls between track0 was overruns rests same room calm =
    ap (λ fdc. is_overrun fdc.phase) rests ∙ (ap is_overrun same ∙ calm)
over_in past sent (Execute execution) asking fifo index word polls between track0 was overruns rests same room calm =
    over_task past sent execution.head_drive execution.steps execution.task asking fifo index word polls between was overruns (λ uncounted full. room uncounted refl full)

pub busy_in : (phase : Phase) (polls between : Fdc) (track0 : Bool) → RestsIn phase track0 polls between → polls.phase ≡ phase → is_executing between.phase ≡ true → is_executing phase ≡ true
busy_in (Execute execution) polls between track0 rests same busy = refl
busy_in _ polls between track0 rests same busy = absurd (false≢true (sym (ap (λ fdc. is_executing fdc.phase) rests ∙ ap is_executing same) ∙ busy))

pub flows_in : (phase : Phase) (asking : Bool) (new : Fdc) → is_executing phase ≡ true → FlowsIn phase asking new → new.asking ≡ phase_asks new.phase asking new.fifo
flows_in (Execute execution) asking new busy flows = flows
flows_in _ asking new busy flows = absurd (false≢true busy)

-- ---- the rule

-- a READ DATA that doesn't ask has at most seven bytes
few_of : (none : Bool) (asking over : Bool) (worth bytes : ℕ) → (bytes == 0) ≡ none → worth ≡ 8 → false ≡ (not none && (asking || over || nat_le worth bytes)) → bytes ≤ 7
few_of true asking over worth bytes none eight low = let zero_is = number_is bytes 0 none in omega arith
few_of false asking over worth bytes none eight low = let below = above worth bytes (last_of asking over (nat_le worth bytes) low) in omega arith

few_task : (task : Task) (asking : Bool) (fifo : Fifo) → is_read task ≡ true → worth_fetching fifo ≡ 8 → false ≡ task_asks task asking fifo → length fifo.bytes ≤ 7
few_task (Read reading) asking fifo is eight low = few_of (length fifo.bytes == 0) asking (is_over reading.stage) (worth_fetching fifo) (length fifo.bytes) refl eight low
few_task _ asking fifo is eight low = absurd (false≢true is)

few_bytes : (phase : Phase) (asking : Bool) (fifo : Fifo) → is_reading phase ≡ true → worth_fetching fifo ≡ 8 → false ≡ phase_asks phase asking fifo → length fifo.bytes ≤ 7
few_bytes (Execute execution) asking fifo is eight low = few_task execution.task asking fifo is eight low
few_bytes _ asking fifo is eight low = absurd (false≢true is)

worth_is : (fifo : Fifo) → fifo.on ≡ true → fifo.threshold ≡ 8 → worth_fetching fifo ≡ 8
worth_is fifo on eight = rw (on, eight) refl

-- the slack while the line is low
pub slack_low : (chips : Chips) → HasMode chips.controller → chips.controller.asking ≡ phase_asks chips.controller.phase chips.controller.asking chips.controller.fifo
    → is_reading chips.controller.phase ≡ true → asks chips.controller ≡ false → 9 ≤ slack_of chips.controller
slack_low chips mode rule reading low =
    let quiet : chips.controller.asking ≡ false = gated_low (is_gated chips.controller) chips.controller.asking mode.gated low in
    let few = few_bytes chips.controller.phase chips.controller.asking chips.controller.fifo reading (worth_is chips.controller.fifo mode.on mode.threshold) (sym quiet ∙ rule) in
    omega arith
  where
    gated_low : (gated asking : Bool) → gated ≡ true → (gated && asking) ≡ false → asking ≡ false
    gated_low true asking is low = low
    gated_low false asking is low = absurd (false≢true is)

-- ---- the request

pub ready_low : (line : Bool) (holding : Holds) (slack : ℕ) → line ≡ false → 9 ≤ slack → IsReady (shown line holding).request slack
ready_low true holding slack low enough = absurd (false≢true (sym low))
ready_low false holding slack low enough = enough

pub not_due : (request : DmaRequest) (slack : ℕ) → IsInTime request slack → is_due request ≡ false → IsReady request slack
not_due Low slack enough due = enough
not_due (High left) slack enough due = (some_of left due, enough)

pub ready_one : (request : DmaRequest) (slack : ℕ) → IsReady request slack → 1 ≤ slack
ready_one Low slack enough = omega arith
ready_one (High left) slack enough = let some = enough.0 in let all = enough.1 in omega arith

-- ---- the transfers

pub first_low : (a b : Bool) → (a && b) ≡ false → b ≡ true → a ≡ false
first_low true b h is = absurd (false≢true (sym h ∙ is))
first_low false b h is = refl

-- a request that was granted is low
timely_served : (chips : Chips) → HasMode chips.controller → IsRuled chips.controller → is_reading chips.controller.phase ≡ true
    → length chips.controller.fifo.bytes ≤ 16
    → IsEmptiedInTime (shown_again (moved_up_to 16 chips))
timely_served chips mode ruled reading room =
    let then_chips = moved_up_to 16 chips in
    let then_mode = up_to_mode 16 chips mode in
    let then_reading = up_to_reading 16 chips reading in
    let left = left_reading chips.controller.phase chips.controller.fifo reading in
    let falls : IsServed then_chips = served 16 chips ruled (omega arith) in
    record {
      on = then_mode.on;
      threshold = then_mode.threshold;
      gated = then_mode.gated;
      rule = falls.ruled.rule;
      ready = λ granting.
          let low : asks then_chips.controller ≡ false = first_low (asks then_chips.controller) (grants then_chips.channel) falls.falls granting in
          ready_low (asks then_chips.controller) then_chips.holding (slack_of then_chips.controller) low (slack_low then_chips then_mode falls.ruled.rule then_reading low);
    }

-- a request that was only looked at
timely_looked : (chips : Chips) → HasMode chips.controller → chips.controller.asking ≡ phase_asks chips.controller.phase chips.controller.asking chips.controller.fifo
    → (grants chips.channel ≡ true → IsReady (looked_at chips).holding.request (slack_of chips.controller)) → IsEmptiedInTime (looked_at chips)
timely_looked chips mode rule ready = record { on = mode.on; threshold = mode.threshold; gated = mode.gated; rule = rule; ready = ready }

timely_dma : (chips : Chips) → grants chips.channel ≡ true → HasMode chips.controller → IsRuled chips.controller → is_reading chips.controller.phase ≡ true
    → length chips.controller.fifo.bytes ≤ 16
    → IsInTime (looked_at chips).holding.request (slack_of chips.controller) → IsEmptiedInTime (dma_stepped chips)
timely_dma chips granting mode ruled reading room enough = by_request IsEmptiedInTime chips
    (λ is. timely_looked chips mode ruled.rule (λ _. not_due (looked_at chips).holding.request (slack_of chips.controller) enough is))
    (λ masked. absurd (false≢true (sym masked ∙ granting))) (λ _. timely_served (looked_at chips) mode ruled reading room)

-- a READ DATA in time, if the channel doesn't grant
timely_idle : (chips : Chips) → grants chips.channel ≡ false → HasMode chips.controller
    → chips.controller.asking ≡ phase_asks chips.controller.phase chips.controller.asking chips.controller.fifo → IsEmptiedInTime (dma_stepped chips)
timely_idle chips masked mode rule =
    let looked = timely_looked chips mode rule (λ granting. absurd (false≢true (sym masked ∙ granting))) in
    by_request IsEmptiedInTime chips (λ _. looked) (λ _. looked) (λ granting. absurd (false≢true (sym masked ∙ granting)))

-- ---- the device step

-- what the transfers make of what stands after the word time
behind : (chips : Chips) (before : ℕ) → HasMode chips.controller → is_reading chips.controller.phase ≡ true
    → chips.controller.asking ≡ phase_asks chips.controller.phase chips.controller.asking chips.controller.fifo
    → before ≤ slack_of chips.controller + 1 → (grants chips.channel ≡ true → IsReady chips.holding.request before × (length chips.controller.fifo.bytes ≤ 16))
    → (granting : Bool) → grants chips.channel ≡ granting
    → IsEmptiedInTime (dma_stepped chips) ⊎ Rose chips.holding.stalls (dma_stepped chips).holding.stalls
behind chips before mode reading rule less ready false is = inl (timely_idle chips is mode rule)
behind chips before mode reading rule less ready true is =
    let (was, room) = ready is in
    let wide : room_of chips.controller.fifo.on ≡ 16 = ap room_of mode.on in
    let ruled : IsRuled chips.controller = record { rule = rule; room = omega arith } in
    elim (in_time (asks chips.controller) chips.holding before (slack_of chips.controller) was less (λ low. slack_low chips mode rule reading low)) [
      | inl enough ↦ inl (timely_dma chips is mode ruled reading room enough)
      | inr rose ↦ inr (subst (λ stalls. Rose chips.holding.stalls stalls) (sym (dma_stalls chips)) rose)
    ]

pub in_step : (scene : Scene) (past : Past) (chips : Chips) (drive : DriveState) (between : Fdc) (after : DriveState) → IsDoneBy order.Read scene past chips
    → Works chips.controller drive between after → IsBetween scene chips between after → IsPunctualRead chips
    → IsPunctualRead (dma_stepped (record chips { controller = between })) ⊎ Rose chips.holding.stalls (dma_stepped (record chips { controller = between })).holding.stalls
in_step scene past chips drive between after known works then_known was = by_busy (is_executing between.phase) refl
  where
    old : Fdc
    old = chips.controller

    over : is_overrun between.phase ≡ false
    over = over_in past scene.sent chips.controller.phase chips.controller.asking chips.controller.fifo.bytes _ works.reads.word (polled chips.controller) between (drive.cylinder == 0)
        known.may works.reads.follows.overruns (subst (λ phase. RestsIn phase (drive.cylinder == 0) (polled chips.controller) between) (polled_phase chips.controller) works.rests)
        (polled_phase chips.controller)
        (λ uncounted busy full.
        let timely = was.timely busy in
        let (left, all, set) = known.moves.goes_on uncounted in
        let some = ready_one chips.holding.request (slack_of chips.controller) (timely.ready set.granting) in
        let same : length (polled chips.controller).fifo.bytes ≡ length chips.controller.fifo.bytes = ap (λ fifo. length fifo.bytes) (polled_fifo chips.controller) in
        let wide : room_of (polled chips.controller).fifo.on ≡ 16 = ap (λ fifo. room_of fifo.on) (polled_fifo chips.controller) ∙ ap room_of timely.on in
        let filled = number_is (length (polled chips.controller).fifo.bytes) (room_of (polled chips.controller).fifo.on) full in
        omega arith)
        was.no_overrun

    by_busy : (busy : Bool) → is_executing between.phase ≡ busy
        → IsPunctualRead (dma_stepped (record chips { controller = between })) ⊎ Rose chips.holding.stalls (dma_stepped (record chips { controller = between })).holding.stalls
    by_busy false idle = inl (record {
      timely = λ busy. absurd (false≢true (sym (dma_executing false (record chips { controller = between }) idle) ∙ busy));
      no_overrun = dma_overrun false (record chips { controller = between }) over;
    })
    by_busy true busy =
        let was_busy = busy_in chips.controller.phase (polled chips.controller) between (drive.cylinder == 0)
        (subst (λ phase. RestsIn phase (drive.cylinder == 0) (polled chips.controller) between) (polled_phase chips.controller) works.rests) (polled_phase chips.controller) busy in
        let timely = was.timely was_busy in
        let flows = flows_in chips.controller.phase chips.controller.asking between was_busy works.flows in
        let rule : between.asking ≡ phase_asks between.phase between.asking between.fifo =
        flows ∙ (sym (phase_again between.phase chips.controller.asking between.fifo) ∙ ap (λ asking. phase_asks between.phase asking between.fifo) (sym flows)) in
        let few = works.stays.few in
        elim (behind (record chips { controller = between }) (slack_of chips.controller)
        (record {
          on = works.stays.on ∙ timely.on;
          threshold = works.stays.threshold ∙ timely.threshold;
          gated = gated_same between chips.controller works.stays.dor timely.gated;
        })
        (reads_there then_known.past scene.sent between.phase between.asking between.fifo.bytes then_known.known.may busy)
        rule (omega arith)
        (λ granting. let ready = timely.ready granting in let some = ready_one chips.holding.request (slack_of chips.controller) ready in (ready, omega arith))
        (grants chips.channel) refl) [
          | inl on_time ↦ inl (record { timely = λ _. on_time; no_overrun = dma_overrun false (record chips { controller = between }) over })
          | inr rose ↦ inr rose
        ]
