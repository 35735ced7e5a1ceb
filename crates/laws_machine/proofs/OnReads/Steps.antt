-- From the words that were heard to the track.
use Rattle.std.proofs.Common.{◌≡◌, inl, inr, ℕ, ◌+◌, ◌*◌, ◌<◌, ◌≤◌, Bool, true, false, List, Some, length, refl, sym, ◌∙◌, subst, arith, ◌==◌, ◌||◌, not, [], slice_index, if◌then◌else◌, ap, ◌/◌, ◌%◌, Option, None}
use Rattle.laws_machine.proofs.Common.{NoData, BadCrc, IsSizeCode, content_size, content_at, HasAddressMark, IsIntact, HasDataField, Past, HasNoClear, IsFoundAt, FindsNoSector, Ending, Done, NoMark, NoSector, NoField, BadCheck, NoCount, Protected, ReadMeansIn, Long, Phase, Result, IsHeardFrom, IsWholeFrom, intact_of, Scene, track_met, HasBytes, IsMoved, Channel, ReadEndedIn, StaysOutside, false≢true, HasLook, ReadMeans, FindsUncounted, mark_heard, address_heard, data_mark_heard, field_heard, found_on, lone_found, IsCalm, between_is, turn_heard, FindsBadCheck, FindsNoField, FindsNoMark, FindsField, ReadEndsAs, DriveState, answer, is_executing, phase_after, Command, Execute, rest_of, Board, IsHearing, IsSet, is_late, at_index, Fifo, phase_asks, Sent, MayReadIn, MayReadTask, StepHears, SeesUnder, is_listening, is_reading, polled, RestsIn, Moves, MovesTask, MovesIn, FlowsIn, Fdc, Task, Works, Chips, place_in, IsScene, head_sent, IsDoneBy, Order, May, Shows, past_after, SeesTask, Moved, ReadTask as Read}
use Rattle.fdc_core.proofs.drives.Turns.{bad_met, no_field_met}
use Rattle.laws_machine.proofs.Facts.{given_down, idle_after, polled_asking, polled_phase}
use Rattle.dma_8237.specs.Channel.{grants, after_read}
use Rattle.laws_machine.proofs.OnReads.Words.{hearing_on, hearing_over}
use Rattle.laws_machine.proofs.OnOrders.Behind.{IsDoing, IsBehind, Listening}
use Rattle.laws_machine.specs.OnOrders.Orders as order

-- ---- the endings

module _ (scene : Scene) (past : Past) (faults : ℕ) (memory : List ℕ)
    (heard : IsHeardFrom (track_met scene) scene.from past.turns past.seen)
    (whole : IsCalm scene.faults faults → IsWholeFrom (track_met scene) scene.from past.turns past.seen) where
  done_ends : (given : List ℕ) (deleted : Bool) → IsSizeCode scene.sent.key.n → HasBytes scene.address given scene.memory memory → length given ≡ content_size scene.sent.key.n
      → (turn : List ℕ) (p q : ℕ) → IsFoundAt past scene.sent.key given deleted turn p q → (content : List ℕ) × FindsField scene faults deleted content memory
  done_ends given deleted coded bytes all turn p q found =
      let track = track_met scene in
      let n = scene.sent.key.n in
      let (start, turned, turned_whole) = turn_heard track scene.from past.turns past.seen turn heard found.among in
      let (at, field, is, intact) = found.finds in
      let same : at ≡ q = omega arith in
      let mark = data_mark_heard track start turn turned p q deleted (subst (λ a. HasDataField turn p n a deleted) same field).first.mark in
      let complete = field_heard track start turn turned q n (content_at turn (q + 64) n) (subst (λ a. IsIntact turn a n) same intact) in (
        content_at turn (q + 64) n,
        record {
          place = p + 16 * start;
          mark = q + 16 * start;
          address_field = address_heard track start turn turned p scene.sent.key found.address;
          data_mark = mark;
          whole = complete;
          in_memory = subst (λ content. HasBytes scene.address content scene.memory memory) (found.content all) bytes;
          looked = λ either. elim either [
            | inl calm ↦ found_on track start turn (turned_whole (whole calm)) turned.inside p n q deleted found.finds
            | inr lone ↦ lone_found track (p + 16 * start) n (q + 16 * start) deleted coded lone mark (intact_of track (q + 16 * start) n _ complete)
          ];
        },
      )

  pub mark_ends : FindsNoMark past → IsCalm scene.faults faults → HasAddressMark (track_met scene) → ⊥
  mark_ends (between, is, none) calm mark =
      none (subst HasAddressMark (sym (between_is (track_met scene) scene.from past between heard (whole calm) is)) mark)

  sector_ends : FindsNoSector past (Some scene.sent.key) → HasAddressMark (track_met scene) × (IsCalm scene.faults faults → HasNoClear (Some scene.sent.key) (track_met scene))
  sector_ends ((words, among, (p, mark)), (between, is, none)) =
      let (start, turned, turned_whole) = turn_heard (track_met scene) scene.from past.turns past.seen words heard among in (
        (p + 16 * start, mark_heard (track_met scene) start words turned p mark),
        λ calm. subst (HasNoClear (Some scene.sent.key)) (between_is (track_met scene) scene.from past between heard (whole calm) is) none,
      )

  bad_ends : FindsBadCheck past scene.sent.key → IsCalm scene.faults faults → HasLook (track_met scene) scene.sent.key BadCrc
  bad_ends finds calm = bad_met (track_met scene) scene.from past scene.sent.key heard (whole calm) finds

  field_ends : FindsNoField past scene.sent.key → IsCalm scene.faults faults → HasLook (track_met scene) scene.sent.key NoData
  field_ends finds calm = no_field_met (track_met scene) scene.from past scene.sent.key heard (whole calm) finds

  -- until the terminal count comes, bytes are missing
  count_ends : (past.counted ≡ false → length past.given < content_size scene.sent.key.n) → FindsUncounted past scene.sent.key past.given → ⊥
  count_ends few (uncounted, all, found) = let missing = few uncounted in omega arith

  pub ends : (ending : Ending) → IsSizeCode scene.sent.key.n → HasBytes scene.address past.given scene.memory memory
      → (past.counted ≡ true → length past.given ≡ content_size scene.sent.key.n) → (past.counted ≡ false → length past.given < content_size scene.sent.key.n) → ReadMeans past scene.sent ending → ReadEndsAs scene faults memory ending
  ends (Done deleted) coded bytes all few (counted, (turn, p, q, found)) = done_ends past.given deleted coded bytes (all counted) turn p q found
  ends NoMark coded bytes all few means = mark_ends means
  ends NoSector coded bytes all few means = sector_ends means
  ends NoField coded bytes all few means = field_ends means
  ends BadCheck coded bytes all few means = bad_ends means
  ends NoCount coded bytes all few means = count_ends few means
  ends Protected coded bytes all few means = means
  ends _ coded bytes all few means = tt

  pub ended : (phase : Phase) → IsSizeCode scene.sent.key.n → HasBytes scene.address past.given scene.memory memory
      → (past.counted ≡ true → length past.given ≡ content_size scene.sent.key.n) → (past.counted ≡ false → length past.given < content_size scene.sent.key.n) → ReadMeansIn past scene.sent phase → ReadEndedIn scene faults memory phase
  ended (Result (Long ending results taken)) coded bytes all few (is, means) = (is, ends ending coded bytes all few means)
  ended _ coded bytes all few means = tt

-- ---- memory

given_few : (scene : Scene) (given : List ℕ) (counted : Bool) (memory : List ℕ) (channel : Channel) → IsMoved scene given counted memory channel → length given ≤ scene.size
given_few scene given true memory channel moved = let all = (moved.over refl).1 in omega arith
given_few scene given false memory channel moved = let (left, all, set) = moved.goes_on refl in omega arith

pub stays_outside : (scene : Scene) (given : List ℕ) (counted : Bool) (memory : List ℕ) (channel : Channel) → IsMoved scene given counted memory channel → StaysOutside scene memory
stays_outside scene given counted memory channel moved =
    let few = given_few scene given counted memory channel moved in
    record {
      lengths = moved.bytes.lengths;
      others = λ k outside. moved.bytes.others k (elim outside [ inl before ↦ inl before | inr behind ↦ inr (omega arith) ]);
    }

-- ---- the request

pub low_outside : (asking busy : Bool) → (asking ≡ true → busy ≡ true) → busy ≡ false → asking ≡ false
low_outside true busy quiet idle = absurd (false≢true (sym idle ∙ quiet refl))
low_outside false busy quiet idle = refl

-- ---- what port accesses leave of a command that listens

-- ---- boards

-- the gap is taken
abbrev pub gapped : Board → Board
gapped board = record board { bus = record board.bus { gaps = rest_of board.bus.gaps } }

-- ---- the channel

pub grants_read : (port : ℕ) (channel : Channel) → grants (after_read port channel) ≡ grants channel
unfolding after_read grants
grants_read port channel = by_port (port == 4 || port == 5) (port == 8)
  where
    by_port : (a b : Bool) → grants (if a then record channel { high_byte_next = not channel.high_byte_next } else (if b then record channel { terminal_count = false } else channel)) ≡ grants channel
    by_port true b = refl
    by_port false true = refl
    by_port false false = refl

-- ---- the controller

pub busy_before : (phase : Phase) → is_executing (phase_after phase) ≡ true → is_executing phase ≡ true
busy_before Command busy = busy
busy_before (Execute execution) busy = refl
busy_before (Result answer) busy = absurd (false≢true (sym (idle_after answer) ∙ busy))

pub still_busy : (phase : Phase) → is_executing phase ≡ true → is_executing (phase_after phase) ≡ true
still_busy Command busy = busy
still_busy (Execute execution) busy = refl
still_busy (Result answer) busy = absurd (false≢true busy)

-- if the results don't report that all steps were taken, they don't report it after a read of the data port either
pub calm_read : (phase : Phase) → is_late phase ≡ false → is_late (phase_after phase) ≡ false
calm_read = given_down is_late refl (λ next last. refl) (λ ending results taken. refl)

-- ---- the drive

pub hearing_less : (scene : Scene) (past : Past) (before now : Bool) (drive : DriveState) → (now ≡ true → before ≡ true) → IsHearing scene past before drive → IsHearing scene past now drive
hearing_less scene past before now drive less hears =
    record { heard = hears.heard; never_falls = hears.never_falls; whole = hears.whole; under = λ busy. hears.under (less busy) }

-- ---- nothing was heard yet

pub none_moved : (scene : Scene) (memory : List ℕ) (channel : Channel) (left : ℕ) → memory ≡ scene.memory → left + 1 ≡ scene.size → IsSet channel scene.address left
    → IsMoved scene [] false memory channel
none_moved scene memory channel left same size set = record {
  bytes = record {
    lengths = ap length same;
    put = λ i below. absurd (omega arith);
    others = λ k outside. ap (λ m. slice_index m k) same;
  };
  goes_on = λ _. let here : scene.address + 0 ≡ scene.address = omega arith in (left, omega arith, subst (λ address. IsSet channel address left) (sym here) set);
  over = λ no. absurd (false≢true no);
}

-- ---- the word time of a READ DATA

-- ---- the word time

pub listens_task : (past : Past) (sent : Sent) (head_drive steps : ℕ) (task : Task) (asking : Bool) (fifo : List ℕ) → MayReadTask past sent head_drive steps task asking fifo
    → (head_drive ≡ sent.head_drive) × (is_listening task ≡ true)
listens_task past sent head_drive steps (Read reading) asking fifo (asks, (told, underway)) = (ap (λ s. s.head_drive) underway.sent_is, refl)
listens_task past sent head_drive steps _ asking fifo was = absurd was

pub asks_busy : (phase : Phase) (asking : Bool) (fifo : Fifo) → phase_asks phase asking fifo ≡ true → is_executing phase ≡ true
asks_busy (Execute execution) asking fifo up = refl
asks_busy _ asking fifo up = absurd (false≢true up)

pub moves_faults : (pulse : Option Bool) (before after : DriveState) → Moves pulse before after → before.faults ≤ after.faults
moves_faults None before after is = let same : after.faults ≡ before.faults = ap (λ s. s.faults) is in omega arith
moves_faults (Some inward) before after (between, pulses, is) =
    let same : after.faults ≡ between.faults = ap (λ s. s.faults) is in elim pulses [
      | inl moved ↦ (let first = moved.never_falls in omega arith)
      | inr lost ↦ (let first = lost.0.never_falls in omega arith)
    ]

-- what is known after the word time
abbrev pub IsBetween : Scene → Chips → Fdc → DriveState → Type 0
IsBetween scene chips between after = IsBehind order.Read scene (record chips { controller = between }) after

pub same_given : (executes index : Bool) (word : ℕ) (past : Past) (P : List ℕ → Bool → Type 0) → P past.given past.counted → P (past_after executes index word past).given (past_after executes index word past).counted
same_given true index word past P was = was
same_given false index word past P was = was

pub still_quiet : (p : Phase) (track0 : Bool) (old between : Fdc) → (polled old).phase ≡ p → (old.asking ≡ true → is_executing p ≡ true) → RestsIn p track0 (polled old) between → FlowsIn p old.asking between
    → between.asking ≡ true → is_executing between.phase ≡ true
still_quiet (Execute execution) track0 old between is quiet rests flows up = asks_busy between.phase old.asking between.fifo (sym flows ∙ up)
still_quiet _ track0 old between is quiet rests flows up = absurd (false≢true (quiet (sym (ap (λ fdc. fdc.asking) rests ∙ polled_asking old) ∙ up)))

-- a command in execution listens under the scene's head
abbrev pub Hearkens : Scene → Phase → Type 0
Hearkens scene (Execute execution) = (execution.head_drive ≡ scene.sent.head_drive) × (is_listening execution.task ≡ true)
Hearkens scene _ = Unit {0}

read_hearkens : (scene : Scene) (past : Past) (phase : Phase) (asking : Bool) (fifo : List ℕ) → MayReadIn past scene.sent phase asking fifo → Hearkens scene phase
read_hearkens scene past (Execute execution) asking fifo was = listens_task past scene.sent execution.head_drive execution.steps execution.task asking fifo was
read_hearkens scene past _ asking fifo was = tt

-- what the command hears goes on, and rests once the command is over
pub heard_at : (scene : Scene) (P : Past → Bool → DriveState → Type 0) → Listening scene P → (past : Past) (old between : Fdc) (drive after : DriveState) → old.rate ≡ scene.rate → (phase : Phase) → (polled old).phase ≡ phase
    → Hearkens scene phase → P past (is_executing phase) drive → (steps : StepHears phase (polled old) (at_index drive) old drive after between)
    → RestsIn phase (drive.cylinder == 0) (polled old) between → MovesIn phase (polled old) drive after
    → P (past_after (is_executing phase) (at_index drive) steps.word past) (is_executing between.phase) after
heard_at scene P listening past old between drive after rate (Execute execution) is (head, listens) hears steps rests moves =
    let sees : SeesUnder scene.rate (head_sent scene.sent) drive steps.word after = subst (λ rate. SeesUnder rate (head_sent scene.sent) drive steps.word after) rate
    (subst (λ byte. SeesUnder old.rate (byte / 4 % 2) drive steps.word after) head
    (subst (λ b. SeesTask b (execution.head_drive / 4 % 2) old.rate drive steps.word after) listens steps.sees)) in
    listening.hears past drive after steps.word (is_executing between.phase) hears sees (subst (λ b. MovesTask b drive after) listens moves)
heard_at scene P listening past old between drive after rate _ is hearkens hears steps rests moves =
    subst (λ b. P past b after) (sym (ap is_executing (ap (λ fdc. fdc.phase) rests ∙ is))) (listening.rests past drive after hears (moves_faults _ drive after moves))

-- what a command hears, by its order
pub listened_as : (order : Order) (scene : Scene) (P : Past → Bool → DriveState → Type 0) → Listening scene P → (past : Past) (chips : Chips) (drive : DriveState) (between : Fdc) (after : DriveState) → IsDoneBy order scene past chips
    → P past (is_executing chips.controller.phase) drive → (works : Works chips.controller drive between after) → Hearkens scene chips.controller.phase
    → (now : Past) → now ≡ past_after (is_executing chips.controller.phase) (at_index drive) works.reads.word past → May order scene now between → Shows order scene between → Moved order scene now chips.memory chips.channel
    → IsDoing order scene (λ past executes. P past executes after) (record chips { controller = between })
listened_as order scene P listening past chips drive between after known hears works hearkens now is may shows moves = record {
  past = now;
  known = record { may = may; shows = shows; dor = ap (λ dor. dor.0) works.stays.dor ∙ known.dor; rate = works.stays.rate ∙ known.rate; moves = moves };
  at = subst (λ p. P p (is_executing between.phase) after) (sym is)
      (heard_at scene P listening past chips.controller between drive after known.rate chips.controller.phase (polled_phase chips.controller) hearkens hears works.reads
      (subst (λ phase. RestsIn phase (drive.cylinder == 0) (polled chips.controller) between) (polled_phase chips.controller) works.rests)
      (subst (λ phase. MovesIn phase (polled chips.controller) drive after) (polled_phase chips.controller) works.drive));
}

pub listened : (scene : Scene) (P : Past → Bool → DriveState → Type 0) → Listening scene P → (past : Past) (chips : Chips) (drive : DriveState) (between : Fdc) (after : DriveState) → IsDoneBy order.Read scene past chips
    → P past (is_executing chips.controller.phase) drive → Works chips.controller drive between after → IsDoing order.Read scene (λ past executes. P past executes after) (record chips { controller = between })
listened scene P listening past chips drive between after known hears works =
    let old = chips.controller in
    listened_as order.Read scene P listening past chips drive between after known hears works (read_hearkens scene past old.phase old.asking old.fifo.bytes known.may) _ refl
    (works.reads.follows.reads past scene.sent known.may)
    (still_quiet old.phase (drive.cylinder == 0) old between (polled_phase old) known.shows (subst (λ phase. RestsIn phase (drive.cylinder == 0) (polled old) between) (polled_phase old) works.rests) works.flows)
    (same_given (is_executing old.phase) (at_index drive) works.reads.word past (λ given counted. IsMoved scene given counted chips.memory chips.channel) known.moves)

-- what a command hears is of the words of the track
pub listening : (scene : Scene) → IsScene scene → Listening scene (IsHearing scene)
listening scene whole = record {
  hears = λ past drive after word executes hears sees becomes. hearing_on scene past drive after word executes whole.disk hears sees becomes;
  rests = hearing_over scene;
}

pub word_time : (scene : Scene) (past : Past) (chips : Chips) (drive : DriveState) (between : Fdc) (after : DriveState) → IsScene scene → IsDoneBy order.Read scene past chips
    → IsHearing scene past (is_executing chips.controller.phase) drive → Works chips.controller drive between after → IsBetween scene chips between after
word_time scene past chips drive between after whole known hears works = listened scene (IsHearing scene) (listening scene whole) past chips drive between after known hears works

-- ---- the transfers after the word time

-- a READ DATA in execution reads
pub reads_there : (past : Past) (sent : Sent) (phase : Phase) (asking : Bool) (fifo : List ℕ) → MayReadIn past sent phase asking fifo → is_executing phase ≡ true → is_reading phase ≡ true
reads_there past sent (Execute execution) asking fifo was busy = in_task execution.task execution.head_drive execution.steps was
  where
    in_task : (task : _) (head_drive steps : ℕ) → MayReadIn past sent (Execute (record { head_drive = head_drive; steps = steps; task = task })) asking fifo
        → is_reading (Execute (record { head_drive = head_drive; steps = steps; task = task })) ≡ true
    in_task (Read reading) head_drive steps was = refl
    in_task _ head_drive steps was = absurd was
reads_there past sent _ asking fifo was busy = absurd (false≢true busy)

-- the same words were heard
pub record SameWords (past now : Past) : Type 0 where
  pub turns : now.turns ≡ past.turns
  pub seen : now.seen ≡ past.seen

pub hearing_same : (scene : Scene) (past now : Past) (executes : Bool) (drive : DriveState) → SameWords past now → IsHearing scene past executes drive → IsHearing scene now executes drive
hearing_same scene past now executes drive same hears =
    let heard_at : (turns : List (List ℕ)) → now.turns ≡ turns → IsHeardFrom (track_met scene) scene.from turns past.seen → IsHeardFrom (track_met scene) scene.from now.turns now.seen =
    λ turns is all. subst (λ t. IsHeardFrom (track_met scene) scene.from t now.seen) (sym is) (subst (λ s. IsHeardFrom (track_met scene) scene.from turns s) (sym same.seen) all) in
    record {
      heard = heard_at past.turns same.turns hears.heard;
      never_falls = hears.never_falls;
      whole = λ calm. subst (λ t. IsWholeFrom (track_met scene) scene.from t now.seen) (sym same.turns)
          (subst (λ s. IsWholeFrom (track_met scene) scene.from past.turns s) (sym same.seen) (hears.whole calm));
      under = λ busy. let was = hears.under busy in record {
        medium = was.medium;
        cylinder = was.cylinder;
        motor = was.motor;
        speed = was.speed;
        place = was.place ∙ (ap (λ t. place_in scene.from t past.seen) (sym same.turns) ∙ ap (λ s. place_in scene.from now.turns s) (sym same.seen));
        inside = was.inside;
      };
    }

-- ---- the drives

pub same_drive : (first second first_now second_now : DriveState) → first_now ≡ first → second_now ≡ second → (b : Bool)
    → (if b then first_now else second_now) ≡ (if b then first else second)
same_drive first second first_now second_now one two true = one
same_drive first second first_now second_now one two false = two
