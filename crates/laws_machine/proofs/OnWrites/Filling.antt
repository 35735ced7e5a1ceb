-- One more byte of the range, and the channel after it.
use Rattle.std.proofs.Common.{◌≡◌, ℕ, ◌+◌, ◌-◌, ◌<◌, ◌≤◌, ◌==◌, Bool, true, false, List, [], ◌∷◌, ◌++◌, length, slice_index, take, drop, if◌then◌else◌, refl, sym, ◌∙◌, ap, subst, arith, add-one, length-append}
use Rattle.std.proofs.Math.Seq.{take-suc}
use Rattle.laws_machine.proofs.Common.{Channel, after_transfer, place_of, byte_read, Scene, IsTaken, get_or-drop, length-drop, false≢true, grants, reads_memory, IsReadSet, Fifo, room_of, asking_told, fifo_told, taken_in, told_count, with_byte, phase_asks, phase_told, task_asks, task_told, is_moving, is_read, is_reading, asks, PhaseWaits, phase_counted, task_counted, Phase, Execute, Task, ReadId, Format, Holds, moved_from_memory, moved_to_memory, told_if, Chips, fills, fills_task, IsFilling, nat_tests, TaskWaits, ReadTask as Read, WriteTask as Write}
use Rattle.laws_machine.proofs.Facts.{length_more, not_granting, same_grants, set_over, some_of, number_is, each_task, told_keeps}
use Rattle.laws_machine.proofs.OnReads.Bytes.{behind_byte}
use Rattle.fdc_core.proofs.Feeding.{in_waits, told_waits, low_waits}
use Rattle.pc_bus.specs.Transfers.{moved}
use Rattle.laws_machine.proofs.OnReads.Served.{phase_again}
use Rattle.laws_machine.proofs.OnSteps.Words.{into_only}

-- one element more
pub take_one : (list : List ℕ) (n : ℕ) → n < length list → take (n + 1) list ≡ take n list ++ slice_index list n ∷ []
take_one list n below = rw add-one (take-suc list n 0 below)

-- ---- the channel

set_more : (channel : Channel) (address left : ℕ) → IsReadSet channel address left → (channel.count == 0) ≡ false
    → IsReadSet (after_transfer channel) (address + 1) (left - 1)
set_more channel address left set more =
    let (place, count, room) = behind_byte channel address left set.place set.count set.room more in
    record { granting = same_grants channel more ∙ set.granting; reading = set.reading; place = place; count = count; room = room }

-- ---- a byte that came from memory

-- the terminal count hasn't come while the channel grants
pub still_uncounted : (scene : Scene) (taken : List ℕ) (counted : Bool) (memory : List ℕ) (channel : Channel) → IsTaken scene taken counted memory channel
    → grants channel ≡ true → counted ≡ false
still_uncounted scene taken true memory channel was granting = absurd (not_granting (grants channel) (was.over refl).0 granting)
still_uncounted scene taken false memory channel was granting = refl

byte_is : (reading : Bool) (byte : ℕ) → reading ≡ true → (if reading then byte else 0xFF) ≡ byte
byte_is true byte is = refl
byte_is false byte is = absurd cc

pub taken_more : (scene : Scene) (taken : List ℕ) (memory : List ℕ) (channel : Channel)
    → scene.address + scene.size ≤ length scene.memory → IsTaken scene taken false memory channel
    → (last : Bool) → (channel.count == 0) ≡ last
    → IsTaken scene (taken ++ byte_read channel memory ∷ []) last memory (after_transfer channel)
taken_more scene taken memory channel fits was last is =
    let (left, all, set) = was.goes_on refl in
    let byte = byte_read channel memory in
    let more = length_more taken byte in
    let rest = drop scene.address scene.memory in
    let long : length rest ≡ length scene.memory - scene.address = length-drop scene.address scene.memory in
    let here : byte ≡ slice_index rest (length taken) =
    byte_is (reads_memory channel) (slice_index memory (place_of channel)) set.reading
    ∙ (ap (λ m. slice_index m (place_of channel)) was.same
    ∙ (ap (slice_index scene.memory) set.place ∙ sym (get_or-drop scene.address scene.memory (length taken) 0))) in
    record {
      same = was.same;
      first = ap (λ bytes. bytes ++ byte ∷ []) was.first
          ∙ (ap (λ b. take (length taken) rest ++ b ∷ []) here
          ∙ (sym (take_one rest (length taken) (omega arith)) ∙ ap (λ n. take n rest) (sym more)));
      goes_on = λ uncounted. let on : (channel.count == 0) ≡ false = is ∙ uncounted in (
        left - 1,
        (let some = some_of channel.count on in let count = set.count in omega arith),
        subst (λ address. IsReadSet (after_transfer channel) address (left - 1)) (omega arith) (set_more channel (scene.address + length taken) left set on),
      );
      over = λ counted. let none = number_is channel.count 0 (is ∙ counted) in let count = set.count in
          (set_over channel (is ∙ counted), omega arith);
    }

-- ---- no byte was taken yet

pub none_taken : (scene : Scene) (memory : List ℕ) (channel : Channel) (left : ℕ) → memory ≡ scene.memory → left + 1 ≡ scene.size → IsReadSet channel scene.address left
    → IsTaken scene [] false memory channel
none_taken scene memory channel left same size set = record {
  same = same;
  first = refl;
  goes_on = λ _. let here : scene.address + 0 ≡ scene.address = omega arith in (left, omega arith, subst (λ address. IsReadSet channel address left) (sym here) set);
  over = λ no. absurd (false≢true no);
}

-- ---- what transfers leave of a command that takes bytes from memory

-- ---- the rule

-- DRQ by the rule stays as it is
pub ruled_by : (phase : Phase) (asking now : Bool) (fifo : Fifo) → now ≡ phase_asks phase asking fifo → now ≡ phase_asks phase now fifo
ruled_by phase asking now fifo rule = rule ∙ (sym (phase_again phase asking fifo) ∙ ap (λ b. phase_asks phase b fifo) (sym rule))

-- ---- phases

not_read : (task : Task) → fills_task task ≡ true → is_read task ≡ false
not_read (Read reading) is = absurd (false≢true is)
not_read _ is = refl

pub not_reading : (phase : Phase) → fills phase ≡ true → is_reading phase ≡ false
not_reading (Execute execution) is = not_read execution.task is
not_reading _ is = refl

-- the command after the terminal count
told_fills : (phase : Phase) → fills (phase_told phase) ≡ fills phase
told_fills = told_keeps fills (λ execution. each_task (λ task. fills_task (task_told task) ≡ fills_task task) (λ _. refl) (λ _. refl) (λ _. refl) (λ _. refl) execution.task)

told_counted : (phase : Phase) → phase_counted (phase_told phase) ≡ true
told_counted (Execute execution) = each_task (λ task. task_counted (task_told task) ≡ true) (λ _. refl) (λ _. refl) (λ _. refl) (λ _. refl) execution.task
told_counted _ = refl

told_low : (phase : Phase) (asking : Bool) (fifo : Fifo) → fills phase ≡ true → asking_told (is_moving phase) asking ≡ phase_asks (phase_told phase) (asking_told (is_moving phase) asking) fifo
told_low (Execute execution) asking fifo is = in_task execution.task is
  where
    in_task : (task : Task) → fills_task task ≡ true
        → asking_told (is_moving (Execute (record execution { task = task }))) asking ≡ task_asks (task_told task) (asking_told (is_moving (Execute (record execution { task = task }))) asking) fifo
    in_task (Write writing) is = refl
    in_task (Format formatting) is = refl
    in_task _ is = absurd (false≢true is)
told_low _ asking fifo is = absurd (false≢true is)

-- after the terminal count the command can wait for ever
counted_task : (slack : ℕ) (task : Task) (fifo : Fifo) → fills_task task ≡ true → task_counted task ≡ true → TaskWaits slack task fifo
counted_task slack (ReadId search) fifo is counted = tt
counted_task slack (Read reading) fifo is counted = absurd (false≢true is)
counted_task slack _ fifo is counted = λ uncounted. absurd (false≢true (sym uncounted ∙ counted))

pub counted_waits : (slack : ℕ) (phase : Phase) (fifo : Fifo) → fills phase ≡ true → phase_counted phase ≡ true → PhaseWaits slack phase fifo
counted_waits slack (Execute execution) fifo is counted = counted_task slack execution.task fifo is counted
counted_waits slack _ fifo is counted = tt

-- ---- a byte

room_more : (byte : ℕ) (fifo : Fifo) → fifo.on ≡ true → length fifo.bytes ≤ 16 → length (with_byte byte fifo).bytes ≤ 16
room_more byte fifo on room = by_full (length fifo.bytes == room_of fifo.on) refl
  where
    unlike : (a b : ℕ) → (a == b) ≡ false → a ≤ b → a < b
    unlike a b h less = grind (arith, nat_tests)

    by_full : (full : Bool) → (length fifo.bytes == room_of fifo.on) ≡ full → length (if full then fifo else record fifo { bytes = fifo.bytes ++ byte ∷ [] }).bytes ≤ 16
    by_full true is = room
    by_full false is =
        let wide : room_of fifo.on ≡ 16 = ap room_of on in
        let less = unlike (length fifo.bytes) (room_of fifo.on) is (omega arith) in
        let more = length-append fifo.bytes (byte ∷ []) in omega arith

told_mode : (b : Bool) (fifo : Fifo) → b ≡ false → fifo_told b fifo ≡ fifo
told_mode true fifo is = absurd (false≢true (sym is))
told_mode false fifo is = refl

-- a byte came
into : (slack : ℕ) (chips : Chips) (byte : ℕ) (channel : Channel) → IsFilling slack chips → (phase_counted chips.controller.phase ≡ false → grants channel ≡ true)
    → IsFilling slack (record chips { controller = taken_in byte chips.controller; channel = channel })
into slack chips byte channel was granting =
    let fdc = chips.controller in
    let only = into_only byte fdc in
    record {
      on = ap (λ f. f.fifo.on) only ∙ was.on;
      threshold = ap (λ f. f.fifo.threshold) only ∙ was.threshold;
      gated = was.gated;
      fills_it = was.fills_it;
      rule = sym (phase_again fdc.phase fdc.asking (with_byte byte fdc.fifo));
      room = room_more byte fdc.fifo was.on was.room;
      granting = granting;
      waits = in_waits slack byte fdc.phase fdc.fifo (not_reading fdc.phase was.fills_it) was.waits;
    }

-- then TC comes
told : (slack : ℕ) (chips : Chips) → IsFilling slack chips → IsFilling slack (record chips { controller = told_count chips.controller })
told slack chips was =
    let fdc = chips.controller in
    let same : fifo_told (is_reading fdc.phase) fdc.fifo ≡ fdc.fifo = told_mode (is_reading fdc.phase) fdc.fifo (not_reading fdc.phase was.fills_it) in
    record {
      on = ap (λ (fifo : Fifo). fifo.on) same ∙ was.on;
      threshold = ap (λ (fifo : Fifo). fifo.threshold) same ∙ was.threshold;
      gated = was.gated;
      fills_it = told_fills fdc.phase ∙ was.fills_it;
      rule = told_low fdc.phase fdc.asking (fifo_told (is_reading fdc.phase) fdc.fifo) was.fills_it;
      room = subst (λ (fifo : Fifo). length fifo.bytes ≤ 16) (sym same) was.room;
      granting = λ uncounted. absurd (false≢true (sym uncounted ∙ told_counted fdc.phase));
      waits = told_waits slack fdc.phase (fifo_told (is_reading fdc.phase) fdc.fifo);
    }

-- TC may come with a channel that is masked from then on
masked : (slack : ℕ) (chips : Chips) (byte : ℕ) (channel : Channel) → IsFilling slack chips → IsFilling slack (record chips { controller = told_count (taken_in byte chips.controller); channel = channel })
masked slack chips byte channel was =
    let first = into slack chips byte chips.channel was was.granting in
    let second = told slack (record chips { controller = taken_in byte chips.controller }) first in
    record {
      on = second.on;
      threshold = second.threshold;
      gated = second.gated;
      fills_it = second.fills_it;
      rule = second.rule;
      room = second.room;
      granting = λ uncounted. absurd (false≢true (sym uncounted ∙ told_counted chips.controller.phase));
      waits = second.waits;
    }

by_last : (slack : ℕ) (chips : Chips) → IsFilling slack chips → (last : Bool) → (chips.channel.count == 0) ≡ last
    → IsFilling slack (record chips { controller = told_if last (taken_in (byte_read chips.channel chips.memory) chips.controller); channel = after_transfer chips.channel })
by_last slack chips was true is = masked slack chips (byte_read chips.channel chips.memory) (after_transfer chips.channel) was
by_last slack chips was false is =
    into slack chips (byte_read chips.channel chips.memory) (after_transfer chips.channel) was (λ uncounted. same_grants chips.channel is ∙ was.granting uncounted)

pub filling_moved : (slack : ℕ) (chips : Chips) → IsFilling slack chips → IsFilling slack (moved chips)
unfolding moved
filling_moved slack chips was =
    let P : Bool → Type 0 = λ b. IsFilling slack (if b then moved_to_memory chips else moved_from_memory chips) in
    subst P (sym (not_reading chips.controller.phase was.fills_it)) (by_last slack chips was (chips.channel.count == 0) refl)

-- the request plays no part
filling_as : (slack later : ℕ) (chips : Chips) (holding : Holds) → IsFilling slack chips → PhaseWaits later chips.controller.phase chips.controller.fifo → IsFilling later (record chips { holding = holding })
filling_as slack later chips holding was waits = record {
  on = was.on;
  threshold = was.threshold;
  gated = was.gated;
  fills_it = was.fills_it;
  rule = was.rule;
  room = was.room;
  granting = was.granting;
  waits = waits;
}

pub filling_held : (slack : ℕ) (chips : Chips) (holding : Holds) → IsFilling slack chips → IsFilling slack (record chips { holding = holding })
filling_held slack chips holding was = filling_as slack slack chips holding was was.waits

-- while DRQ is low no byte is missing for nine device steps
pub filling_low : (slack : ℕ) (chips : Chips) → IsFilling slack chips → asks chips.controller ≡ false → IsFilling 9 chips
filling_low slack chips was low = filling_as slack 9 chips chips.holding was
    (low_waits slack chips.controller (record { before = chips.controller.asking; asks = was.rule; gated = was.gated; on = was.on; threshold = was.threshold }) was.waits low)
