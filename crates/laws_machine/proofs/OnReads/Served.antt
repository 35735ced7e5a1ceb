-- A request that is served falls.
use Rattle.std.proofs.Common.{◌≡◌, ℕ, zero, suc, ◌+◌, ◌-◌, ◌≤◌, ◌==◌, ◌&&◌, ◌||◌, not, nat_le, Bool, true, false, List, [], ◌∷◌, ◌++◌, length, drop, if◌then◌else◌, refl, sym, ◌∙◌, subst, arith, length-append}
use Rattle.laws_machine.proofs.Common.{Fifo, room_of, worth_fetching, taken_out, taken_in, with_byte, fifo_told, asking_told, task_asks, phase_asks, task_told, phase_told, is_reading, is_read, is_moving, is_over, asks, is_gated, Fdc, Phase, Execute, Task, ReadId, Format, can_move, moved_to_memory, moved_from_memory, byte_read, told_if, Chips, IsRuled, and_parts, false≢true, grants, low_level, ReadTask as Read, WriteTask as Write, GoesByRule, moves_left}
use Rattle.laws_machine.proofs.Facts.{different}
use Rattle.pc_bus.specs.Transfers.{moved, moved_up_to}
use Rattle.laws_machine.proofs.OnSteps.Transfers.{up_to_moves}

-- ---- tests

again : (n a e l : Bool) → (n && ((n && (a || e || l)) || e || l)) ≡ (n && (a || e || l))
again false a e l = refl
again true true e l = refl
again true false true l = refl
again true false false true = refl
again true false false false = refl

again_filling : (n a l : Bool) → (n && ((n && (a || l)) || l)) ≡ (n && (a || l))
again_filling false a l = refl
again_filling true true l = refl
again_filling true false true = refl
again_filling true false false = refl

not_first : (z x : Bool) → true ≡ (not z && x) → z ≡ false
not_first true x h = absurd (false≢true (sym h))
not_first false x h = refl

neither : (t z x : Bool) → true ≡ (not (t || z) && x) → z ≡ false
neither true z x h = absurd (false≢true (sym h))
neither false z x h = not_first z x h

length_rest : (bytes : List ℕ) → length (drop 1 bytes) ≡ length bytes - 1
length_rest [] = refl
length_rest (byte ∷ bytes) = omega arith

-- ---- the rule

task_again : (task : Task) (asking : Bool) (fifo : Fifo) → task_asks task (task_asks task asking fifo) fifo ≡ task_asks task asking fifo
task_again (ReadId search) asking fifo = refl
task_again (Read reading) asking fifo = again (not (length fifo.bytes == 0)) asking (is_over reading.stage) (nat_le (worth_fetching fifo) (length fifo.bytes))
task_again (Write writing) asking fifo = again_filling (not (writing.counted || length fifo.bytes == room_of fifo.on)) asking (nat_le (length fifo.bytes) (low_level fifo))
task_again (Format formatting) asking fifo = again_filling (not (formatting.counted || length fifo.bytes == room_of fifo.on)) asking (nat_le (length fifo.bytes) (low_level fifo))

pub phase_again : (phase : Phase) (asking : Bool) (fifo : Fifo) → phase_asks phase (phase_asks phase asking fifo) fifo ≡ phase_asks phase asking fifo
phase_again (Execute execution) asking fifo = task_again execution.task asking fifo
phase_again _ asking fifo = refl

-- a READ DATA that asks has a byte
some_task : (task : Task) (asking : Bool) (fifo : Fifo) → is_read task ≡ true → true ≡ task_asks task asking fifo → (length fifo.bytes == 0) ≡ false
some_task (Read reading) asking fifo is up = not_first (length fifo.bytes == 0) _ up
some_task _ asking fifo is up = absurd (false≢true is)

some_byte : (phase : Phase) (asking : Bool) (fifo : Fifo) → is_reading phase ≡ true → true ≡ phase_asks phase asking fifo → (length fifo.bytes == 0) ≡ false
some_byte (Execute execution) asking fifo is up = some_task execution.task asking fifo is up
some_byte _ asking fifo is up = absurd (false≢true is)

-- a command that writes and asks has room
room_task : (task : Task) (asking : Bool) (fifo : Fifo) → is_read task ≡ false → true ≡ task_asks task asking fifo → (length fifo.bytes == room_of fifo.on) ≡ false
room_task (Read reading) asking fifo is up = absurd (false≢true (sym is))
room_task (ReadId search) asking fifo is up = absurd (false≢true (sym up))
room_task (Write writing) asking fifo is up = neither writing.counted (length fifo.bytes == room_of fifo.on) _ up
room_task (Format formatting) asking fifo is up = neither formatting.counted (length fifo.bytes == room_of fifo.on) _ up

some_room : (phase : Phase) (asking : Bool) (fifo : Fifo) → is_reading phase ≡ false → true ≡ phase_asks phase asking fifo → (length fifo.bytes == room_of fifo.on) ≡ false
some_room (Execute execution) asking fifo is up = room_task execution.task asking fifo is up
some_room _ asking fifo is up = absurd (false≢true (sym up))

-- ---- one byte

-- DRQ goes by the rule, and there are fewer bytes to move
pub record GoesOnFewer (phase : Phase) (asking : Bool) (fifo : Fifo) (before : ℕ) : Type 0 where
  pub ruled : GoesByRule phase asking fifo
  pub fewer : moves_left phase fifo + 1 ≤ before

pub left_reading : (phase : Phase) (fifo : Fifo) → is_reading phase ≡ true → moves_left phase fifo ≡ length fifo.bytes
left_reading phase fifo is = rw is refl

left_writing : (phase : Phase) (fifo : Fifo) → is_reading phase ≡ false → moves_left phase fifo ≡ room_of fifo.on - length fifo.bytes
left_writing phase fifo is = rw is refl

out_fewer : (phase : Phase) (asking : Bool) (fifo : Fifo) → is_reading phase ≡ true → asking ≡ true → GoesByRule phase asking fifo
    → GoesOnFewer phase (phase_asks phase asking (record fifo { bytes = drop 1 fifo.bytes })) (record fifo { bytes = drop 1 fifo.bytes }) (moves_left phase fifo)
out_fewer phase asking fifo is up was =
    let less : Fifo = record fifo { bytes = drop 1 fifo.bytes } in
    let shorter = length_rest fifo.bytes in
    let some = different (length fifo.bytes) 0 (some_byte phase asking fifo is (sym up ∙ was.rule)) in
    let before = left_reading phase fifo is in
    let after = left_reading phase less is in
    let room = was.room in
    record {
      ruled = record { rule = sym (phase_again phase asking less); room = omega arith };
      fewer = let positive : 1 ≤ length fifo.bytes = at_least (length fifo.bytes) some in omega arith;
    }
  where
    at_least : (n : ℕ) → (n ≡ 0 → ⊥) → 1 ≤ n
    at_least zero none = absurd (none refl)
    at_least (suc n) none = omega arith

in_fewer : (phase : Phase) (asking : Bool) (fifo : Fifo) (byte : ℕ) → is_reading phase ≡ false → asking ≡ true → GoesByRule phase asking fifo
    → GoesOnFewer phase (phase_asks phase asking (with_byte byte fifo)) (with_byte byte fifo) (moves_left phase fifo)
in_fewer phase asking fifo byte is up was =
    let free = some_room phase asking fifo is (sym up ∙ was.rule) in
    let more : Fifo = record fifo { bytes = fifo.bytes ++ byte ∷ [] } in
    let P : Bool → Type 0 = λ full. GoesOnFewer phase (phase_asks phase asking (if full then fifo else more)) (if full then fifo else more) (moves_left phase fifo) in
    let long : length more.bytes ≡ length fifo.bytes + 1 = length-append fifo.bytes (byte ∷ []) in
    let unlike = different (length fifo.bytes) (room_of fifo.on) free in
    let room = was.room in
    let below : length fifo.bytes + 1 ≤ room_of fifo.on = omega arith in
    let before = left_writing phase fifo is in
    let after = left_writing phase more is in
    subst P (sym free) (record {
      ruled = record { rule = sym (phase_again phase asking more); room = omega arith };
      fewer = omega arith;
    })

-- TC leaves no more bytes to move
told_task_ruled : (head_drive steps : ℕ) (task : Task) (asking : Bool) (fifo : Fifo) (before : ℕ)
    → GoesOnFewer (Execute (record { head_drive = head_drive; steps = steps; task = task })) asking fifo before
    → GoesOnFewer (Execute (record { head_drive = head_drive; steps = steps; task = task_told task }))
    (asking_told (is_moving (Execute (record { head_drive = head_drive; steps = steps; task = task }))) asking) (fifo_told (is_read task) fifo) before
told_task_ruled head_drive steps (ReadId search) asking fifo before was = was
told_task_ruled head_drive steps (Read reading) asking fifo before was =
    let fewer = was.fewer in record { ruled = record { rule = refl; room = omega arith }; fewer = omega arith }
told_task_ruled head_drive steps _ asking fifo before was =
    record { ruled = record { rule = refl; room = was.ruled.room }; fewer = was.fewer }

told_ruled : (phase : Phase) (asking : Bool) (fifo : Fifo) (before : ℕ) → GoesOnFewer phase asking fifo before
    → GoesOnFewer (phase_told phase) (asking_told (is_moving phase) asking) (fifo_told (is_reading phase) fifo) before
told_ruled (Execute execution) asking fifo before was = told_task_ruled execution.head_drive execution.steps execution.task asking fifo before was
told_ruled _ asking fifo before was = was

abbrev Fewer : Fdc → ℕ → Type 0
Fewer controller before = GoesOnFewer controller.phase controller.asking controller.fifo before

last_fewer : (last : Bool) (controller : Fdc) (before : ℕ) → Fewer controller before → Fewer (told_if last controller) before
last_fewer true controller before was = told_ruled controller.phase controller.asking controller.fifo before was
last_fewer false controller before was = was

moved_fewer : (chips : Chips) → can_move chips ≡ true → IsRuled chips.controller → Fewer (moved chips).controller (moves_left chips.controller.phase chips.controller.fifo)
unfolding moved
moved_fewer chips can was = by_way (is_reading chips.controller.phase) refl
  where
    by_way : (b : Bool) → is_reading chips.controller.phase ≡ b
        → Fewer (if b then moved_to_memory chips else moved_from_memory chips).controller (moves_left chips.controller.phase chips.controller.fifo)
    by_way true is = last_fewer (chips.channel.count == 0) (taken_out chips.controller) _
        (out_fewer chips.controller.phase chips.controller.asking chips.controller.fifo is
        (and_parts (is_gated chips.controller) chips.controller.asking (and_parts (asks chips.controller) (grants chips.channel) can).0).1 was)
    by_way false is = last_fewer (chips.channel.count == 0) (taken_in (byte_read chips.channel chips.memory) chips.controller) _
        (in_fewer chips.controller.phase chips.controller.asking chips.controller.fifo (byte_read chips.channel chips.memory) is
        (and_parts (is_gated chips.controller) chips.controller.asking (and_parts (asks chips.controller) (grants chips.channel) can).0).1 was)

-- ---- all of them

-- with nothing left to move the controller doesn't ask
pub record IsServed (chips : Chips) : Type 0 where
  pub falls : can_move chips ≡ false
  pub ruled : IsRuled chips.controller

none_left : (chips : Chips) → IsRuled chips.controller → moves_left chips.controller.phase chips.controller.fifo ≤ 0 → (can : Bool) → can_move chips ≡ can → can_move chips ≡ false
none_left chips was few true can = let fewer = (moved_fewer chips can was).fewer in absurd (omega arith)
none_left chips was few false can = can

by_can : (n : ℕ) (chips : Chips) (can : Bool) → can_move chips ≡ can → (can ≡ true → can_move (moved_up_to n (moved chips)) ≡ false)
    → can_move (if can then moved_up_to n (moved chips) else chips) ≡ false
by_can n chips true is falls = falls refl
by_can n chips false is falls = is

all_moved : (n : ℕ) (chips : Chips) → IsRuled chips.controller → moves_left chips.controller.phase chips.controller.fifo ≤ n
    → can_move (moved_up_to n chips) ≡ false
unfolding moved_up_to
all_moved zero chips was few = none_left chips was few (can_move chips) refl
all_moved (suc n) chips was few =
    by_can n chips (can_move chips) refl (λ can. let on = moved_fewer chips can was in let fewer = on.fewer in all_moved n (moved chips) on.ruled (omega arith))

pub stays_ruled : (n : ℕ) (chips : Chips) → IsRuled chips.controller → IsRuled (moved_up_to n chips).controller
stays_ruled = up_to_moves (λ c. IsRuled c.controller) (λ chips can was. (moved_fewer chips can was).ruled)

pub served : (n : ℕ) (chips : Chips) → IsRuled chips.controller → moves_left chips.controller.phase chips.controller.fifo ≤ n → IsServed (moved_up_to n chips)
served n chips was few = record { falls = all_moved n chips was few; ruled = stays_ruled n chips was }
