-- Bytes that a read puts into memory, as a driver sees them.
use Rattle.std.proofs.Common.{◌≡◌, ◌⊎◌, inl, inr, ℕ, ◌+◌, ◌-◌, ◌^◌, ◌<◌, ◌≤◌, List, length, get_or, slice_index, sym, ◌∙◌, ap, subst, arith, ◌∷◌, take, refl, zero, suc, ◌==◌, ◌&&◌, ◌||◌, Bool, true, false, min, nat_le, IsSome, is_some}
use Rattle.machine_commands.proofs.Common.{with_items, user_bytes, HasBytes, InRange, Board, memory_of, rig_of, cases_lt, ext_get_or, get_or_past, get_or-take, get_or-drop, length-take, length-drop, SameOutside, IsSound, with_bay, DriveState, Rig, StationState, fresh_bay, IsExchanged, counts_of, ExchangesDrive, Driver, flags_shown, flags_of, all_counts, length-take-le, take-replicate, count_by-le-length, both, DriveCounts, DriveTells, Holds, Bus, AreSetIfEmpty, holds_of, CostsFor, IsReset, IsFresh, stalls_left, IsFreshDriver, CanSetUp, flags_of_both, in_bay, turns, dor_of, data_commands_of, Fdc, controller_of, OnlyAsks, dor_with, IsReady, IsIdle, is_up, is_spun, Motors, or_right, nat_tests, StartsMotor, with_motor_of}
use Rattle.track_model.proofs.Splices.{length-with_items, with_items_before, with_items_at, with_items_behind}
use Rattle.machine_commands.specs.Shown.{user_part, page_part}
use Rattle.std.specs.Prelude.{None, nat_lt, All}
use Rattle.floppy_driver.specs.Shown.{shown}
use Rattle.machine_commands.proofs.StationHandling.{becomes_exchanged, past_driver}
use Rattle.flop_base.specs.Memory.{zeroes}
use Rattle.pc_bus.specs.Calls.{AreCalled}
use Rattle.laws_machine.proofs.OnLines.Showing.{calls_lines, new_lines}
use Rattle.machine_commands.specs.Started.{IsFreshBoard, Starts}
use Rattle.machine_commands.proofs.Selecting.{flags_put, IsSwitched, IsDorWritten, is_dor, with_dor, dor_access, dor_is_written, ready_rests, ready_with}
use Rattle.machine_commands.proofs.Idling.{idle_by, IsResting, KeepsSpeed, KeepsAll, Idles, keeps_asking, at_speed_on}
use Rattle.machine_commands.proofs.Accesses.{accessed_keeps, gap_idles}
use Rattle.machine_commands.proofs.Steps.{same_turning, keeps_then, idles_then, waits_spinning}

-- ---- both parts

pub user_length : (memory : List ℕ) → length memory ≡ 1048576 → length (user_part memory) ≡ user_bytes
unfolding user_part
user_length memory long = omega (arith, length-take user_bytes memory)

pub page_length : (memory : List ℕ) → length memory ≡ 1048576 → length (page_part memory) ≡ 65536
unfolding page_part
page_length memory long = omega (arith, length-drop user_bytes memory)

pub user_at : (memory : List ℕ) (k : ℕ) → k < user_bytes → get_or (user_part memory) k 0 ≡ get_or memory k 0
unfolding user_part
user_at memory k below = get_or-take user_bytes memory k 0 below

pub page_at : (memory : List ℕ) (k : ℕ) → get_or (page_part memory) k 0 ≡ get_or memory (user_bytes + k) 0
unfolding page_part
page_at memory k = get_or-drop user_bytes memory k 0

-- memory is the same outside a range
pub record SameBut (old : List ℕ) (address size : ℕ) (new : List ℕ) : Type 0 where
  pub lengths : length new ≡ length old
  pub others : (k : ℕ) → (k < address) ⊎ (address + size ≤ k) → get_or new k 0 ≡ get_or old k 0

pub user_same : (old new : List ℕ) (address size : ℕ) → length old ≡ 1048576 → SameBut old address size new → user_bytes ≤ address → user_part new ≡ user_part old
user_same old new address size long but above =
    let one = user_length old long in
    let two = user_length new (but.lengths ∙ long) in
    ext_get_or 0 (user_part new) (user_part old) (two ∙ sym one)
    (λ k within. (let below : k < user_bytes = omega arith in user_at new k below ∙ (but.others k (inl (omega arith)) ∙ sym (user_at old k below))))

pub page_same : (old new : List ℕ) (address size : ℕ) → length old ≡ 1048576 → SameBut old address size new → address + size ≤ user_bytes → page_part new ≡ page_part old
page_same old new address size long but below =
    ext_get_or 0 (page_part new) (page_part old) (page_length new (but.lengths ∙ long) ∙ sym (page_length old long))
    (λ k within. page_at new k ∙ (but.others (user_bytes + k) (inr (omega arith)) ∙ sym (page_at old k)))

pub user_outside : (old new : List ℕ) (address size : ℕ) → length old ≡ 1048576 → SameBut old address size new → SameOutside address size (user_part old) (user_part new)
user_outside old new address size long but =
    let one = user_length old long in
    let two = user_length new (but.lengths ∙ long) in
    record {
      length = two ∙ sym one;
      others = λ k outside. elim (cases_lt k user_bytes) [
        | inl below ↦ user_at new k below ∙ (but.others k outside ∙ sym (user_at old k below))
        | inr above ↦ get_or_past (user_part new) k 0 (omega arith) ∙ sym (get_or_past (user_part old) k 0 (omega arith))
      ];
    }

-- ---- bytes put there

pub user_with : (old new : List ℕ) (address : ℕ) (bytes : List ℕ) → length old ≡ 1048576 → HasBytes address bytes old new → address + length bytes ≤ user_bytes
    → user_part new ≡ with_items (user_part old) address bytes
user_with old new address bytes long has fits =
    let one = user_length old long in
    let two = user_length new (has.lengths ∙ long) in
    let inside : address + length bytes ≤ length (user_part old) = omega arith in
    let three = length-with_items (user_part old) address bytes inside in
    ext_get_or 0 (user_part new) (with_items (user_part old) address bytes) (two ∙ sym (three ∙ one))
    (λ k within. (let below : k < user_bytes = omega arith in user_at new k below ∙ at k below inside))
  where
    at : (k : ℕ) → k < user_bytes → address + length bytes ≤ length (user_part old) → get_or new k 0 ≡ get_or (with_items (user_part old) address bytes) k 0
    at k below inside = elim (cases_lt k address) [
      | inl before ↦ has.others k (inl before) ∙ (sym (user_at old k below) ∙ sym (with_items_before (user_part old) address bytes inside k before))
      | inr behind ↦ elim (cases_lt k (address + length bytes)) [
        | inl there ↦ put k (k - address) (omega arith) (omega arith) inside
        | inr beyond ↦ has.others k (inr beyond) ∙ (sym (user_at old k below) ∙ sym (with_items_behind (user_part old) address bytes inside k beyond))
      ]
    ]
      where
        put : (k i : ℕ) → k ≡ address + i → i < length bytes → address + length bytes ≤ length (user_part old) → get_or new k 0 ≡ get_or (with_items (user_part old) address bytes) k 0
        put k i is at inside = ap (λ n. get_or new n 0) is ∙ (has.put i at ∙ sym (with_items_at (user_part old) address bytes inside k i is at))

pub page_with : (old new : List ℕ) (bytes : List ℕ) → length old ≡ 1048576 → HasBytes user_bytes bytes old new → length bytes ≤ 65536
    → page_part new ≡ with_items (page_part old) 0 bytes
page_with old new bytes long has fits =
    let one = page_length old long in
    let two = page_length new (has.lengths ∙ long) in
    let inside : 0 + length bytes ≤ length (page_part old) = omega arith in
    let three = length-with_items (page_part old) 0 bytes inside in
    ext_get_or 0 (page_part new) (with_items (page_part old) 0 bytes) (two ∙ sym (three ∙ one)) (λ k within. page_at new k ∙ at k inside)
  where
    at : (k : ℕ) → 0 + length bytes ≤ length (page_part old) → get_or new (user_bytes + k) 0 ≡ get_or (with_items (page_part old) 0 bytes) k 0
    at k inside = elim (cases_lt k (length bytes)) [
      | inl there ↦ has.put k there ∙ sym (with_items_at (page_part old) 0 bytes inside k k (omega arith) there)
      | inr beyond ↦ has.others (user_bytes + k) (inr (omega arith)) ∙ (sym (page_at old k) ∙ sym (with_items_behind (page_part old) 0 bytes inside k (omega arith)))
    ]

-- ---- ranges

user_bytes_in : (memory : List ℕ) → length memory ≡ 1048576 → ((k : ℕ) → slice_index memory k < 2 ^ 8) → (k : ℕ) → slice_index (user_part memory) k < 2 ^ 8
user_bytes_in memory long bytes k =
    let all = user_length memory long in
    elim (cases_lt k user_bytes) [
      | inl below ↦ subst (λ n. n < 2 ^ 8) (sym (user_at memory k below)) (bytes k)
      | inr above ↦ subst (λ n. n < 2 ^ 8) (sym (get_or_past (user_part memory) k 0 (omega arith))) (omega arith)
    ]

pub sound_of : (board : Board) → InRange board.first → InRange board.second → length (memory_of board) ≡ 1048576 → ((k : ℕ) → slice_index (memory_of board) k < 2 ^ 8) → IsSound (rig_of board)
sound_of board first second long bytes = record {
  first = first.medium;
  second = second.medium;
  memory = record { length = user_length (memory_of board) long; bytes = user_bytes_in (memory_of board) long bytes };
  page = record { length = page_length (memory_of board) long; bytes = λ k. subst (λ n. n < 2 ^ 8) (sym (page_at (memory_of board) k)) (bytes (user_bytes + k)) };
  first_cylinder = first.cylinder;
  second_cylinder = second.cylinder;
}

-- ---- A spare drive takes the place of one in a bay

-- the first of the waiting drives is put in, and the others wait
pub unit_taken : {D : Type 0} (state : D → DriveState) (driver : Driver) (old new : Rig) (bay : ℕ) (drive : D) (spare rest : List D) → spare ≡ drive ∷ rest → ExchangesDrive bay (counts_of (state drive)) old new → IsExchanged bay (shown driver old (length spare) (all_counts state spare)) (shown driver new (length rest) (all_counts state rest))
unit_taken state driver old new bay drive spare rest is exchanged =
    let count : length spare ≡ length (drive ∷ rest) = ap length is in
    let less : length rest ≡ length spare - 1 = omega arith in
    record {
      becomes = becomes_exchanged driver old new (length spare) (all_counts state spare) (length rest) (all_counts state rest) bay None exchanged.media exchanged.changes exchanged.memory
          ∙ ap (λ n. record (shown driver old (length spare) (all_counts state spare)) { bays = with_bay (shown driver old (length spare) (all_counts state spare)).bays bay (fresh_bay None); spares = n; counters = (shown driver new (length rest) (all_counts state rest)).counters }) less;
      some = omega arith;
      counts = record {
        other = exchanged.counters.other;
        spare = (counts_of (state drive), ap (all_counts state) is, exchanged.counters.drive);
        stalls = exchanged.counters.stalls;
        stalls_left = exchanged.counters.stalls_left;
        taken = exchanged.counters.taken;
        direct = exchanged.counters.direct;
      };
      access = past_driver 1 old.counters new.counters (all_counts state spare) (all_counts state rest) exchanged.counters.past_driver;
    }

pub flags_unit : (old : StationState) (bay : ℕ) (new : StationState) → IsExchanged bay old new → flags_shown new ≡ with_bay (flags_shown old) bay (flags_of (fresh_bay None))
flags_unit old bay new exchanged = ap flags_shown exchanged.becomes ∙ flags_put old.bays bay (fresh_bay None)

-- ---- A station before the first request

-- ---- memory

zeroes_taken : (few many : ℕ) → few ≤ many → take few (zeroes many) ≡ zeroes few
unfolding zeroes
zeroes_taken few many le = take-replicate few many 0 le

user_is : (memory : List ℕ) → user_part memory ≡ take user_bytes memory
unfolding user_part
user_is memory = refl

user_zeroes : (count : ℕ) → user_bytes ≤ count → user_part (zeroes count) ≡ zeroes user_bytes
user_zeroes count le = user_is (zeroes count) ∙ zeroes_taken user_bytes count le

-- user memory has its size
pub user_size : (memory : List ℕ) → length memory ≡ 1048576 → length (user_part memory) ≡ user_bytes
user_size memory size = ap length (user_is memory) ∙ length-take-le user_bytes memory (omega (arith, size))

-- ---- a machine as it is made

pub can_set_up : (board : Board) → AreSetIfEmpty board → CanSetUp (rig_of board)
can_set_up board set = record { first = set.first; second = set.second }

fresh_lines : (made : Board) → IsFreshBoard made → AreSetIfEmpty made
fresh_lines made fresh = new_lines fresh.pace fresh.bay0 fresh.bay1 made fresh.first fresh.second fresh.new

pub fresh_can_set_up : (made : Board) → IsFreshBoard made → CanSetUp (rig_of made)
fresh_can_set_up made fresh = can_set_up made (fresh_lines made fresh)

pub used_can_set_up : (calls : ℕ) (made board : Board) → IsFreshBoard made → AreCalled calls made board → CanSetUp (rig_of board)
used_can_set_up calls made board fresh called = can_set_up board (calls_lines calls made board called (fresh_lines made fresh))

no_stalls : (made : Board) → IsFreshBoard made → (holds_of made).stalls + stalls_left (holds_of made).entries < 2 ^ 63
no_stalls made fresh =
    let holds = fresh.pace.holds in
    subst (λ (h : Holds). h.stalls + stalls_left h.entries < 2 ^ 63) (sym (ap (λ (b : Bus). b.chips.holding) fresh.new.bus))
    (omega (arith, count_by-le-length (λ hold. nat_lt 8 hold) holds.items, holds.ok.0, holds.ok.1, holds.small))

module _ (made : Board) (fresh : IsFreshBoard made) (driver : Driver) (new : Rig) (is_fresh_driver : IsFreshDriver driver) (reset : IsReset (rig_of made) new) where
  free_bays : (spares : ℕ) (waiting : List DriveCounts) → (shown driver new spares waiting).bays ≡ both (fresh_bay None)
  free_bays spares waiting =
      rw (reset.media, fresh.new.first, fresh.new.second, fresh.first.medium, fresh.second.medium, is_fresh_driver.first, is_fresh_driver.second) refl

  pub flags_free : (spares : ℕ) (waiting : List DriveCounts) → flags_of_both (shown driver new spares waiting).bays ≡ flags_of_both (both (fresh_bay None))
  flags_free spares waiting = ap flags_of_both (free_bays spares waiting)

  pub starts_fresh : (spares : ℕ) (waiting : List DriveCounts) → length waiting ≡ spares → DriveTells new.counters.drives.first → DriveTells new.counters.drives.second → All DriveTells waiting → IsFresh (shown driver new spares waiting)
  starts_fresh spares waiting count first second rest =
      let few = no_stalls made fresh in
      let spent = reset.counts.stalls_spent in
      record {
        bays = free_bays spares waiting;
        memory = reset.memory ∙ ap (λ (b : Bus). user_part b.chips.memory) fresh.new.bus ∙ user_zeroes 1048576 (omega arith);
        tries = is_fresh_driver.tries;
        spares = count;
        tells = record { first = first; second = second; spares = rest; stalls = omega arith; stalls_below = omega arith };
      }

  pub starts_so : (spares : ℕ) (waiting counts : List DriveCounts) → waiting ≡ counts → CostsFor 0 0 2 22 (rig_of made) new → Starts made counts (shown driver new spares waiting)
  starts_so spares waiting counts is costs =
      let most = reset.driven.most_commands in
      let least = reset.counts.data_commands in
      record {
        spares_are = is;
        counts = record {
          first = reset.counts.first;
          second = reset.counts.second;
          spares = is;
          stalls = reset.counts.stalls;
          stalls_spent = reset.counts.stalls_spent;
          data_commands = reset.counts.data_commands;
          taken = reset.counts.taken;
          direct = reset.counts.direct;
        };
        data_commands = omega arith;
        direct = reset.driven.past_driver;
        costs = let few = costs.costs.0 in (omega (arith, few), costs.costs.1);
      }

-- ---- A motor that goes on

-- the driver turned a motor on and waited: the motor is on after the write of DOR, and after the wait
pub record IsStarted (motors : Motors) (old on new : Board) (fdc : Fdc) : Type 0 where
  pub written : IsDorWritten fdc motors.first motors.second old on
  pub idles : Idles fdc on new
  pub ready : IsReady fdc
  pub spins : (turns on.first ≡ true → 6250 ≤ new.first.spin) × (turns on.second ≡ true → 6250 ≤ new.second.spin)

spun_for : (from to : ℕ) → min (from + 6250) 6250 ≤ to → 6250 ≤ to
spun_for from to long = omega arith

pub starts : (motors : Motors) (bay : ℕ) (old new : Board) → IsIdle motors old → bay ≤ 1 → (start : StartsMotor motors bay old new)
    → IsStarted (with_motor_of bay motors) old start.turns_on.between new (with_dor (dor_with (with_motor_of bay motors) bay) (controller_of old))
starts motors bay old new idle small start =
    let on = with_motor_of bay motors in
    let byte = dor_with on bay in
    let fdc = with_dor byte (controller_of old) in
    let ready = ready_with byte (controller_of old) idle.ready in
    let rests = ready_rests fdc ready in
    let is = is_dor on bay small in
    let access = start.turns_on in
    let written = dor_access byte fdc on.first on.second old start.between access (dor_is_written (controller_of old) byte is.released) refl is.first is.second in
    let here : controller_of access.between ≡ fdc = ap (λ b. b.chips.controller) written.bus in
    let gap = gap_idles access.between start.between access.gap (subst IsResting (sym here) rests) in
    let there : controller_of start.between ≡ fdc = gap.controller_is ∙ here in
    let waiting = subst IsResting (sym there) rests in
    let spun = waits_spinning 6250 start.between new start.runs waiting in
    let turning_first = same_turning access.between.first start.between.first gap.stays.keeps.first gap.stays.first in
    let turning_second = same_turning access.between.second start.between.second gap.stays.keeps.second gap.stays.second in
    record {
      written = written;
      idles = idles_then (subst (λ c. Idles c access.between start.between) here gap) (subst (λ c. Idles c start.between new) there spun.idles);
      ready = ready;
      spins = (
        λ up. spun_for start.between.first.spin new.first.spin (spun.first (turning_first ∙ up)),
        λ up. spun_for start.between.second.spin new.second.spin (spun.second (turning_second ∙ up)),
      );
    }

pub started_keeps : (motors : Motors) (old on new : Board) (fdc : Fdc) → IsStarted motors old on new fdc → KeepsAll old new
started_keeps motors old on new fdc is =
    keeps_then old on new (accessed_keeps fdc old on is.written.bus is.written.first_is.keeps is.written.second_is.keeps) is.idles.stays.keeps

pub started_idle : (motors : Motors) (bay : ℕ) (old on new : Board) (fdc : Fdc) → is_up old ≡ false → bay ≤ 1 → dor_of fdc ≡ dor_with motors bay → IsStarted motors old on new fdc
    → InRange new.first → InRange new.second → IsIdle motors new
started_idle motors bay old on new fdc low small dor is first second =
    let stays = is.idles.stays in
    let bus = is.written.bus in
    idle_by motors bay fdc new small is.idles.controller_is is.ready dor (stays.first.motor ∙ is.written.first_is.motor) (stays.second.motor ∙ is.written.second_is.motor)
    (stays.low (ap (λ b. b.chips.controller.interrupt) bus ∙ is.ready.no_interrupt) (ap (λ b. b.latch.level) bus ∙ low)) first second

-- ---- speed

-- a motor that was on is on still
stays_on : (want : Bool) (was b : Bool) (old on new : DriveState) → new.medium ≡ old.medium → old.motor ≡ was → want ≡ (was || b) → IsSwitched want old on → KeepsSpeed on new → is_spun old ≡ true → is_spun new ≡ true
stays_on want was b old on new medium is wants switched speed spun = at_speed_on old new (ap is_some medium) up spun
  where
    up : old.motor ≡ true → (new.motor ≡ true) × (old.spin ≤ new.spin)
    up turned =
        let wanted : want ≡ true = wants ∙ ap (λ a. a || b) (sym is ∙ turned) in
        let same = switched.spin wanted in
        let more = speed.spin (switched.motor ∙ wanted) in
        (speed.motor ∙ (switched.motor ∙ wanted), omega arith)

pub starts_asking : (motors : Motors) (bay : ℕ) (old new : Board) → IsIdle motors old → bay ≤ 1 → StartsMotor motors bay old new → OnlyAsks (rig_of old) (rig_of new)
starts_asking motors bay old new idle small start =
    let is = starts motors bay old new idle small start in
    let fdc = with_dor (dor_with (with_motor_of bay motors) bay) (controller_of old) in
    let keeps = started_keeps (with_motor_of bay motors) old start.turns_on.between new fdc is in
    keeps_asking old new keeps
    (ap (λ f. f.seeks.cylinders) is.idles.controller_is) (ap data_commands_of is.idles.controller_is)
    (stays_on (motors.first || bay == 0) motors.first (bay == 0) old.first start.turns_on.between.first new.first keeps.first.medium idle.motors_are.first refl is.written.first_is is.idles.stays.first)
    (stays_on (motors.second || bay == 1) motors.second (bay == 1) old.second start.turns_on.between.second new.second keeps.second.medium idle.motors_are.second refl is.written.second_is is.idles.stays.second)

pub start_idle : (motors : Motors) (bay : ℕ) (old new : Board) → IsIdle motors old → bay ≤ 1 → StartsMotor motors bay old new → InRange new.first → InRange new.second
    → IsIdle (with_motor_of bay motors) new
start_idle motors bay old new idle small start first second =
    let is = starts motors bay old new idle small start in
    started_idle (with_motor_of bay motors) bay old start.turns_on.between new (with_dor (dor_with (with_motor_of bay motors) bay) (controller_of old)) idle.low small refl is first second

comes_to_speed : (drive : DriveState) → turns drive ≡ true → 6250 ≤ drive.spin → is_spun drive ≡ true
comes_to_speed drive on fast = let quick : nat_le 6250 drive.spin ≡ true = grind (arith, nat_tests) in ap (λ b. b && nat_le 6250 drive.spin) on ∙ quick

comes_up : (old on new : DriveState) → new.medium ≡ old.medium → IsSwitched true old on → KeepsSpeed on new → (turns on ≡ true → 6250 ≤ new.spin) → IsSome old.medium → is_spun new ≡ true
comes_up old on new same switched speed spins some =
    let turned : turns on ≡ true = ap (λ m. m && is_some on.medium) switched.motor ∙ (ap is_some switched.keeps.medium ∙ some) in
    let still : turns new ≡ true = ap (λ m. m && is_some new.medium) (speed.motor ∙ switched.motor) ∙ (ap is_some same ∙ some) in
    comes_to_speed new still (spins turned)

pub starts_spinning : (motors : Motors) (bay : ℕ) (old new : Board) → IsIdle motors old → bay ≤ 1 → StartsMotor motors bay old new
    → IsSome (in_bay (rig_of old).media bay) → in_bay (rig_of new).spun bay ≡ true
starts_spinning motors zero old new idle small start some =
    let is = starts motors 0 old new idle small start in
    let on = subst (λ b. IsSwitched b old.first start.turns_on.between.first) (or_right motors.first true refl) is.written.first_is in
    let keeps = started_keeps (with_motor_of 0 motors) old start.turns_on.between new (with_dor (dor_with (with_motor_of 0 motors) 0) (controller_of old)) is in
    comes_up old.first start.turns_on.between.first new.first keeps.first.medium on is.idles.stays.first is.spins.0 some
starts_spinning motors (suc zero) old new idle small start some =
    let is = starts motors 1 old new idle small start in
    let on = subst (λ b. IsSwitched b old.second start.turns_on.between.second) (or_right motors.second true refl) is.written.second_is in
    let keeps = started_keeps (with_motor_of 1 motors) old start.turns_on.between new (with_dor (dor_with (with_motor_of 1 motors) 1) (controller_of old)) is in
    comes_up old.second start.turns_on.between.second new.second keeps.second.medium on is.idles.stays.second is.spins.1 some
starts_spinning motors (suc (suc bay)) old new idle small start some = absurd (omega arith)
