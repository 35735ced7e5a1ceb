-- Calls past the driver, as a driver sees them.
use Rattle.std.proofs.Common.{◌≡◌, ◌↔◌, ℕ, zero, suc, ◌+◌, ◌-◌, ◌<◌, ◌≤◌, Bool, true, false, Option, Some, None, is_some, IsSome, IsErr, OnOk, IfErr, if◌then◌else◌, nat_lt, Result, Ok, Err, IsTrue, refl, sym, ◌∙◌, ap, subst, arith}
use Rattle.machine_commands.proofs.Common.{last_count, Disk, DriveGoesOn, GoesOn, user_bytes, DriveState, InRange, data_commands_of, dor_of, Holds, counted, Board, controller_of, drive_in, holds_of, memory_of, byte_set, Bus, IsIdle, is_up, counts_of, counters_of, is_spun, rig_of, stalls_left, Motors, IsBitSet, false≢true, drop-set-lt, take-set-lt, IsPastDriver, drive_same, at_speed, loaded, unloaded, with_motor, becomes_at, clock_of, stays, IsEmpty, Exchanged, ExchangesDrive, PutsIn, PutsMemory, TakesDrive, TakesOut, Untouched}
use Rattle.std.specs.Prelude.{slice_set, List}
use Rattle.pc_bus.specs.Handling.{Touches, touched}
use Rattle.fdc_core.specs.Drives.Following.{FollowsMotor}
use Rattle.machine_commands.specs.Shown.{page_part, user_part}
use Rattle.machine_commands.proofs.Idling.{idle_by, counts_go, both_in, cylinder_in, medium_in, parts_same, parts_with, shown_in, spun_in}
use Rattle.machine_commands.proofs.Selecting.{is_dor, switched}

-- ---- counts

-- no DMA latency, no data command, no interrupt and no device step came, and at most one access past the driver
record LeavesCounts (old new : Board) : Type 0 where
  holding : holds_of new ≡ holds_of old
  sent : data_commands_of (controller_of new) ≡ data_commands_of (controller_of old)
  taken : new.bus.taken ≡ old.bus.taken
  never_falls : old.bus.direct ≤ new.bus.direct
  most : new.bus.direct ≤ old.bus.direct + 1
  clock : clock_of new ≡ clock_of old
  gaps : new.bus.gaps ≡ old.bus.gaps

touched_leaves : (old new : Board) → old.bus.direct ≤ last_count → new.bus ≡ touched old.bus → LeavesCounts old new
touched_leaves old new few is =
    let same : new.bus.direct ≡ counted old.bus.direct = ap (λ (b : Bus). b.direct) is in
    record {
      holding = ap (λ (b : Bus). b.chips.holding) is;
      sent = ap (λ (b : Bus). data_commands_of b.chips.controller) is;
      taken = ap (λ (b : Bus). b.taken) is;
      never_falls = omega arith;
      most = omega arith;
      clock = ap (λ (b : Bus). clock_of (record old { bus = b })) is;
      gaps = ap (λ (b : Bus). b.gaps) is;
    }

counts_on : (old new : Board) → LeavesCounts old new → DriveGoesOn (counts_of old.first) (counts_of new.first) → DriveGoesOn (counts_of old.second) (counts_of new.second) → GoesOn (counters_of old) (counters_of new)
counts_on old new leaves first second =
    let taken = leaves.taken in
    counts_go old new first second (ap (λ (h : Holds). h.entries) leaves.holding) (ap (λ (h : Holds). h.stalls) leaves.holding)
    leaves.never_falls (omega arith) leaves.sent

past_driver : (old new : Board) → LeavesCounts old new → IsPastDriver 1 (counters_of old) (counters_of new)
past_driver old new leaves = record {
  accesses = leaves.most;
  no_commands = leaves.sent;
  no_cost = let same = leaves.clock in (omega (arith, same), stays old new leaves.gaps leaves.taken);
}

-- ---- drives

-- nothing of the drive was changed but its count of faults
record SameDrive (old new : DriveState) : Type 0 where
  medium : new.medium ≡ old.medium
  cylinder : new.cylinder ≡ old.cylinder
  change : new.change ≡ old.change
  spun : is_spun new ≡ is_spun old
  counts : DriveGoesOn (counts_of old) (counts_of new)

same_drive : (old new : DriveState) → new ≡ old → SameDrive old new
same_drive old new is = record {
  medium = ap (λ (d : DriveState). d.medium) is;
  cylinder = ap (λ (d : DriveState). d.cylinder) is;
  change = ap (λ (d : DriveState). d.change) is;
  spun = ap (λ (d : DriveState). at_speed d) is;
  counts = drive_same (counts_of old) (counts_of new) (ap counts_of is);
}

-- how the counts of a drive go on that equals the target, where the target has the old count of faults
drive_goes : (old target new : DriveState) → new ≡ target → target.faults ≡ old.faults → target.left ≡ old.left → DriveGoesOn (counts_of old) (counts_of new)
drive_goes old target new is faults left =
    let becomes = becomes_at target old new is faults left in
    record { never_falls = becomes.never_falls; spends = becomes.spends }

-- the drive has another medium, or none
record Swapped (medium : Option Disk) (old new : DriveState) : Type 0 where
  is : new.medium ≡ medium
  cylinder : new.cylinder ≡ old.cylinder
  change : new.change ≡ true
  counts : DriveGoesOn (counts_of old) (counts_of new)

becomes_loaded : (medium : Disk) (old new : DriveState) → new ≡ loaded medium old → Swapped (Some medium) old new
becomes_loaded medium old new becomes = record {
  is = ap (λ (d : DriveState). d.medium) becomes;
  cylinder = ap (λ (d : DriveState). d.cylinder) becomes;
  change = ap (λ (d : DriveState). d.change) becomes;
  counts = drive_goes old (loaded medium old) new becomes refl refl;
}

becomes_unloaded : (old new : DriveState) → IsSome old.medium → new ≡ unloaded old → Swapped None old new
becomes_unloaded old new some becomes = record {
  is = ap (λ (d : DriveState). d.medium) becomes;
  cylinder = ap (λ (d : DriveState). d.cylinder) becomes;
  change = ap (λ (d : DriveState). d.change) becomes ∙ ap (λ b. if b then true else old.change) some;
  counts = drive_goes old (unloaded old) new becomes refl refl;
}

unloaded_empty : (s : DriveState) → s.medium ≡ None → unloaded s ≡ s
unloaded_empty s none =
    ap (λ (b : Bool). let d : DriveState = record s { medium = None; spin = if b then 0 else s.spin; place = if b then 0 else s.place; change = if b then true else s.change } in d) (ap is_some none)
    ∙ ap (λ (m : Option Disk). let d : DriveState = record s { medium = m } in d) (sym none)

-- ---- the rig

untouched : (old new : Board) (bay : ℕ) → bay ≤ 1 → old.bus.direct ≤ last_count → Touches bay old new → drive_in new bay ≡ drive_in old bay → Untouched (rig_of old) (rig_of new)
untouched old new bay small few touches becomes =
    let leaves = touched_leaves old new few touches.bus in
    let here = same_drive (drive_in old bay) (drive_in new bay) becomes in
    let other = same_drive (drive_in old (1 - bay)) (drive_in new (1 - bay)) touches.other in
    let (first, second) = both_in SameDrive bay old new small here other in
    record {
      media = parts_same (λ (d : DriveState). d.medium) bay old new small here.medium other.medium;
      changes = parts_same (λ (d : DriveState). d.change) bay old new small here.change other.change;
      spun = parts_same is_spun bay old new small here.spun other.spun;
      cylinders = parts_same (λ (d : DriveState). d.cylinder) bay old new small here.cylinder other.cylinder;
      numbers = ap (λ (b : Bus). (rig_of (record old { bus = b })).numbers) touches.bus;
      memory = ap (λ (b : Bus). user_part b.chips.memory) touches.bus;
      page = ap (λ (b : Bus). page_part b.chips.memory) touches.bus;
      counts = counts_on old new leaves first.counts second.counts;
      past_driver = past_driver old new leaves;
      taken = leaves.taken;
    }

exchanged : (old new : Board) (bay : ℕ) (medium : Option Disk) → bay ≤ 1 → old.bus.direct ≤ last_count → Touches bay old new → Swapped medium (drive_in old bay) (drive_in new bay) → Exchanged bay medium (rig_of old) (rig_of new)
exchanged old new bay medium small few touches swapped =
    let leaves = touched_leaves old new few touches.bus in
    let other = same_drive (drive_in old (1 - bay)) (drive_in new (1 - bay)) touches.other in
    let (first, second) = both_in (λ a b. DriveGoesOn (counts_of a) (counts_of b)) bay old new small swapped.counts other.counts in
    record {
      media = parts_with (λ (d : DriveState). d.medium) medium bay old new small swapped.is other.medium;
      changes = parts_with (λ (d : DriveState). d.change) true bay old new small swapped.change other.change;
      other_spun = sym (spun_in (1 - bay) new) ∙ (other.spun ∙ spun_in (1 - bay) old);
      cylinders = parts_same (λ (d : DriveState). d.cylinder) bay old new small swapped.cylinder other.cylinder;
      numbers = ap (λ (b : Bus). (rig_of (record old { bus = b })).numbers) touches.bus;
      memory = ap (λ (b : Bus). user_part b.chips.memory) touches.bus;
      page = ap (λ (b : Bus). page_part b.chips.memory) touches.bus;
      counts = counts_on old new leaves first second;
      past_driver = past_driver old new leaves;
      taken = leaves.taken;
    }

-- ---- media

none_in : (m : Option Disk) → (IsSome m → ⊥) → m ≡ None
none_in None empty = refl
none_in (Some disk) empty = absurd (empty refl)

pub puts_in : (old new : Board) (bay : ℕ) (medium : Disk) (answer : Result (Unit {0}) Disk) → bay ≤ 1 → old.bus.direct ≤ last_count → Touches bay old new
    → (IsErr answer ↔ IsSome (drive_in old bay).medium) → OnOk answer (drive_in new bay ≡ loaded medium (drive_in old bay))
    → IfErr answer (λ back. (back ≡ medium) × (drive_in new bay ≡ drive_in old bay)) → PutsIn bay medium (rig_of old) answer (rig_of new)
puts_in old new bay medium (Ok _) small few touches refused ok err = (
  sym (medium_in bay old) ∙ none_in (drive_in old bay).medium (λ some. false≢true (refused.1 some)),
  exchanged old new bay (Some medium) small few touches (becomes_loaded medium (drive_in old bay) (drive_in new bay) ok),
)
puts_in old new bay medium (Err back) small few touches refused ok (same, becomes) =
    (ap is_some (sym (medium_in bay old)) ∙ refused.0 refl, same, untouched old new bay small few touches becomes)

pub takes_out : (old new : Board) (bay : ℕ) (answer : Option Disk) → bay ≤ 1 → old.bus.direct ≤ last_count → Touches bay old new
    → answer ≡ (drive_in old bay).medium → drive_in new bay ≡ unloaded (drive_in old bay) → TakesOut bay (rig_of old) answer (rig_of new)
takes_out old new bay answer small few touches is becomes = record {
  medium = is ∙ medium_in bay old;
  taken_out = λ some. exchanged old new bay None small few touches (becomes_unloaded (drive_in old bay) (drive_in new bay) (ap is_some (sym is) ∙ some) becomes);
  empty = λ none. untouched old new bay small few touches
      (becomes ∙ unloaded_empty (drive_in old bay) (sym is ∙ none));
}

-- ---- drives

takes_drive : (old new : Board) (bay : ℕ) (drive : DriveState) → LeavesCounts old new → drive_in new (1 - bay) ≡ drive_in old (1 - bay)
    → DriveGoesOn (counts_of drive) (counts_of (drive_in new bay)) → TakesDrive bay (counts_of drive) (counters_of old) (counters_of new)
takes_drive old new bay drive leaves other goes = record {
  drive = subst (DriveGoesOn (counts_of drive)) (shown_in counts_of bay new) goes;
  other = sym (shown_in counts_of (1 - bay) new) ∙ (ap counts_of other ∙ shown_in counts_of (1 - bay) old);
  spares = refl;
  stalls = ap (λ (h : Holds). h.stalls) leaves.holding;
  stalls_left = ap (λ (h : Holds). stalls_left h.entries) leaves.holding;
  taken = leaves.taken;
  data_commands = leaves.sent;
  direct = leaves.never_falls;
  past_driver = past_driver old new leaves;
}

pub exchanges : (old new : Board) (bay : ℕ) (drive : DriveState) → bay ≤ 1 → old.bus.direct ≤ last_count → Touches bay old new → IsEmpty drive
    → FollowsMotor bay (controller_of old) drive (drive_in new bay) → ExchangesDrive bay (counts_of drive) (rig_of old) (rig_of new)
exchanges old new bay drive small few touches empty (on, lines, becomes) =
    let other = same_drive (drive_in old (1 - bay)) (drive_in new (1 - bay)) touches.other in
    let medium = ap (λ (d : DriveState). d.medium) becomes ∙ empty.medium in
    let change = ap (λ (d : DriveState). d.change) becomes ∙ empty.change in
    let goes : DriveGoesOn (counts_of drive) (counts_of (drive_in new bay)) = drive_goes drive (with_motor on drive) (drive_in new bay) becomes refl refl in
    record {
      media = parts_with (λ (d : DriveState). d.medium) None bay old new small medium other.medium;
      changes = parts_with (λ (d : DriveState). d.change) true bay old new small change other.change;
      other_spun = sym (spun_in (1 - bay) new) ∙ (other.spun ∙ spun_in (1 - bay) old);
      other_cylinder = sym (cylinder_in (1 - bay) new) ∙ (other.cylinder ∙ cylinder_in (1 - bay) old);
      numbers = ap (λ (b : Bus). (rig_of (record old { bus = b })).numbers) touches.bus;
      memory = ap (λ (b : Bus). user_part b.chips.memory) touches.bus;
      page = ap (λ (b : Bus). page_part b.chips.memory) touches.bus;
      counters = takes_drive old new bay drive (touched_leaves old new few touches.bus) touches.other goes;
    }

-- ---- memory

user_set : (memory : List ℕ) (address byte : ℕ) → address < user_bytes → user_part (slice_set memory address byte) ≡ slice_set (user_part memory) address byte
unfolding user_part
user_set memory address byte below = take-set-lt user_bytes memory address byte below

page_set : (memory : List ℕ) (address byte : ℕ) → address < user_bytes → page_part (slice_set memory address byte) ≡ page_part memory
unfolding page_part
page_set memory address byte below = drop-set-lt user_bytes memory address byte below

pub counted_if : (b : Bool) (n : ℕ) → n ≤ last_count → (n ≤ (if b then counted n else n)) × ((if b then counted n else n) ≤ n + 1)
counted_if true n few = (omega arith, omega arith)
counted_if false n few = (omega arith, omega arith)

byte_leaves : (address byte : ℕ) (old new : Board) → old.bus.direct ≤ last_count → new ≡ record old { bus = byte_set address byte old.bus } → LeavesCounts old new
byte_leaves address byte old new few is =
    let same : new.bus.direct ≡ (if nat_lt address user_bytes then counted old.bus.direct else old.bus.direct) = ap (λ (b : Board). b.bus.direct) is in
    let (up, most) = counted_if (nat_lt address user_bytes) old.bus.direct few in
    record {
      holding = ap holds_of is;
      sent = ap (λ (b : Board). data_commands_of (controller_of b)) is;
      taken = ap (λ (b : Board). b.bus.taken) is;
      never_falls = subst (λ n. old.bus.direct ≤ n) (sym same) up;
      most = subst (λ n. n ≤ old.bus.direct + 1) (sym same) most;
      clock = ap clock_of is;
      gaps = ap (λ (b : Board). b.bus.gaps) is;
    }

pub puts_memory : (address byte : ℕ) (old new : Board) → address < user_bytes → old.bus.direct ≤ last_count → new ≡ record old { bus = byte_set address byte old.bus }
    → PutsMemory address byte (rig_of old) (rig_of new)
puts_memory address byte old new below few is =
    let leaves = byte_leaves address byte old new few is in
    let first = same_drive old.first new.first (ap (λ (b : Board). b.first) is) in
    let second = same_drive old.second new.second (ap (λ (b : Board). b.second) is) in
    record {
      memory = ap (λ (b : Board). user_part (memory_of b)) is ∙ user_set (memory_of old) address byte below;
      media = ap (λ (b : Board). (rig_of b).media) is;
      changes = ap (λ (b : Board). (rig_of b).changes) is;
      spun = ap (λ (b : Board). (rig_of b).spun) is;
      cylinders = ap (λ (b : Board). (rig_of b).cylinders) is;
      numbers = ap (λ (b : Board). (rig_of b).numbers) is;
      page = ap (λ (b : Board). page_part (memory_of b)) is ∙ page_set (memory_of old) address byte below;
      counts = counts_on old new leaves first.counts second.counts;
      past_driver = past_driver old new leaves;
      taken = leaves.taken;
    }

-- ---- the machine stays idle

pub still_idle : (motors : Motors) (old new : Board) → controller_of new ≡ controller_of old → is_up new ≡ is_up old → new.first.motor ≡ motors.first → new.second.motor ≡ motors.second
    → InRange new.first → InRange new.second → IsIdle motors old → IsIdle motors new
still_idle motors old new controller up on_first on_second first second was =
    let has = was.motors_are in
    idle_by motors has.bay (controller_of old) new has.bay_in controller was.ready has.dor on_first on_second (up ∙ was.low) first second

pub memory_idle : (motors : Motors) (address byte : ℕ) (old new : Board) → new ≡ record old { bus = byte_set address byte old.bus } → InRange new.first → InRange new.second → IsIdle motors old → IsIdle motors new
memory_idle motors address byte old new is first second was =
    still_idle motors old new (ap controller_of is) (ap is_up is) (ap (λ (b : Board). b.first.motor) is ∙ was.motors_are.first) (ap (λ (b : Board). b.second.motor) is ∙ was.motors_are.second) first second was

touched_idle : (motors : Motors) (old new : Board) (bay : ℕ) → bay ≤ 1 → Touches bay old new → (drive_in new bay).motor ≡ (drive_in old bay).motor → InRange new.first → InRange new.second → IsIdle motors old → IsIdle motors new
touched_idle motors old new bay small touches motor first second was =
    let (one, two) = both_in (λ a b. b.motor ≡ a.motor) bay old new small motor (ap (λ (d : DriveState). d.motor) touches.other) in
    still_idle motors old new (ap (λ (b : Bus). b.chips.controller) touches.bus) (ap (λ (b : Bus). b.latch.level) touches.bus) (one ∙ was.motors_are.first)
    (two ∙ was.motors_are.second) first second was

put_motor : (old new : DriveState) (medium : Disk) (answer : Result (Unit {0}) Disk) → OnOk answer (new ≡ loaded medium old)
    → IfErr answer (λ back. (back ≡ medium) × (new ≡ old)) → new.motor ≡ old.motor
put_motor old new medium (Ok _) ok err = ap (λ (d : DriveState). d.motor) ok
put_motor old new medium (Err back) ok (same, becomes) = ap (λ (d : DriveState). d.motor) becomes

pub put_idle : (motors : Motors) (old new : Board) (bay : ℕ) (medium : Disk) (answer : Result (Unit {0}) Disk) → bay ≤ 1 → Touches bay old new
    → OnOk answer (drive_in new bay ≡ loaded medium (drive_in old bay))
    → IfErr answer (λ back. (back ≡ medium) × (drive_in new bay ≡ drive_in old bay)) → InRange new.first → InRange new.second → IsIdle motors old → IsIdle motors new
put_idle motors old new bay medium answer small touches ok err = touched_idle motors old new bay small touches (put_motor (drive_in old bay) (drive_in new bay) medium answer ok err)

pub taken_idle : (motors : Motors) (old new : Board) (bay : ℕ) → bay ≤ 1 → Touches bay old new → drive_in new bay ≡ unloaded (drive_in old bay)
    → InRange new.first → InRange new.second → IsIdle motors old → IsIdle motors new
taken_idle motors old new bay small touches becomes = touched_idle motors old new bay small touches (ap (λ (d : DriveState). d.motor) becomes)

-- the motor of a drive that takes the place of another goes on as DOR commands
follows : (motors : Motors) (old : Board) (bay : ℕ) (drive after : DriveState) → bay ≤ 1 → IsIdle motors old → FollowsMotor bay (controller_of old) drive after
    → after.motor ≡ (drive_in old bay).motor
follows motors old zero drive after small was moves =
    let has = was.motors_are in
    (switched 4 (dor_of (controller_of old)) motors.first drive after (subst (λ n. IsTrue motors.first ↔ IsBitSet n 4) (sym has.dor) (is_dor motors has.bay has.bay_in).first) moves).motor
    ∙ sym has.first
follows motors old (suc zero) drive after small was moves =
    let has = was.motors_are in
    (switched 5 (dor_of (controller_of old)) motors.second drive after (subst (λ n. IsTrue motors.second ↔ IsBitSet n 5) (sym has.dor) (is_dor motors has.bay has.bay_in).second) moves).motor
    ∙ sym has.second
follows motors old (suc (suc bay)) drive after small was moves = absurd (omega arith)

pub exchange_idle : (motors : Motors) (old new : Board) (bay : ℕ) (drive : DriveState) → bay ≤ 1 → Touches bay old new → FollowsMotor bay (controller_of old) drive (drive_in new bay)
    → InRange new.first → InRange new.second → IsIdle motors old → IsIdle motors new
exchange_idle motors old new bay drive small touches moves first second was =
    touched_idle motors old new bay small touches (follows motors old bay drive (drive_in new bay) small was moves) first second was
