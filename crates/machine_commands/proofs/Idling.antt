-- Device steps in which no command and no seek goes on.
use Rattle.std.proofs.Common.{◌≡◌, ℕ, ◌<◌, ◌≤◌, ◌&&◌, true, false, not, sym, ◌∙◌, ap, subst, nat_le, slice_index, is_some, refl, arith, zero, suc, ◌-◌, ◌==◌, if◌then◌else◌}
use Rattle.machine_commands.proofs.Common.{dor_of, dor_with, InRange, IsIdle, IsReady, Motors, Spends, DriveState, track_words, is_seeking, is_executing, is_held, Fdc, Board, controller_of, channel_of, memory_of, holds_of, is_up, Two, DriveGoesOn, GoesOn, IsDriven, turns, data_commands_of, IsReset, OnlyAsks, counts_of, is_spun, stalls_left, counters_of, rig_of, and_parts, nat_tests, user_part, page_part, in_bay, faults_of, drive_in, number_of, with_bay}

-- no command is in execution, no seek runs, no DMA request is up, and no poll is to come
pub record IsResting (fdc : Fdc) : Type 0 where
  pub no_command : is_executing fdc.phase ≡ false
  pub no_seek : is_seeking fdc.seeks ≡ false
  pub not_asking : fdc.asking ≡ false
  pub no_poll : (fdc.poll_due && not (is_held fdc)) ≡ false

-- what device steps without pulses leave of a drive
pub record KeepsDrive (old new : DriveState) : Type 0 where
  pub medium : new.medium ≡ old.medium
  pub cylinder : new.cylinder ≡ old.cylinder
  pub change : new.change ≡ old.change
  pub place : old.place < track_words old.medium → new.place < track_words old.medium
  pub never_falls : old.faults ≤ new.faults
  pub spends : Spends old.faults old.left new.faults new.left

-- its motor goes on as it did, and its speed doesn't fall
pub record KeepsSpeed (old new : DriveState) : Type 0 where
  pub motor : new.motor ≡ old.motor
  pub spin : old.motor ≡ true → old.spin ≤ new.spin

-- neither media nor memory nor the places of heads were changed
pub record KeepsAll (old new : Board) : Type 0 where
  pub memory : memory_of new ≡ memory_of old
  pub entries : (holds_of new).entries ≡ (holds_of old).entries
  pub stalls : (holds_of new).stalls ≡ (holds_of old).stalls
  pub first : KeepsDrive old.first new.first
  pub second : KeepsDrive old.second new.second
  pub direct : new.bus.direct ≡ old.bus.direct
  pub taken : old.bus.taken ≤ new.bus.taken

-- all of that, and no motor was changed; an interrupt line that is low stays low, and the latch sees no rise of it
pub record StaysIdle (old new : Board) : Type 0 where
  pub keeps : KeepsAll old new
  pub first : KeepsSpeed old.first new.first
  pub second : KeepsSpeed old.second new.second
  pub quiet : (controller_of old).interrupt ≡ false → (controller_of new).interrupt ≡ false
  pub low : (controller_of old).interrupt ≡ false → is_up old ≡ false → is_up new ≡ false

-- nothing happened but that the controller is now this; the channel is as it was
pub record Idles (controller : Fdc) (old new : Board) : Type 0 where
  pub stays : StaysIdle old new
  pub controller_is : controller_of new ≡ controller
  pub channel : channel_of new ≡ channel_of old

-- ---- idle machines

-- a machine whose controller is this one is idle
pub idle_by : (motors : Motors) (bay : ℕ) (fdc : Fdc) (board : Board) → bay ≤ 1 → controller_of board ≡ fdc → IsReady fdc → dor_of fdc ≡ dor_with motors bay
    → board.first.motor ≡ motors.first → board.second.motor ≡ motors.second → is_up board ≡ false → InRange board.first → InRange board.second → IsIdle motors board
idle_by motors bay fdc board small at ready dor on_first on_second low first second = record {
  ready = subst IsReady (sym at) ready;
  motors_are = record { bay = bay; bay_in = small; dor = ap dor_of at ∙ dor; first = on_first; second = on_second };
  low = low;
  first = first;
  second = second;
}

-- ---- what a driver sees of a board that keeps all

pub two_same : {T : Type 0} (a b c d : T) → a ≡ c → b ≡ d → (let x : Two T = record { first = a; second = b } in x) ≡ (let y : Two T = record { first = c; second = d } in y)
two_same a b c d one two = ap (λ v. let x : Two _ = record { first = v; second = b } in x) one ∙ ap (λ v. let x : Two _ = record { first = c; second = v } in x) two

-- ---- counts

-- the counts of a machine go on, if those of its drives, its stalls and its accesses do
pub counts_go : (old new : Board) → DriveGoesOn (counts_of old.first) (counts_of new.first) → DriveGoesOn (counts_of old.second) (counts_of new.second)
    → (holds_of new).entries ≡ (holds_of old).entries → (holds_of new).stalls ≡ (holds_of old).stalls → old.bus.direct ≤ new.bus.direct
    → old.bus.taken ≤ new.bus.taken → data_commands_of (controller_of new) ≡ data_commands_of (controller_of old) → GoesOn (counters_of old) (counters_of new)
counts_go old new first second entries stalls direct taken sent =
    let left : stalls_left (holds_of new).entries ≡ stalls_left (holds_of old).entries = ap stalls_left entries in
    record {
      first = first;
      second = second;
      spares = refl;
      stalls = omega arith;
      stalls_spent = omega arith;
      data_commands = omega arith;
      taken = taken;
      direct = direct;
    }

pub drive_goes : {old new : DriveState} → KeepsDrive old new → DriveGoesOn (counts_of old) (counts_of new)
drive_goes keeps = record { never_falls = keeps.never_falls; spends = keeps.spends }

pub keeps_counting : (old new : Board) → KeepsAll old new → data_commands_of (controller_of new) ≡ data_commands_of (controller_of old) → GoesOn (counters_of old) (counters_of new)
keeps_counting old new keeps sent =
    counts_go old new (drive_goes keeps.first) (drive_goes keeps.second) keeps.entries keeps.stalls (let same = keeps.direct in omega arith) keeps.taken sent

pub drives_on : (old new : Board) → new.bus.direct ≡ old.bus.direct → old.bus.taken ≤ new.bus.taken
    → data_commands_of (controller_of new) ≡ data_commands_of (controller_of old) → IsDriven 0 (counters_of old) (counters_of new)
drives_on old new direct taken sent = record { most_commands = omega arith; interrupts = omega arith; past_driver = direct }

pub keeps_driven : (old new : Board) → KeepsAll old new → data_commands_of (controller_of new) ≡ data_commands_of (controller_of old) → IsDriven 0 (counters_of old) (counters_of new)
keeps_driven old new keeps sent = drives_on old new keeps.direct keeps.taken sent

-- ---- speed

faster : (old new : ℕ) → nat_le 6250 old ≡ true → old ≤ new → nat_le 6250 new ≡ true
faster old new fast more = grind (arith, nat_tests)

pub at_speed_on : (old new : DriveState) → is_some new.medium ≡ is_some old.medium → (old.motor ≡ true → (new.motor ≡ true) × (old.spin ≤ new.spin)) → is_spun old ≡ true → is_spun new ≡ true
at_speed_on old new same on was =
    let (turning, fast) = and_parts (turns old) (nat_le 6250 old.spin) was in
    let (motor, there) = and_parts old.motor (is_some old.medium) turning in
    let (still_on, more) = on motor in
    rw (still_on, same ∙ there, faster old.spin new.spin fast more) refl

pub speed_stays : (old new : DriveState) → new.medium ≡ old.medium → KeepsSpeed old new → is_spun old ≡ true → is_spun new ≡ true
speed_stays old new same speed was = at_speed_on old new (ap is_some same) (λ on. (speed.motor ∙ on, speed.spin on)) was

-- ---- the rig

pub keeps_asking : (old new : Board) → KeepsAll old new → (controller_of new).seeks.cylinders ≡ (controller_of old).seeks.cylinders
    → data_commands_of (controller_of new) ≡ data_commands_of (controller_of old)
    → (is_spun old.first ≡ true → is_spun new.first ≡ true) → (is_spun old.second ≡ true → is_spun new.second ≡ true) → OnlyAsks (rig_of old) (rig_of new)
keeps_asking old new keeps numbers sent first second = record {
  heads = record {
    cylinders = two_same new.first.cylinder new.second.cylinder old.first.cylinder old.second.cylinder keeps.first.cylinder keeps.second.cylinder;
    numbers = ap (λ cylinders. let t : Two ℕ = record { first = slice_index cylinders 0; second = slice_index cylinders 1 } in t) numbers;
    changes = two_same new.first.change new.second.change old.first.change old.second.change keeps.first.change keeps.second.change;
    spun = record { first = first; second = second };
  };
  media = two_same new.first.medium new.second.medium old.first.medium old.second.medium keeps.first.medium keeps.second.medium;
  memory = ap user_part keeps.memory;
  page = ap page_part keeps.memory;
  counts = keeps_counting old new keeps sent;
  driven = keeps_driven old new keeps sent;
}

pub keeps_reset : (old new : Board) → KeepsAll old new → data_commands_of (controller_of new) ≡ data_commands_of (controller_of old) → IsReset (rig_of old) (rig_of new)
keeps_reset old new keeps sent = record {
  media = two_same new.first.medium new.second.medium old.first.medium old.second.medium keeps.first.medium keeps.second.medium;
  cylinders = two_same new.first.cylinder new.second.cylinder old.first.cylinder old.second.cylinder keeps.first.cylinder keeps.second.cylinder;
  changes = two_same new.first.change new.second.change old.first.change old.second.change keeps.first.change keeps.second.change;
  memory = ap user_part keeps.memory;
  page = ap page_part keeps.memory;
  counts = keeps_counting old new keeps sent;
  driven = keeps_driven old new keeps sent;
}

-- ---- what holds of both drives holds of the drive in a bay; and what a rig shows of that drive

pub kept_in : (R : DriveState → DriveState → Type 0) (bay : ℕ) (old new : Board) → R old.first new.first → R old.second new.second → R (drive_in old bay) (drive_in new bay)
kept_in R bay old new first second =
    elim (bay == 0) as (λ b. R (if b then old.first else old.second) (if b then new.first else new.second)) [ true ↦ first | false ↦ second ]

pub drive_kept : (old new : Board) (bay : ℕ) → KeepsAll old new → KeepsDrive (drive_in old bay) (drive_in new bay)
drive_kept old new bay keeps = kept_in KeepsDrive bay old new keeps.first keeps.second

pub speed_kept : (old new : Board) (bay : ℕ) → StaysIdle old new → KeepsSpeed (drive_in old bay) (drive_in new bay)
speed_kept old new bay stays = kept_in KeepsSpeed bay old new stays.first stays.second

-- what is shown of a drive
pub shown_in : {T : Type 0} (part : DriveState → T) (bay : ℕ) (board : Board)
    → part (drive_in board bay) ≡ (if bay == 0 then part board.first else part board.second)
shown_in part bay board =
    elim (bay == 0) as (λ b. part (if b then board.first else board.second) ≡ (if b then part board.first else part board.second)) [ true ↦ refl | false ↦ refl ]

pub medium_in : (bay : ℕ) (board : Board) → (drive_in board bay).medium ≡ in_bay (rig_of board).media bay
medium_in = shown_in (λ drive. drive.medium)

pub cylinder_in : (bay : ℕ) (board : Board) → (drive_in board bay).cylinder ≡ in_bay (rig_of board).cylinders bay
cylinder_in = shown_in (λ drive. drive.cylinder)

pub change_in : (bay : ℕ) (board : Board) → (drive_in board bay).change ≡ in_bay (rig_of board).changes bay
change_in = shown_in (λ drive. drive.change)

pub spun_in : (bay : ℕ) (board : Board) → is_spun (drive_in board bay) ≡ in_bay (rig_of board).spun bay
spun_in = shown_in is_spun

pub faults_in : (bay : ℕ) (board : Board) → (drive_in board bay).faults ≡ faults_of (counters_of board) bay
faults_in bay board =
    let drives = (counters_of board).drives in
    elim (bay == 0) as (λ b. (if b then board.first else board.second).faults ≡ (if b then drives.first else drives.second).faults) [ true ↦ refl | false ↦ refl ]

pub number_in : (bay : ℕ) (board : Board) → bay ≤ 1 → number_of board bay ≡ in_bay (rig_of board).numbers bay
number_in (suc (suc bay)) board small = absurd (omega arith)
number_in _ board small = refl

-- ---- both drives, by the one in a bay and the other

pub both_in : (R : DriveState → DriveState → Type 0) (bay : ℕ) (old new : Board) → bay ≤ 1
    → R (drive_in old bay) (drive_in new bay) → R (drive_in old (1 - bay)) (drive_in new (1 - bay)) → R old.first new.first × R old.second new.second
both_in R zero old new small here there = (here, there)
both_in R (suc zero) old new small here there = (there, here)
both_in R (suc (suc bay)) old new small here there = absurd (omega arith)

abbrev pub parts_of : {T : Type 0} → (DriveState → T) → Board → Two T
parts_of part board = record { first = part board.first; second = part board.second }

pub parts_same : {T : Type 0} (part : DriveState → T) (bay : ℕ) (old new : Board) → bay ≤ 1 → part (drive_in new bay) ≡ part (drive_in old bay)
    → part (drive_in new (1 - bay)) ≡ part (drive_in old (1 - bay)) → parts_of part new ≡ parts_of part old
parts_same part bay old new small here there =
    let (first, second) = both_in (λ a b. part b ≡ part a) bay old new small here there in
    two_same (part new.first) (part new.second) (part old.first) (part old.second) first second

pub parts_with : {T : Type 0} (part : DriveState → T) (value : T) (bay : ℕ) (old new : Board) → bay ≤ 1 → part (drive_in new bay) ≡ value
    → part (drive_in new (1 - bay)) ≡ part (drive_in old (1 - bay)) → parts_of part new ≡ with_bay (parts_of part old) bay value
parts_with part value zero old new small here there = two_same (part new.first) (part new.second) value (part old.second) here there
parts_with part value (suc zero) old new small here there = two_same (part new.first) (part new.second) (part old.first) value there here
parts_with part value (suc (suc bay)) old new small here there = absurd (omega arith)
