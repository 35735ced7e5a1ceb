-- RECALIBRATE and SEEK, as a driver sees them.
use Rattle.std.proofs.Common.{◌≡◌, ◌⊎◌, inl, inr, ℕ, zero, suc, ◌+◌, ◌-◌, ◌%◌, ◌≤◌, ◌==◌, Bool, true, false, List, [], ◌∷◌, ◌++◌, Option, None, is_some, length, slice_index, slice_set, refl, sym, ◌∙◌, ap, subst, arith}
use Rattle.std.specs.Prelude.{bit_and}
use Rattle.std.proofs.Math.ListN.{length-set}
use Rattle.machine_commands.proofs.Common.{DriveGoesOn, DriveState, InRange, Ready, Seeking, seek_bits, ended, after_sense, sought, recalibrated, Motion, Outward, Toward, Ended, data_commands_of, Fdc, Board, controller_of, drive_in, dor_with, IsReady, IsIdle, AreSeeksOver, is_spun, number_of, rig_of, Motors, counts_of, get_or-set_other, cases_lt, false≢true, eqb_tells, Recalibrate, Seek, SendsRecalibrate, SendsSeek, user_part, page_part}
use Rattle.std.proofs.lemmas.Grind.{get_or-set_at}
use Rattle.fdc_commands.specs.Table.{answer}
use Rattle.floppy_driver.specs.Heads.{MovesHeads, Recalibrates, Seeks}
use Rattle.machine_commands.proofs.Idling.{KeepsSpeed, idle_by, counts_go, drive_goes, drives_on, speed_stays, both_in, cylinder_in, medium_in, number_in, parts_same, parts_with}
use Rattle.machine_commands.proofs.Bytes.{AreMore}
use Rattle.machine_commands.proofs.Moving.{MovesDrive, OutwardWay, OutwardOver, TowardWay, TowardOver, turns_move, outward_rule, toward_rule}
use Rattle.machine_commands.proofs.Seeking.{Leaves, on_way, at_end}
use Rattle.machine_commands.proofs.Selecting.{with_dor, sensed_to}
use Rattle.machine_commands.proofs.Statuses.{no_bits}
use Rattle.machine_commands.proofs.Preparing.{SeekCommand, SeekDone, after_sense_of, seek_done}

same_drive_number : (bay : ℕ) → bay ≤ 1 → bay % 4 ≡ bay
same_drive_number bay small = omega arith

-- ---- the commands

recalibrate_more : AreMore [] (0x07 ∷ [])
unfolding answer
recalibrate_more = (refl, tt)

recalibrate_whole : (bay : ℕ) → answer ((0x07 ∷ []) ++ bay ∷ []) ≡ Ready (Recalibrate bay)
unfolding answer
recalibrate_whole bay = refl

seek_more : (bay : ℕ) → AreMore [] (0x0F ∷ bay ∷ [])
unfolding answer
seek_more bay = (refl, (refl, tt))

seek_whole : (bay target : ℕ) → answer ((0x0F ∷ bay ∷ []) ++ target ∷ []) ≡ Ready (Seek bay target)
unfolding answer
seek_whole bay target = refl

-- status register 0 of a pending result isn't 80, the sign that none is pending
recalibrated_told : (bay : ℕ) (reached : Bool) → bay ≤ 1 → (recalibrated bay reached == 0x80) ≡ false
recalibrated_told (suc (suc bay)) reached small = absurd (omega arith)
recalibrated_told zero true small = refl
recalibrated_told (suc zero) true small = refl
recalibrated_told _ _ small = refl

sought_told : (bay : ℕ) → bay ≤ 1 → (sought bay == 0x80) ≡ false
sought_told (suc (suc bay)) small = absurd (omega arith)
sought_told _ small = refl

-- the bit EQUIPMENT CHECK says that track 0 was not reached
reached_told : (bay : ℕ) (reached : Bool) → bay ≤ 1 → (bit_and (recalibrated bay reached) 0x10 == 0) ≡ reached
reached_told (suc (suc bay)) reached small = absurd (omega arith)
reached_told zero true small = refl
reached_told (suc zero) true small = refl
reached_told _ _ small = refl

outward_ends : (drive : DriveState) (n : ℕ) (m : Motion) (now : DriveState) → 80 ≤ n → OutwardWay drive n m now → ⊥
outward_ends drive n (Outward pulses) now long (left, stepped) = absurd (omega arith)
outward_ends drive n _ now long way = way

recalibrate_command : (bay : ℕ) (fdc : Fdc) (drive : DriveState) → bay ≤ 1 → seek_bits fdc.seeks ≡ 0 → SeekCommand bay fdc drive (OutwardWay drive) (OutwardOver bay drive)
recalibrate_command bay fdc drive small none = record {
  first = 0x07 ∷ [];
  last = bay;
  command = Recalibrate bay;
  more = recalibrate_more;
  whole = recalibrate_whole bay;
  motion = Outward 79;
  obeys = λ lines controller does. does.0 none ∙ ap (λ d. on_way fdc d (Outward 79)) (same_drive_number bay small);
  runs = refl;
  rule = outward_rule bay drive;
  begins = λ now keeps speed. (
    omega arith,
    record {
      lost = 0;
      far = let same = keeps.cylinder in omega arith;
      rose = let more = keeps.never_falls in omega arith;
      moves = turns_move drive now keeps speed;
    },
  );
  ends = outward_ends drive;
  told = λ number status now over. ap (λ s. s == 0x80) over.status_is ∙ recalibrated_told bay over.reached small;
}

toward_ends : (drive : DriveState) (from target : ℕ) (n : ℕ) (m : Motion) (now : DriveState) → target ≤ 79 → from ≤ 79 → 80 ≤ n → TowardWay drive from target n m now → ⊥
toward_ends drive from target n (Toward cylinder to) now small near long (aim, was) = elim was.way [
  | inl (up, low) ↦ absurd (omega arith)
  | inr (down, high) ↦ absurd (omega arith)
]
toward_ends drive from target n (Outward pulses) now small near long way = way
toward_ends drive from target n Ended now small near long way = way

at_first : (from target : ℕ) → ((from + 0 ≡ from) × (from ≤ target)) ⊎ ((from + 0 ≡ from) × (target ≤ from))
at_first from target = elim (cases_lt target from) [ inl less ↦ inr (omega arith, omega arith) | inr more ↦ inl (omega arith, more) ]

seek_command : (bay target : ℕ) (fdc : Fdc) (drive : DriveState) → bay ≤ 1 → seek_bits fdc.seeks ≡ 0 → target ≤ 79 → slice_index fdc.seeks.cylinders bay ≤ 79
    → SeekCommand bay fdc drive (TowardWay drive (slice_index fdc.seeks.cylinders bay) target) (TowardOver bay drive (slice_index fdc.seeks.cylinders bay) target)
seek_command bay target fdc drive small none within near =
    let from = slice_index fdc.seeks.cylinders bay in
    record {
      first = 0x0F ∷ bay ∷ [];
      last = target;
      command = Seek bay target;
      more = seek_more bay;
      whole = seek_whole bay target;
      motion = Toward from target;
      obeys = λ lines controller does. does.0 none ∙ ap (λ d. on_way fdc d (Toward (slice_index fdc.seeks.cylinders d) target)) (same_drive_number bay small);
      runs = refl;
      rule = toward_rule bay drive from target within near;
      begins = λ now keeps speed. (
        refl,
        record {
          way = at_first from target;
          follows = λ known calm. keeps.cylinder ∙ known;
          clears = λ one. absurd (omega arith);
          moves = turns_move drive now keeps speed;
        },
      );
      ends = λ n m now. toward_ends drive from target n m now within near;
      told = λ number status now over. ap (λ s. s == 0x80) over.status_is ∙ sought_told bay small;
    }

-- ---- the numbers of cylinders

abbrev numbers_at : List ℕ → ℕ → ℕ → List ℕ
numbers_at cylinders bay number = slice_set cylinders bay number

number_here : (cylinders : List ℕ) (bay number : ℕ) → bay ≤ 1 → length cylinders ≡ 4 → slice_index (numbers_at cylinders bay number) bay ≡ number
number_here cylinders bay number small four = get_or-set_at cylinders bay bay number 0 refl (omega arith)

number_there : (cylinders : List ℕ) (bay other number : ℕ) → (bay ≡ other → ⊥) → slice_index (numbers_at cylinders bay number) other ≡ slice_index cylinders other
number_there cylinders bay other number apart = get_or-set_other cylinders bay other number 0 (λ same. apart (sym same))

-- ---- the machine is idle again

seeks_over : (seeks : Seeking) (bay number code : ℕ) → bay ≤ 1 → number ≤ 79 → AreSeeksOver seeks → AreSeeksOver (after_sense (ended seeks bay number code))
seeks_over seeks bay number code small within over =
    subst AreSeeksOver (sym (after_sense_of bay number code seeks small over.no_result)) (record {
      no_seek = refl;
      no_result = refl;
      four = length-set seeks.cylinders bay number ∙ over.four;
      first = small_in 0 over.first;
      second = small_in 1 over.second;
    })
  where
    small_in : (k : ℕ) → slice_index seeks.cylinders k ≤ 79 → slice_index (numbers_at seeks.cylinders bay number) k ≤ 79
    small_in k was = elim (eqb_tells bay k) [
      | inl (_, same) ↦ let is = number_here seeks.cylinders bay number small over.four in
          subst (λ n. slice_index (numbers_at seeks.cylinders bay number) n ≤ 79) same (omega arith)
      | inr (_, apart) ↦ let is = number_there seeks.cylinders bay k number apart in omega arith
    ]

sought_idle : (motors : Motors) (bay number code : ℕ) (old new : Board) → IsIdle motors old → bay ≤ 1 → number ≤ 79 → MovesDrive (drive_in old bay) (drive_in new bay) → Leaves bay old new
    → controller_of new ≡ sensed_to (at_end (with_dor (dor_with motors bay) (controller_of old)) bay number code) → (new.bus.latch.level ≡ false) → InRange new.first → InRange new.second → IsIdle motors new
sought_idle motors bay number code old new idle small within moves left at low first second =
    let was = idle.ready in
    let (one, two) = both_in KeepsSpeed bay old new small moves.speed left.speed in
    let ready : IsReady (sensed_to (at_end (with_dor (dor_with motors bay) (controller_of old)) bay number code)) = record {
      phase = refl;
      no_bytes = refl;
      seeks = seeks_over (controller_of old).seeks bay number code small within was.seeks;
      by_dma = was.by_dma;
      polled = was.polled;
      no_interrupt = refl;
      not_asking = was.not_asking;
      fifo_on = was.fifo_on;
      threshold = was.threshold;
    } in
    idle_by motors bay _ new small at ready refl (one.motor ∙ idle.motors_are.first) (two.motor ∙ idle.motors_are.second) low first second

-- ---- the rig

heads_go : {old new : DriveState} → MovesDrive old new → DriveGoesOn (counts_of old) (counts_of new)
heads_go moves = record { never_falls = moves.never_falls; spends = moves.spends }

some_or_none : {T : Type 0} (medium : Option T) → is_some medium ≡ true → medium ≡ None → ⊥
some_or_none medium some none = false≢true (sym (ap is_some none) ∙ some)

moves_heads : (bay : ℕ) (old new : Board) → bay ≤ 1 → MovesDrive (drive_in old bay) (drive_in new bay) → Leaves bay old new → number_of new (1 - bay) ≡ number_of old (1 - bay)
    → data_commands_of (controller_of new) ≡ data_commands_of (controller_of old) → MovesHeads bay (rig_of old) (rig_of new)
moves_heads bay old new small moves left number sent =
    let other = 1 - bay in
    let (first, second) = both_in (λ a b. DriveGoesOn (counts_of a) (counts_of b)) bay old new small (heads_go moves) (drive_goes left.keeps) in
    let (spun_first, spun_second) = both_in (λ a b. is_spun a ≡ true → is_spun b ≡ true) bay old new small
    (speed_stays (drive_in old bay) (drive_in new bay) moves.medium moves.speed)
    (speed_stays (drive_in old other) (drive_in new other) left.keeps.medium left.speed) in
    let same : (drive_in new bay).change ≡ (drive_in old bay).change → (rig_of new).changes ≡ (rig_of old).changes =
    λ is. parts_same (λ d. d.change) bay old new small is left.keeps.change in
    record {
      media = parts_same (λ d. d.medium) bay old new small moves.medium left.keeps.medium;
      memory = ap user_part left.memory;
      page = ap page_part left.memory;
      spun = record { first = spun_first; second = spun_second };
      other_cylinder = sym (cylinder_in other new) ∙ (left.keeps.cylinder ∙ cylinder_in other old);
      other_number = sym (number_in other new (omega arith)) ∙ (number ∙ number_in other old (omega arith));
      changes = elim moves.change [
        | inl is ↦ inl (same is)
        | inr (some, cleared) ↦ inr (parts_with (λ d. d.change) false bay old new small cleared left.keeps.change)
      ];
      empty = λ none. elim moves.change [
        | inl is ↦ same is
        | inr (some, cleared) ↦ absurd (some_or_none (drive_in old bay).medium some (medium_in bay old ∙ none))
      ];
      counts = counts_go old new first second left.entries left.stalls (let direct = left.direct in omega arith) left.taken sent;
      driven = drives_on old new left.direct left.taken sent;
    }

-- ---- what is known after a seek

number_new : (motors : Motors) (bay number code : ℕ) (old new : Board) → IsIdle motors old → bay ≤ 1
    → controller_of new ≡ sensed_to (at_end (with_dor (dor_with motors bay) (controller_of old)) bay number code) → number_of new bay ≡ number
number_new motors bay number code old new idle small at =
    let seeks = (controller_of old).seeks in
    rw (at, after_sense_of bay number code seeks small idle.ready.seeks.no_result) (number_here seeks.cylinders bay number small idle.ready.seeks.four)

number_other : (motors : Motors) (bay number code : ℕ) (old new : Board) → IsIdle motors old → bay ≤ 1
    → controller_of new ≡ sensed_to (at_end (with_dor (dor_with motors bay) (controller_of old)) bay number code) → number_of new (1 - bay) ≡ number_of old (1 - bay)
number_other motors bay number code old new idle small at =
    let seeks = (controller_of old).seeks in
    rw (at, after_sense_of bay number code seeks small idle.ready.seeks.no_result) (number_there seeks.cylinders bay (1 - bay) number (λ same. absurd (omega arith)))

-- ---- RECALIBRATE

recalibrated_to : (motors : Motors) (bay status : ℕ) (old new : Board) → IsIdle motors old → bay ≤ 1 → SendsRecalibrate motors bay old status new
    → SeekDone bay (with_dor (dor_with motors bay) (controller_of old)) (OutwardOver bay (drive_in old bay)) status old new
unfolding recalibrate_command
recalibrated_to motors bay status old new idle small sends =
    let fdc = with_dor (dor_with motors bay) (controller_of old) in
    seek_done motors bay (OutwardWay (drive_in old bay)) (OutwardOver bay (drive_in old bay)) status old sends.selected sends.sent new idle small
    (recalibrate_command bay fdc (drive_in old bay) small (no_bits fdc.seeks idle.ready.seeks)) sends.selects sends.sends sends.ends

recalibrates_rig : (bay number code : ℕ) (reached : Bool) (old new : Board) → bay ≤ 1 → MovesHeads bay (rig_of old) (rig_of new) → number_of new bay ≡ 0
    → (over : OutwardOver bay (drive_in old bay) number code (drive_in new bay)) → over.reached ≡ reached → Recalibrates bay (rig_of old) reached (rig_of new)
recalibrates_rig (suc (suc bay)) number code reached old new small moves now over told = absurd (omega arith)
recalibrates_rig _ number code reached old new small moves now over told =
    record { moves = moves; number = now; arrives = λ yes. over.arrives (told ∙ yes); away = λ short. over.away (told ∙ short); lost = λ short. over.lost (told ∙ short) }

pub recalibrates : (motors : Motors) (bay status : ℕ) (old new : Board) → IsIdle motors old → bay ≤ 1 → SendsRecalibrate motors bay old status new
    → Recalibrates bay (rig_of old) (bit_and status 0x10 == 0) (rig_of new)
recalibrates motors bay status old new idle small sends =
    let done = recalibrated_to motors bay status old new idle small sends in
    let moves = moves_heads bay old new small done.over.moves done.leaves (number_other motors bay done.number done.code old new idle small done.controller_is)
    (ap data_commands_of done.controller_is) in
    recalibrates_rig bay done.number done.code (bit_and status 0x10 == 0) old new small moves
    (number_new motors bay done.number done.code old new idle small done.controller_is ∙ done.over.number_is) done.over
    (sym (ap (λ s. bit_and s 0x10 == 0) (done.status_is ∙ done.over.status_is) ∙ reached_told bay done.over.reached small))

pub recalibrate_idle : (motors : Motors) (bay status : ℕ) (old new : Board) → IsIdle motors old → bay ≤ 1 → SendsRecalibrate motors bay old status new
    → InRange new.first → InRange new.second → IsIdle motors new
recalibrate_idle motors bay status old new idle small sends first second =
    let done = recalibrated_to motors bay status old new idle small sends in
    let is = done.over.number_is in
    sought_idle motors bay done.number done.code old new idle small (omega arith) done.over.moves done.leaves done.controller_is done.low first second

-- ---- SEEK

near_by : (motors : Motors) (bay : ℕ) (old : Board) → IsIdle motors old → bay ≤ 1 → number_of old bay ≤ 79
near_by motors zero old idle small = idle.ready.seeks.first
near_by motors (suc zero) old idle small = idle.ready.seeks.second
near_by motors (suc (suc bay)) old idle small = absurd (omega arith)

sought_to : (motors : Motors) (bay target : ℕ) (old new : Board) → IsIdle motors old → bay ≤ 1 → target ≤ 79 → (sends : SendsSeek motors bay target old new)
    → SeekDone bay (with_dor (dor_with motors bay) (controller_of old)) (TowardOver bay (drive_in old bay) (number_of old bay) target) sends.status old new
unfolding seek_command
sought_to motors bay target old new idle small within sends =
    let fdc = with_dor (dor_with motors bay) (controller_of old) in
    seek_done motors bay (TowardWay (drive_in old bay) (number_of old bay) target) (TowardOver bay (drive_in old bay) (number_of old bay) target) sends.status
    old sends.selected sends.sent new idle small
    (seek_command bay target fdc (drive_in old bay) small (no_bits fdc.seeks idle.ready.seeks) within (near_by motors bay old idle small)) sends.selects sends.sends sends.ends

seeks_rig : (bay target number code : ℕ) (old new : Board) → bay ≤ 1 → MovesHeads bay (rig_of old) (rig_of new) → number_of new bay ≡ target
    → TowardOver bay (drive_in old bay) (number_of old bay) target number code (drive_in new bay) → Seeks bay target (rig_of old) (rig_of new)
seeks_rig (suc (suc bay)) target number code old new small moves now over = absurd (omega arith)
seeks_rig _ target number code old new small moves now over =
    record { moves = moves; number = now; arrives = over.follows; clears = λ some apart. over.clears apart some }

pub seeks : (motors : Motors) (bay target : ℕ) (old new : Board) → IsIdle motors old → bay ≤ 1 → target ≤ 79 → SendsSeek motors bay target old new
    → Seeks bay target (rig_of old) (rig_of new)
seeks motors bay target old new idle small within sends =
    let done = sought_to motors bay target old new idle small within sends in
    let moves = moves_heads bay old new small done.over.moves done.leaves (number_other motors bay done.number done.code old new idle small done.controller_is)
    (ap data_commands_of done.controller_is) in
    seeks_rig bay target done.number done.code old new small moves
    (number_new motors bay done.number done.code old new idle small done.controller_is ∙ done.over.number_is) done.over

pub seek_idle : (motors : Motors) (bay target : ℕ) (old new : Board) → IsIdle motors old → bay ≤ 1 → target ≤ 79 → SendsSeek motors bay target old new
    → InRange new.first → InRange new.second → IsIdle motors new
seek_idle motors bay target old new idle small within sends first second =
    let done = sought_to motors bay target old new idle small within sends in
    let is = done.over.number_is in
    sought_idle motors bay done.number done.code old new idle small (omega arith) done.over.moves done.leaves done.controller_is done.low first second
