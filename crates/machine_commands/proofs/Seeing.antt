-- What a driver sees of a data command, from an idle machine until the machine is idle again.
use Rattle.std.proofs.Common.{◌≡◌, ℕ, zero, suc, ◌+◌, ◌-◌, ◌≤◌, ◌==◌, true, List, [], ◌∷◌, Some, is_some, min, nat_lt, if◌then◌else◌, slice_index, Result as result, refl, sym, ◌∙◌, ap, arith}
use Rattle.machine_commands.proofs.Common.{last_count, RoseBy, Spends, Code, Rate, Two, in_bay, GoesOn, IsDriven, IsFaultless, IsUndisturbed, faults_of, spends_twice, DriveState, InRange, data_commands_of, Order, Scene, head_sent, track_met, IsCalm, Stalled, met_is, counted, Board, controller_of, drive_in, holds_of, memory_of, track_under, IsIdle, latch_taken, counters_of, is_spun, rig_of, stalls_left, Motors, Done, sum_by-cons, TurnsOn, long_holds, most_steps_of, Uses, SendsRead, CostsFor, HeadsStay, turn_in, SendsWrite, page_part, user_part}
use Rattle.laws_machine.specs.OnQuiet.Quiet.{HaveTurned}
use Rattle.sector_model.specs.Lasting.{turn_of}
use Rattle.machine_commands.proofs.Beginning.{HasRun}
use Rattle.machine_commands.proofs.Idling.{KeepsDrive, KeepsSpeed, at_speed_on, two_same, cylinder_in, drive_kept, faults_in, kept_in, medium_in}
use Rattle.machine_commands.proofs.Lasting.{rig_costs, finished_idle}

-- ---- the drives

-- what a whole command leaves of a drive
record StaysDrive (old new : DriveState) : Type 0 where
  cylinder : new.cylinder ≡ old.cylinder
  change : new.change ≡ old.change
  spun : is_spun old ≡ true → is_spun new ≡ true
  never_falls : old.faults ≤ new.faults
  spends : Spends old.faults old.left new.faults new.left

stays_drive : (old start now new : DriveState) → KeepsDrive old start → KeepsSpeed old start → TurnsOn start now → KeepsDrive now new → KeepsSpeed now new → StaysDrive old new
stays_drive old start now new before before_speed turns after after_speed = record {
  cylinder = after.cylinder ∙ (turns.cylinder ∙ before.cylinder);
  change = after.change ∙ (turns.change ∙ before.change);
  spun = at_speed_on old new (ap is_some after.medium ∙ (turns.stays_in ∙ ap is_some before.medium)) (λ on.
      let one = before_speed.spin on in
      let started : start.motor ≡ true = before_speed.motor ∙ on in
      let two = turns.spin in
      let went : now.motor ≡ true = turns.motor ∙ started in
      let three = after_speed.spin went in
      (after_speed.motor ∙ went, omega arith));
  never_falls = let one = before.never_falls in let two = turns.never_falls in let three = after.never_falls in omega arith;
  spends = spends_twice old.faults start.faults new.faults old.left start.left new.left before.spends
      (spends_twice start.faults now.faults new.faults start.left now.left new.left turns.spends after.spends);
}

-- ---- the counts

long_left : (entries : List ℕ) → stalls_left entries ≡ long_holds entries
long_left [] = refl
long_left (hold ∷ entries) = sum_by-cons (λ h. if nat_lt 8 h then 1 else 0) hold entries ∙ ap (λ n. (if nat_lt 8 hold then 1 else 0) + n) (long_left entries)

module _ {order : Order} {scene : Scene} {motors : Motors} {rate : Rate} {start old : Board} {outcome : result Done Code} {new : Board} (run : HasRun order scene motors rate start old outcome new) where
  abbrev at : Board
  at = run.over.at

  first : StaysDrive old.first new.first
  first = stays_drive old.first start.first at.first new.first run.sent.stays.keeps.first run.sent.stays.first run.over.goes.awaited.first run.over.keeps.first run.over.first

  second : StaysDrive old.second new.second
  second = stays_drive old.second start.second at.second new.second run.sent.stays.keeps.second run.sent.stays.second run.over.goes.awaited.second run.over.keeps.second run.over.second

  commands_now : data_commands_of (controller_of new) ≡ counted (data_commands_of (controller_of old))
  commands_now = ap data_commands_of run.over.controller_is ∙ (run.over.goes.awaited.holds.data_commands ∙ ap counted run.sent.commands)

  numbers_now : (controller_of new).seeks.cylinders ≡ (controller_of old).seeks.cylinders
  numbers_now = ap (λ f. f.seeks.cylinders) run.over.controller_is ∙ (ap (λ s. s.cylinders) run.over.goes.awaited.holds.seeks ∙ run.sent.numbers)

  heads : HeadsStay (rig_of old) (rig_of new)
  heads = record {
    cylinders = two_same new.first.cylinder new.second.cylinder old.first.cylinder old.second.cylinder first.cylinder second.cylinder;
    numbers = ap (λ cylinders. let t : Two ℕ = record { first = slice_index cylinders 0; second = slice_index cylinders 1 } in t) numbers_now;
    changes = two_same new.first.change new.second.change old.first.change old.second.change first.change second.change;
    spun = record { first = first.spun; second = second.spun };
  }

  stalls_rise : (holds_of old).stalls ≤ (holds_of new).stalls
  stalls_rise = let before = run.sent.stays.keeps.stalls in let on = run.over.goes.counts.stalls in let after = run.over.keeps.stalls in let small = run.sent.counts.stalls in omega arith

  direct_now : new.bus.direct ≡ old.bus.direct
  direct_now = run.over.keeps.direct ∙ (run.over.goes.counts.direct ∙ run.sent.stays.keeps.direct)

  -- the latch was taken once more
  taken_rise : min (old.bus.taken + 1) last_count ≤ new.bus.taken
  taken_rise =
      let once : (latch_taken at).bus.taken ≡ counted at.bus.taken = ap (λ b. if b then counted at.bus.taken else at.bus.taken) (run.over.goes.awaited.ended run.over.idle).set in
      rise old.bus.taken start.bus.taken at.bus.taken (latch_taken at).bus.taken new.bus.taken run.sent.stays.keeps.taken run.over.goes.counts.taken once run.over.keeps.taken
    where
      rise : (a b c d e : ℕ) → a ≤ b → min b last_count ≤ c → d ≡ counted c → d ≤ e → min (a + 1) last_count ≤ e
      rise a b c d e one two three four = omega arith

  holds_left : (holds_of new).stalls + stalls_left (holds_of new).entries ≤ (holds_of old).stalls + stalls_left (holds_of old).entries
  holds_left =
      let before = run.sent.stays.keeps.stalls in
      let after = run.over.keeps.stalls in
      let entries_before : long_holds (holds_of start).entries ≡ stalls_left (holds_of old).entries = ap long_holds run.sent.stays.keeps.entries ∙ sym (long_left (holds_of old).entries) in
      let entries_after : stalls_left (holds_of new).entries ≡ long_holds (holds_of at).entries = long_left (holds_of new).entries ∙ ap long_holds run.over.keeps.entries in
      let spent = run.over.goes.counts.spent in
      omega arith

  goes_on : GoesOn (counters_of old) (counters_of new)
  goes_on = record {
    first = record { never_falls = first.never_falls; spends = first.spends };
    second = record { never_falls = second.never_falls; spends = second.spends };
    spares = refl;
    stalls = stalls_rise;
    stalls_spent = holds_left;
    data_commands = let now = commands_now in let small = run.sent.counts.data_commands in omega arith;
    taken = let more = taken_rise in let small = run.sent.counts.taken in omega arith;
    direct = let same = direct_now in omega arith;
  }

  is_driven : IsDriven 1 (counters_of old) (counters_of new)
  is_driven = record {
    most_commands = let now = commands_now in omega arith;
    interrupts = let now = commands_now in let more = taken_rise in omega arith;
    past_driver = direct_now;
  }

  one_more : RoseBy 1 (counters_of old).data_commands (counters_of new).data_commands
  one_more = let now = commands_now in omega arith

  -- ---- memory

  pub memory_before : memory_of start ≡ memory_of old
  memory_before = run.sent.stays.keeps.memory

  pub memory_after : memory_of new ≡ memory_of at
  memory_after = run.over.keeps.memory

  -- ---- the media

  pub medium_before : in_bay (rig_of old).media scene.bay ≡ Some scene.disk
  medium_before = sym (medium_in scene.bay old) ∙ (sym (drive_kept old start scene.bay run.sent.stays.keeps).medium ∙ run.drive.medium)

  pub medium_after : in_bay (rig_of new).media scene.bay ≡ (drive_in at scene.bay).medium
  medium_after = sym (medium_in scene.bay new) ∙ (drive_kept (latch_taken at) new scene.bay run.over.keeps).medium

  pub cylinder_before : in_bay (rig_of old).cylinders scene.bay ≡ scene.cylinder
  cylinder_before = sym (cylinder_in scene.bay old) ∙ (sym (drive_kept old start scene.bay run.sent.stays.keeps).cylinder ∙ run.drive.cylinder)

  pub cylinder_after : in_bay (rig_of new).cylinders scene.bay ≡ scene.cylinder
  cylinder_after = ap (λ t. in_bay t scene.bay) heads.cylinders ∙ cylinder_before

  other_stays : in_bay (rig_of new).media (1 - scene.bay) ≡ in_bay (rig_of old).media (1 - scene.bay)
  other_stays = by_bay scene.bay run.scene_is.bay refl
    where
      by_bay : (b : ℕ) → b ≤ 1 → scene.bay ≡ b → in_bay (rig_of new).media (1 - b) ≡ in_bay (rig_of old).media (1 - b)
      by_bay zero low here = run.over.keeps.second.medium ∙ (run.over.goes.others.second (ap (λ n. n == 1) (run.selects ∙ here)) ∙ run.sent.stays.keeps.second.medium)
      by_bay (suc zero) low here = run.over.keeps.first.medium ∙ (run.over.goes.others.first (ap (λ n. n == 0) (run.selects ∙ here)) ∙ run.sent.stays.keeps.first.medium)
      by_bay (suc (suc b)) low here = absurd (omega arith)

  -- the track that passed under the head, as the driver knew it
  pub track_before : (head : ℕ) → head_sent scene.sent ≡ head → track_met scene ≡ track_under (rig_of old) scene.bay rate head
  track_before head is = rw (medium_before, cylinder_before, ← is) (met_is scene rate run.rate_is)

  -- ---- all of it

  pub read_sends : HaveTurned start at → SendsRead (rig_of old) (rig_of new)
  read_sends turned = record {
    heads = heads;
    media = two_same new.first.medium new.second.medium old.first.medium old.second.medium
        (run.over.keeps.first.medium ∙ (turned.first.medium ∙ run.sent.stays.keeps.first.medium)) (run.over.keeps.second.medium ∙ (turned.second.medium ∙ run.sent.stays.keeps.second.medium));
    counts = goes_on;
    driven = is_driven;
    command = one_more;
  }

  pub write_sends : memory_of at ≡ memory_of start → SendsWrite scene.bay (rig_of old) (rig_of new)
  write_sends same = record {
    heads = heads;
    other_medium = other_stays;
    memory = ap user_part (memory_after ∙ (same ∙ memory_before));
    counts = goes_on;
    driven = is_driven;
    command = one_more;
  }

  pub page_stays : memory_of at ≡ memory_of start → (rig_of new).page ≡ (rig_of old).page
  page_stays same = ap page_part (memory_after ∙ (same ∙ memory_before))

  pub idle_after : InRange new.first → InRange new.second → IsIdle motors new
  idle_after = finished_idle motors scene.bay order scene start outcome new run.sent.sending run.over

  -- ---- what it costs

  turn_before : turn_in (rig_of old) scene.bay ≡ scene.disk.words_per_track
  turn_before = ap turn_of medium_before

  pub run_costs : (accesses : ℕ) → Uses accesses old new → turn_in (rig_of new) scene.bay ≡ turn_in (rig_of old) scene.bay → CostsFor scene.bay 2 261 accesses (rig_of old) (rig_of new)
  run_costs accesses uses same =
      let turn = turn_before in
      rig_costs scene.bay 2 261 accesses (most_steps_of scene.disk.words_per_track + 3) old new same (omega arith) (record { lasts = run.lasts; uses = uses })

  -- ---- disturbances

  faults_before : faults_of (counters_of old) scene.bay ≤ scene.faults
  faults_before = let same = faults_in scene.bay old in let is = run.drive.faults in let more = (drive_kept old start scene.bay run.sent.stays.keeps).never_falls in omega arith

  faults_during : scene.faults ≤ (drive_in at scene.bay).faults
  faults_during = let is = run.drive.faults in let more = (kept_in TurnsOn scene.bay start at run.over.goes.awaited.first run.over.goes.awaited.second).never_falls in omega arith

  faults_after : (drive_in at scene.bay).faults ≤ faults_of (counters_of new) scene.bay
  faults_after = let same = faults_in scene.bay new in let more = (drive_kept (latch_taken at) new scene.bay run.over.keeps).never_falls in omega arith

  pub calm_drive : IsFaultless scene.bay (counters_of old) (counters_of new) → IsCalm scene.faults (drive_in at scene.bay).faults
  calm_drive (few, small) = let one = faults_before in let two = faults_during in let three = faults_after in (omega arith, omega arith)

  pub stall_counts : Stalled start at → RoseBy 1 (counters_of old).stalls (counters_of new).stalls
  stall_counts rose = let before = run.sent.stays.keeps.stalls in let after = run.over.keeps.stalls in omega arith

  -- undisturbed: no fault, and no stall
  pub faultless : IsUndisturbed scene.bay (counters_of old) (counters_of new) → IsFaultless scene.bay (counters_of old) (counters_of new)
  faultless none = let together = none.together in let rise = stalls_rise in (omega arith, none.faults)

  pub unstalled : IsUndisturbed scene.bay (counters_of old) (counters_of new) → Stalled start at → ⊥
  unstalled none rose =
      let together = none.together in
      let below = none.stalls in
      let one = faults_before in
      let two = faults_during in
      let three = faults_after in
      let more = stall_counts rose in
      omega arith
