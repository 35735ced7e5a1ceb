-- How counters change when a drive is exchanged, and how faults are taken from what was left of them.
use Rattle.std.proofs.Common.{arith, ◌≡◌, ℕ, zero, suc, ◌+◌, ◌-◌, ◌≤◌, Bool, true, false, List, [], ◌∷◌, refl, ap, ◌∙◌, sym, subst, Option, Some, None}
use Rattle.std.proofs.lemmas.Bool.Decides.{nat_tests}
use Rattle.sector_model.proofs.Common.{sum_by-cons, Spends, DriveCounts, Counters, DriveGoesOn, GoesOn, TakesSpare, drive_same, with_spare, told_rise, told_faults, told_left, all_left}
use Rattle.std.specs.Prelude.{◌==◌, if◌then◌else◌, sum_by}
use Rattle.std.specs.Option.{option_map_or}
use Rattle.flop_base.specs.Bays.{in_bay}

pub not-first : (bay : ℕ) → (suc bay == 0) ≡ false
not-first bay = grind (arith, nat_tests)

-- `GoesOn` holds from the counters with the spare in a bay to the new counters
module _ (old : Counters) (new : Counters) (next : DriveCounts) (direct : old.direct ≤ new.direct) (commands : new.data_commands ≡ old.data_commands) where
  spare_goes : (bay : ℕ) → TakesSpare bay old new → DriveGoesOn next (in_bay new.drives bay) → GoesOn (with_spare old bay (next ∷ new.spares)) new
  spare_goes zero takes comes = record {
    first = comes;
    second = drive_same old.drives.second new.drives.second takes.other;
    spares = refl;
    stalls = omega (arith, takes.stalls);
    stalls_spent = omega (arith, takes.stalls, takes.stalls_left);
    data_commands = omega (arith, commands);
    taken = omega (arith, takes.taken);
    direct = direct;
  }
  spare_goes (suc bay) takes comes =
      let first : 1 - suc bay ≡ 0 = omega arith in
      let other : new.drives.first ≡ old.drives.first = subst (λ (k : ℕ). in_bay new.drives k ≡ in_bay old.drives k) first takes.other in
      let there : DriveGoesOn next new.drives.second = subst (λ (b : Bool). DriveGoesOn next (if b then new.drives.first else new.drives.second)) (not-first bay) comes in
      let goes : GoesOn (record old { drives = record old.drives { second = next }; spares = new.spares }) new = record {
        first = drive_same old.drives.first new.drives.first other;
        second = there;
        spares = refl;
        stalls = omega (arith, takes.stalls);
        stalls_spent = omega (arith, takes.stalls, takes.stalls_left);
        data_commands = omega (arith, commands);
        taken = omega (arith, takes.taken);
        direct = direct;
      } in
      subst (λ (b : Bool). GoesOn (record old { drives = (if b then record old.drives { first = next } else record old.drives { second = next }); spares = new.spares }) new) (sym (not-first bay)) goes

-- if a spare takes the place of a drive, `GoesOn` holds from the counters with the spare in the bay to the new counters
pub exchange_goes : (old new : Counters) (bay : ℕ) → TakesSpare bay old new → new.data_commands ≡ old.data_commands → GoesOn (with_spare old bay old.spares) new
exchange_goes old new bay takes commands =
    subst (λ (spares : List DriveCounts). GoesOn (with_spare old bay spares) new) (sym takes.spare.1)
    (spare_goes old new takes.spare.0 takes.direct commands bay takes takes.spare.2)

-- ---- Each fault is taken from what was left.

rise_paid : (a b : ℕ) (l m : Option ℕ) → a ≤ b → Spends a l b m → option_map_or (λ most. b - a) l 0 + option_map_or (λ most. most) m 0 ≤ option_map_or (λ most. most) l 0
rise_paid a b None m rose spends = subst (λ (o : Option ℕ). 0 + option_map_or (λ most. most) o 0 ≤ 0) (sym spends) (omega arith)
rise_paid a b (Some most) m rose spends = subst (λ (o : Option ℕ). (b - a) + option_map_or (λ most. most) o 0 ≤ most) (sym spends.1) (omega (arith, spends.2))

drive_paid : (old new : DriveCounts) → DriveGoesOn old new → told_rise old new + told_left new ≤ told_left old
drive_paid old new goes = rise_paid old.faults new.faults old.left new.left goes.never_falls goes.spends

pub left_paid : (old new : Counters) → GoesOn old new → told_faults old new + all_left new ≤ all_left old
left_paid old new goes =
    let spares = ap (sum_by told_left) goes.spares in
    omega (arith, drive_paid old.drives.first new.drives.first goes.first, drive_paid old.drives.second new.drives.second goes.second, spares)

-- a drive that is taken out takes along what it had left
pub spare_left : (counters : Counters) (bay : ℕ) (spares : List DriveCounts) → counters.spares ≡ spares → all_left (with_spare counters bay spares) ≤ all_left counters
spare_left counters bay [] same = omega arith
spare_left counters bay (next ∷ later) same = by_bay (bay == 0)
  where
    all : sum_by told_left counters.spares ≡ told_left next + sum_by told_left later
    all = ap (sum_by told_left) same ∙ sum_by-cons told_left next later

    by_bay : (is_first : Bool) → all_left (record counters { drives = (if is_first then record counters.drives { first = next } else record counters.drives { second = next }); spares = later }) ≤ all_left counters
    by_bay true = omega (arith, all)
    by_bay false = omega (arith, all)
