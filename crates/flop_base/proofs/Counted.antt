-- How counters change from call to call.
use Rattle.std.proofs.Common.{arith, ◌≡◌, ℕ, ◌≤◌, Bool, true, false, refl, ◌∙◌, sym, subst, Option, Some, None}
use Rattle.std.specs.Prelude.{◌==◌, if◌then◌else◌}
use Rattle.flop_base.specs.Counts.{Spends}
use Rattle.flop_base.specs.Counters.{DriveCounts, Counters, DriveGoesOn, GoesOn, faults_of}

pub spends_twice : (a b c : ℕ) (l m n : Option ℕ) → Spends a l b m → Spends b m c n → Spends a l c n
spends_twice a b c None m n first second = subst (λ (o : Option ℕ). Spends b o c n) first second
spends_twice a b c (Some most) m n first second =
    let next = subst (λ (o : Option ℕ). Spends b o c n) first.1 second in
    (next.0, next.1, omega (arith, first.2, next.2))

pub drive_twice : (a b c : DriveCounts) → DriveGoesOn a b → DriveGoesOn b c → DriveGoesOn a c
drive_twice a b c first second = record {
  never_falls = omega (arith, first.never_falls, second.never_falls);
  spends = spends_twice a.faults b.faults c.faults a.left b.left c.left first.spends second.spends;
}

pub spends_itself : (a : ℕ) (l : Option ℕ) → Spends a l a l
spends_itself a None = refl
spends_itself a (Some most) = (most, refl, omega arith)

pub drive_itself : (a : DriveCounts) → DriveGoesOn a a
drive_itself a = record { never_falls = omega arith; spends = spends_itself a.faults a.left }

pub drive_same : (a b : DriveCounts) → b ≡ a → DriveGoesOn a b
drive_same a b same = subst (λ (d : DriveCounts). DriveGoesOn a d) (sym same) (drive_itself a)

-- one call and then another
pub goes_on_after : (a b c : Counters) → GoesOn a b → GoesOn b c → GoesOn a c
goes_on_after a b c one two = record {
  first = drive_twice a.drives.first b.drives.first c.drives.first one.first two.first;
  second = drive_twice a.drives.second b.drives.second c.drives.second one.second two.second;
  spares = two.spares ∙ one.spares;
  stalls = omega (arith, one.stalls, two.stalls);
  stalls_spent = omega (arith, one.stalls_spent, two.stalls_spent);
  data_commands = omega (arith, one.data_commands, two.data_commands);
  taken = omega (arith, one.taken, two.taken);
  direct = omega (arith, one.direct, two.direct);
}

-- no call
pub goes_on_itself : (a : Counters) → GoesOn a a
goes_on_itself a = record {
  first = drive_itself a.drives.first;
  second = drive_itself a.drives.second;
  spares = refl;
  stalls = omega arith;
  stalls_spent = omega arith;
  data_commands = omega arith;
  taken = omega arith;
  direct = omega arith;
}

-- the count of faults falls in no bay
pub faults_go_on : (old new : Counters) (bay : ℕ) → GoesOn old new → faults_of old bay ≤ faults_of new bay
faults_go_on old new bay goes = by_bay (bay == 0)
  where
    by_bay : (is_first : Bool) → (if is_first then old.drives.first else old.drives.second).faults ≤ (if is_first then new.drives.first else new.drives.second).faults
    by_bay true = goes.first.never_falls
    by_bay false = goes.second.never_falls
