-- Nothing disturbs a desk: its drives have no faults, and no DMA request waits too long.
use Rattle.std.proofs.Common.{◌≡◌, ◌≤◌, ℕ, Bool, true, false, [], Some, None, refl, ap, arith, lit<}
use Rattle.std.specs.Prelude.{◌==◌, is_some, if◌then◌else◌}
use mathlib.Core.Bool.{false≢true}
use Rattle.flop_base.specs.Counters.{Counters, GoesOn, faults_of}
use Rattle.sector_desk.proofs.Common.{plain_state, PlainDrive, IsStationReady, station_shown, MachineStation, is_acknowledged, bay_of}
use Rattle.sector_desk.specs.Quiet.{IsCalm, stalls_due}

-- ---- no stall is due

pub quiet_still : (old new : Counters) → GoesOn old new → stalls_due old ≡ 0 → stalls_due new ≡ 0
quiet_still old new goes quiet = omega (arith, goes.stalls_spent, quiet)

-- ---- calls

no_faults : (station : MachineStation PlainDrive) (bay : ℕ) → faults_of (station_shown plain_state station).counters bay ≡ 0
no_faults station bay = by_bay (bay == 0)
  where
    by_bay : (is_first : Bool) → (if is_first then (station_shown plain_state station).counters.drives.first else (station_shown plain_state station).counters.drives.second).faults ≡ 0
    by_bay true = refl
    by_bay false = refl

-- an acknowledged bay had no fault when it was acknowledged
kept_none : (held : Bool) (kept : ℕ) → (held ≡ true → kept ≤ 0) → is_some (if held then Some kept else None) ≡ true → (if held then Some kept else None) ≡ Some 0
kept_none true kept most is = let none : kept ≡ 0 = omega (arith, most refl) in ap Some none
kept_none false kept most is = absurd (false≢true is)

held_none : (station : MachineStation PlainDrive) (bay : ℕ) → IsStationReady plain_state station → is_acknowledged (station_shown plain_state station) bay ≡ true
    → (bay_of (station_shown plain_state station) bay).acknowledged ≡ Some 0
held_none station bay ready = by_bay (bay == 0)
  where
    by_bay : (is_first : Bool) → is_some (if is_first then (station_shown plain_state station).bays.first else (station_shown plain_state station).bays.second).acknowledged ≡ true
        → (if is_first then (station_shown plain_state station).bays.first else (station_shown plain_state station).bays.second).acknowledged ≡ Some 0
    by_bay true is = kept_none _ station.driver.first.kept ready.attached.first.kept is
    by_bay false is = kept_none _ station.driver.second.kept ready.attached.second.kept is

pub calm : (bay : ℕ) (old new : MachineStation PlainDrive) → IsStationReady plain_state old
    → stalls_due (station_shown plain_state old).counters ≡ 0 → stalls_due (station_shown plain_state new).counters ≡ 0
    → IsCalm bay (station_shown plain_state old) (station_shown plain_state new)
calm bay old new ready quiet quiet_too =
    let before = no_faults old bay in
    let after = no_faults new bay in
    record {
      undisturbed = record {
        faults = omega (arith, after);
        stalls = omega (arith, quiet_too);
        together = omega (arith, before, after, quiet_too);
      };
      steady = λ is. record {
        kept = 0;
        acknowledged = held_none old bay ready is;
        count = after;
        below = lit< tt;
      };
    }
