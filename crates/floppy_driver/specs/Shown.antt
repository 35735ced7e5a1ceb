-- What a driver and its machine show together.
use Rattle.std.specs.Prelude.{◌≡◌, ℕ, ◌==◌, ◌&&◌, Bool, false, not, List, Option, Some, None, if◌then◌else◌}
use Rattle.floppy_driver.specs.Common.{R500, Disk, DriveCounts, Counters, GoesOn, IsDriven, Bay, StationState, Stays}
use Rattle.floppy_driver.specs.Rigs.{Rig}
use Rattle.floppy_driver.specs.declared.driver.Notes.{Notes}
use Rattle.floppy_driver.specs.declared.driver.Driver.{Driver}

-- the notes on a bay
abbrev pub notes_of : Driver → ℕ → Notes
notes_of driver bay = if bay == 0 then driver.first else driver.second

-- a bay is held if it was acknowledged and its change line has been clear since
abbrev pub is_held : Notes → Bool → Bool
is_held notes changed = notes.gate && not changed

-- a bay as the notes on it show it
abbrev pub bay_shown : Notes → Option Disk → Bool → Bay
bay_shown notes medium changed = record {
  medium = medium;
  acknowledged = if is_held notes changed then Some notes.kept else None;
  rate = if is_held notes changed then notes.rate else R500;
}

-- counters with these spare drives waiting
abbrev pub with_waiting : Counters → List DriveCounts → Counters
with_waiting counters waiting = record counters { spares = waiting }

-- the station that driver and machine show, with `spares` spare drives waiting
abbrev pub shown : Driver → Rig → ℕ → List DriveCounts → StationState
shown driver rig spares waiting = record {
  bays = record {
    first = bay_shown driver.first rig.media.first rig.changes.first;
    second = bay_shown driver.second rig.media.second rig.changes.second;
  };
  memory = rig.memory;
  spares = spares;
  tries = driver.tries;
  counters = with_waiting rig.counters waiting;
}

-- the driver with other notes on a bay
abbrev pub with_notes : Driver → ℕ → Notes → Driver
with_notes driver bay notes = if bay == 0 then record driver { first = notes } else record driver { second = notes }

-- a driver that has just set a machine up: no bay is acknowledged, and three attempts are made
pub record IsFreshDriver (driver : Driver) : Type 0 where
  pub first : driver.first.gate ≡ false
  pub second : driver.second.gate ≡ false
  pub tries : driver.tries ≡ 3

-- the station was asked something: nothing but its counters changed, and no data command was sent
pub record HasAsked (old new : StationState) : Type 0 where
  pub stays : Stays old new
  pub counts : GoesOn old.counters new.counters
  pub idle : IsDriven 0 old.counters new.counters
