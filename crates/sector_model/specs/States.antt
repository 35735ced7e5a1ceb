-- The state of a session: its station, and the names of the media that are in.
use Rattle.std.specs.Prelude.{◌≡◌, ℕ, List, Option, None, is_some}
use Rattle.sector_model.specs.Common.{Disk, Two, both, with_bay, CostsUpTo, GoesOn, IsDriven}
use Rattle.sector_model.specs.Stations.{StationState, Stays}
use Rattle.sector_model.specs.Calls.{Exchanges}

-- a session: a station, and what its media are called
pub record State : Type 0 where
  pub station : StationState
  -- the name under which the medium of each bay is stored; none if the bay is empty
  pub names : Two (Option (List ℕ))

-- a session begins with no names
abbrev pub start_of : StationState → State
start_of station = record { station = station; names = both None }

-- a bay has a name exactly if it has a medium
pub record IsNamed (state : State) : Type 0 where
  pub first : is_some state.names.first ≡ is_some state.station.bays.first.medium
  pub second : is_some state.names.second ≡ is_some state.station.bays.second.medium

-- nothing of the state changed, no data command was sent, and nothing was accessed past the driver. No device step passed,
-- and at most `accesses` port accesses were made
pub record IsSame (accesses : ℕ) (old new : State) : Type 0 where
  pub names : new.names ≡ old.names
  pub stays : Stays old.station new.station
  pub idle : IsDriven 0 old.station.counters new.station.counters
  pub costs : CostsUpTo 0 accesses old.station.counters new.station.counters
  pub counts : GoesOn old.station.counters new.station.counters

-- a bay has this medium under this name from now on, or no medium. The bay is unacknowledged
pub record ChangesMedium (bay : ℕ) (name : Option (List ℕ)) (medium : Option Disk) (old new : State) : Type 0 where
  pub names : new.names ≡ with_bay old.names bay name
  pub exchanged : Exchanges bay medium old.station new.station
  pub counts : GoesOn old.station.counters new.station.counters
