-- A station: two bays with their media, user memory, spare drives, the number of attempts, and counters.
use Rattle.std.specs.Prelude.{◌≡◌, ℕ, ◌<◌, List, length, Option, Some, None}
use Rattle.sector_model.specs.Common.{last_count, Rate, R500, Disk, Two, both, in_bay, with_bay, Counters, TellsLeft, faults_of, user_bytes, zeroes, met_in}

-- a bay as the driver knows it
pub record Bay : Type 0 where
  pub medium : Option Disk
  -- the count of faults that the drive had when the bay was acknowledged; none if the bay isn't acknowledged
  pub acknowledged : Option ℕ
  -- the rate of commands in the bay, whatever the rate of the medium is
  pub rate : Rate

-- a station, to which requests are made
pub record StationState : Type 0 where
  pub bays : Two Bay
  -- user memory, 983,040 bytes from 00000 to EFFFF
  pub memory : List ℕ
  -- how many spare drives are left
  pub spares : ℕ
  -- how many attempts a read, a write or a format has
  pub tries : ℕ
  pub counters : Counters

-- the bay with this number
abbrev pub bay_of : StationState → ℕ → Bay
bay_of station bay = in_bay station.bays bay

-- the station with another bay
abbrev pub set_bay : StationState → ℕ → Bay → StationState
set_bay station number bay = record station { bays = with_bay station.bays number bay }

-- the new station is the target, whatever its counters
abbrev pub Becomes : StationState → StationState → Type 0
Becomes target new = new ≡ record target { counters = new.counters }

-- nothing but counters changed
abbrev pub Stays : StationState → StationState → Type 0
Stays old new = Becomes old new

-- a bay with this medium or none, as it is after an exchange of the medium: unacknowledged, at 500 kbit/s
abbrev pub fresh_bay : Option Disk → Bay
fresh_bay medium = record { medium = medium; acknowledged = None; rate = R500 }

-- a station before the first request: empty unacknowledged bays, memory of 00, three attempts
pub record IsFresh (station : StationState) : Type 0 where
  pub bays : station.bays ≡ both (fresh_bay None)
  pub memory : station.memory ≡ zeroes user_bytes
  pub tries : station.tries ≡ 3
  pub spares : length station.counters.spares ≡ station.spares
  pub tells : TellsLeft station.counters

-- what a command in a bay meets of a track
abbrev pub met : Bay → ℕ → ℕ → List ℕ
met bay c h = met_in bay.medium bay.rate c h

-- Steady: at the end of a call the bay's drive has the fault count that it had when the bay was acknowledged. Its heads
-- therefore stand where the driver takes them to stand
pub record IsSteady (bay : ℕ) (old new : StationState) : Type 0 where
  pub kept : ℕ
  pub acknowledged : (bay_of old bay).acknowledged ≡ Some kept
  pub count : faults_of new.counters bay ≡ kept
  pub below : kept < last_count
