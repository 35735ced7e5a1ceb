-- The station that a machine with its driver and spare drives is.
use Rattle.std.specs.Prelude.{◌≡◌, List, length, map}
use Rattle.machine_commands.specs.Common.{DriveCounts, DriveState, Board, memory_of, StationState, counts_of, shown, with_waiting}
use Rattle.machine_commands.specs.Shown.{counters_of, user_part, rig_shown}
use Rattle.machine_commands.specs.declared.station.MachineStation.{MachineStation}

-- what is counted of each of these drives
abbrev pub all_counts : {D : Type 0} → (D → DriveState) → List D → List DriveCounts
all_counts state drives = map (λ drive. counts_of (state drive)) drives

-- the station, whose drives have these states
abbrev pub station_shown : {D : Type 0} → (D → DriveState) → MachineStation D → StationState
station_shown state station = shown station.driver (rig_shown state station.machine)
    (length station.spare.items) (all_counts state station.spare.items)

-- what a board shows of a station that stands on it: the media of its drives, the user's part of its memory, and its
-- counts
pub record ShowsStation (board : Board) (station : StationState) : Type 0 where
  pub first : station.bays.first.medium ≡ board.first.medium
  pub second : station.bays.second.medium ≡ board.second.medium
  pub memory : station.memory ≡ user_part (memory_of board)
  pub counters : station.counters ≡ with_waiting (counters_of board) station.counters.spares
