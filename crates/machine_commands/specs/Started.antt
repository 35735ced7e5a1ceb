-- A station before the first request.
use Rattle.std.specs.Prelude.{◌≡◌, List}
use Rattle.machine_commands.specs.Common.{CostsUpTo, DriveCounts, GoesOn, DriveState, Board, IsEmpty, IsNew, StationState, with_waiting}
use Rattle.irq_events.specs.declared.pace.Pace.{Pace}
use Rattle.machine_commands.specs.Shown.{counters_of}

-- the board of a new machine, with some timing (pace) and two empty drives
pub record IsFreshBoard (board : Board) : Type 0 where
  pub pace : Pace
  pub bay0 : DriveState
  pub bay1 : DriveState
  pub first : IsEmpty bay0
  pub second : IsEmpty bay1
  pub new : IsNew pace bay0 bay1 board

-- a station was set up on this board, in at most two device steps apart from gaps, and by at most 22 port accesses. Its
-- spare drives have these counts, and its counts go on from the board's. No data command was sent, and nothing was done
-- past the driver
pub record Starts (board : Board) (spares : List DriveCounts) (station : StationState) : Type 0 where
  pub spares_are : station.counters.spares ≡ spares
  pub counts : GoesOn (with_waiting (counters_of board) spares) station.counters
  pub data_commands : station.counters.data_commands ≡ (counters_of board).data_commands
  pub direct : station.counters.direct ≡ (counters_of board).direct
  pub costs : CostsUpTo 2 22 (counters_of board) station.counters
