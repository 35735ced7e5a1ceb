-- The program over a machine, from the driver's set-up to the machine that comes back.
use Rattle.std.specs.Prelude.{◌≡◌, List, Option, None}
use Rattle.floppy_tools.specs.Common.{Status, both, DriveCounts, Board, IsFresh, State, ShowsStation, Starts, Form, Runs, Outside}
use Rattle.text_commands.specs.JobRounds.{world}
use Rattle.floppy_tools.specs.Programs.{Does}

-- a session before its first request, whose driver was set up on this board, with spare drives of these counts
pub record IsSetUp (board : Board) (spares : List DriveCounts) (state : State) : Type 0 where
  pub names : state.names ≡ both None
  pub fresh : IsFresh state.station
  pub starts : Starts board spares state.station

-- the program ran over a machine: its run begins with the session that was set up, and the machine that comes back
-- shows the station at its end
pub record RunsOver (asked : Option Form) (old : Board) (spares : List DriveCounts) (before : Outside) (new : Board) (after : Outside) (ended : Status) : Type 0 where
  pub start : State
  pub last : State
  pub set_up : IsSetUp old spares start
  pub shows : ShowsStation new last.station
  pub runs : Runs (Does asked) (world start before.files before.report) (world last after.files after.report) ended
