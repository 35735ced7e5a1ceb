-- How a text ends if all its lines were done.
use Rattle.std.specs.Prelude.{◌≡◌, Bool, Option}
use Rattle.text_commands.specs.Common.{Files, Status, Stop, State, stop_status, Ends, EndStopsAt, IsEndStop, World, whole_status}

-- the end of a run: what was left in was stored, or storing a file stopped the run
pub data EndsAs (refused : Bool) (old : State) (files : Option Files) (new : State) (after : Option Files) (ended : Status) : Type 0 where
  InWhole : Ends old files new after → ended ≡ whole_status refused → EndsAs refused old files new after ended
  AtStore : (cause : Stop) → IsEndStop cause → EndStopsAt old files new after → ended ≡ stop_status cause
      → EndsAs refused old files new after ended

-- the end of a run, on worlds: nothing is printed
pub record EndsQuietly (refused : Bool) (old new : World) (ended : Status) : Type 0 where
  pub ends : EndsAs refused old.state old.files new.state new.files ended
  pub report : new.report ≡ old.report
