-- What a session shows, and what holds of it between requests.
use Rattle.sector_model.specs.Stations.{StationState}
use Rattle.sector_model.specs.States.{State, IsNamed}
use Rattle.floppy_session.specs.declared.labels.Labels.{Labels}
use Rattle.floppy_session.specs.Shapes.{AreShapes}

-- the state of a session, from what its station shows and from the labels of the media
abbrev pub state_of : StationState → Labels → State
state_of station labels = record { station = station; names = labels.names }

-- The session can run a request. Its station is ready. Each medium that is in has a name, and its shape is kept.
pub record IsRunning (is_ready : Type 0) (station : StationState) (labels : Labels) : Type 0 where
  pub ready : is_ready
  pub named : IsNamed (state_of station labels)
  pub shaped : AreShapes labels.shapes station.bays
