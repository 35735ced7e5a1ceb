use Rattle.laws_machine.proofs.OnReads.TrackMet.{recorded}
use Rattle.laws_machine.proofs.laws.onreads.the_track_is_met.Goals as goal

pub returns-clause-recorded : goal.returns-clause-recorded
returns-clause-recorded c = recorded
