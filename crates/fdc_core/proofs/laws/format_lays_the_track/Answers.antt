use Rattle.fdc_core.proofs.Tellings.{lays_track}
use Rattle.fdc_core.proofs.laws.format_lays_the_track.Goals as goal

pub returns : goal.returns
returns c = lays_track
