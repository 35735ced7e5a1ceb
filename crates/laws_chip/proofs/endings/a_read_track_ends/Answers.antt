use Rattle.laws_chip.proofs.TracksLast.{track_last}
use Rattle.laws_chip.proofs.endings.a_read_track_ends.Goals as goal

pub returns : goal.returns
returns c = track_last
