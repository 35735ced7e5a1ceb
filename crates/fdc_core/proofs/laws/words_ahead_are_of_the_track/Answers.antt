use Rattle.fdc_core.proofs.drives.PassedTimes.{plain_certain, single_certain}
use Rattle.fdc_core.proofs.laws.words_ahead_are_of_the_track.Goals as goal

pub returns : goal.returns
returns c = record { plain = plain_certain; single = single_certain }
