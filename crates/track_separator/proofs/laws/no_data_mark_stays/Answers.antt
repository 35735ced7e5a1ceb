use Rattle.track_separator.proofs.Lawful.{no_data_stays}
use Rattle.track_separator.proofs.laws.no_data_mark_stays.Goals as goal

pub returns : goal.returns
returns c = no_data_stays c.args._fed.now c.args._turn.now c.requires.part c.args._place c.args._n c.requires.over
