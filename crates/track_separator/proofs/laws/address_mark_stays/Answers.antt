use Rattle.track_separator.proofs.Lawful.{mark_stays}
use Rattle.track_separator.proofs.laws.address_mark_stays.Goals as goal

pub returns : goal.returns
returns c = mark_stays c.args._fed.now c.args._turn.now c.requires.part c.args._place c.requires.mark
