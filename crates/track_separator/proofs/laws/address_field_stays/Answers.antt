use Rattle.track_separator.proofs.Lawful.{address_stays}
use Rattle.track_separator.proofs.laws.address_field_stays.Goals as goal

pub returns : goal.returns
returns c = address_stays c.args._fed.now c.args._turn.now c.requires.part c.args._place c.args._key c.requires.address
