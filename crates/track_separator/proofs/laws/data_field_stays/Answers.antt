use Rattle.track_separator.proofs.Lawful.{field_stays}
use Rattle.track_separator.proofs.laws.data_field_stays.Goals as goal

pub returns : goal.returns
returns c =
    field_stays c.args._fed.now c.args._turn.now c.requires.part c.args._place c.args._mark c.args._n c.args._size c.args._deleted c.args._good c.requires.coded c.requires.sized c.requires.ended c.requires.tells
