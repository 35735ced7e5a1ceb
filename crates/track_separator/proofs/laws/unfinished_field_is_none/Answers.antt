use Rattle.track_separator.proofs.Lawful.{unfinished_is_no_data}
use Rattle.track_separator.proofs.laws.unfinished_field_is_none.Goals as goal

pub returns : goal.returns
returns c = unfinished_is_no_data c.args._turn.now c.args._place c.args._n c.args._size c.requires.sized c.requires.over
