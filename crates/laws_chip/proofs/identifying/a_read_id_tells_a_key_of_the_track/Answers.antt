use Rattle.laws_chip.proofs.Identified.{id_begins, id_tells}
use Rattle.laws_chip.proofs.identifying.a_read_id_tells_a_key_of_the_track.Goals as goal

pub returns-clause-begins : goal.returns-clause-begins
returns-clause-begins c = id_begins

pub returns-clause-tells : goal.returns-clause-tells
returns-clause-tells c = id_tells
