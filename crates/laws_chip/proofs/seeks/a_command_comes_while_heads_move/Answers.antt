use Rattle.laws_chip.proofs.SeeksHeld.{byte_going, byte_paced}
use Rattle.laws_chip.proofs.seeks.a_command_comes_while_heads_move.Goals as goal

pub returns-clause-goes : goal.returns-clause-goes
returns-clause-goes c = byte_going

pub returns-clause-paced : goal.returns-clause-paced
returns-clause-paced c = byte_paced
