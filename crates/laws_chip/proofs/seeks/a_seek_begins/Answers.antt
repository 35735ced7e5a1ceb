use Rattle.laws_chip.proofs.SeeksBegun.{seek_comes}
use Rattle.laws_chip.proofs.SeeksHeld.{call_going}
use Rattle.laws_chip.proofs.seeks.a_seek_begins.Goals as goal

pub returns-clause-comes : goal.returns-clause-comes
returns-clause-comes c = seek_comes

pub returns-clause-stays : goal.returns-clause-stays
returns-clause-stays c = call_going
