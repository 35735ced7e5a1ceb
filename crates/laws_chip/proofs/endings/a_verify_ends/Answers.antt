use Rattle.laws_chip.proofs.VerifiesLast.{verify_begins, verify_last, verify_verifies}
use Rattle.laws_chip.proofs.endings.a_verify_ends.Goals as goal

pub returns-clause-begins : goal.returns-clause-begins
returns-clause-begins c = verify_begins

pub returns-clause-verifies : goal.returns-clause-verifies
returns-clause-verifies c = verify_verifies

pub returns-clause-within : goal.returns-clause-within
returns-clause-within c = verify_last
