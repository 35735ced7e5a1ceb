use Rattle.laws_chip.proofs.PassedOn.{all_passed, one_passed}
use Rattle.laws_chip.proofs.transfers.calls_are_passed_on.Goals as goal

pub returns-clause-one : goal.returns-clause-one
returns-clause-one c = one_passed

pub returns-clause-all : goal.returns-clause-all
returns-clause-all c = all_passed
