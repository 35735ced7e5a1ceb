use Rattle.laws_chip.proofs.SinglesLast.{single_last}
use Rattle.laws_chip.proofs.VerifiesLast.{transfer_last}
use Rattle.laws_chip.proofs.endings.each_command_ends.Goals as goal

pub returns-clause-single : goal.returns-clause-single
returns-clause-single c = single_last

pub returns-clause-transfer : goal.returns-clause-transfer
returns-clause-transfer c = transfer_last
