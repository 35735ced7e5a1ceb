use Rattle.laws_chip.proofs.CommandsBegun.{codes_spelled, transfer_begun}
use Rattle.laws_chip.proofs.transfers.a_transfer_is_begun.Goals as goal

pub returns-clause-codes : goal.returns-clause-codes
returns-clause-codes c = codes_spelled

pub returns-clause-begins : goal.returns-clause-begins
returns-clause-begins c = transfer_begun
