use Rattle.laws_chip.proofs.CommandsBegun.{transfer_served}
use Rattle.laws_chip.proofs.transfers.a_transfer_moves_its_sectors.Goals as goal

pub returns : goal.returns
returns c = transfer_served
