use Rattle.laws_chip.proofs.UnderWay.{command_served}
use Rattle.laws_chip.proofs.several.a_command_moves_its_sectors.Goals as goal

pub returns : goal.returns
returns c = command_served
