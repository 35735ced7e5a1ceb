use Rattle.laws_chip.proofs.Medium.{read_from}
use Rattle.laws_chip.proofs.UnderWay.{begins_served}
use Rattle.laws_chip.proofs.several.what_is_read_stands_on_the_medium.Goals as goal

pub returns : goal.returns
returns c = λ place wanted skip first start begun end calls results reads begins within tells stands served.
    read_from place first wanted skip reads calls served.history begun end within results (begins_served first start begun begins) stands served.gather served.moved served.of_sector tells
