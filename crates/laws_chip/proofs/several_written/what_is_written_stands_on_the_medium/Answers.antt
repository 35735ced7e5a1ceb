use Rattle.laws_chip.proofs.UnderWay.{begins_served}
use Rattle.laws_chip.proofs.WrittenCalls.{written_to}
use Rattle.laws_chip.proofs.several_written.what_is_written_stands_on_the_medium.Goals as goal

pub returns : goal.returns
returns c = λ place deleted first start begun end calls results writes begins within tells keeps medium served.
    written_to place deleted first writes calls start begun end within results begins (begins_served first start begun begins) keeps medium tells served.history served.gather
