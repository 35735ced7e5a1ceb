use Rattle.laws_chip.proofs.Called.{passes_of}
use Rattle.laws_chip.proofs.several.bytes_are_of_the_sector.Goals as goal

pub returns : goal.returns
returns c = passes_of
