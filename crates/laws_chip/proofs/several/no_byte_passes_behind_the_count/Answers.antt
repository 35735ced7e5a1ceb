use Rattle.laws_chip.proofs.Silent.{told_silent}
use Rattle.laws_chip.proofs.several.no_byte_passes_behind_the_count.Goals as goal

pub returns : goal.returns
returns c = told_silent
