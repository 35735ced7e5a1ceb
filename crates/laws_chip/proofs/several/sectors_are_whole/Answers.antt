use Rattle.laws_chip.proofs.Called.{has_field, passed_whole}
use Rattle.laws_chip.proofs.several.sectors_are_whole.Goals as goal

pub returns-clause-parts : goal.returns-clause-parts
returns-clause-parts c = passed_whole

pub returns-clause-last : goal.returns-clause-last
returns-clause-last c = has_field
