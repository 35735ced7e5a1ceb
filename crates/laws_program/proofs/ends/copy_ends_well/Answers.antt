use Rattle.laws_program.proofs.Endings.{copy_ends}
use Rattle.laws_program.proofs.ends.copy_ends_well.Goals as goal

pub returns : goal.returns
returns c = copy_ends c.args._from.now c.args._to.now
