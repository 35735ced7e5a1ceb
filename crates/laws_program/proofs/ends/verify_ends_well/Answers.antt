use Rattle.laws_program.proofs.Endings.{verify_ends}
use Rattle.laws_program.proofs.ends.verify_ends_well.Goals as goal

pub returns : goal.returns
returns c = verify_ends c.args._name.now
