use Rattle.laws_program.proofs.Endings.{import_ends}
use Rattle.laws_program.proofs.ends.import_ends_well.Goals as goal

pub returns : goal.returns
returns c = import_ends c.args._flat.now c.args._name.now
