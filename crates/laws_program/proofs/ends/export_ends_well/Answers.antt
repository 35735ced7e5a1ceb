use Rattle.laws_program.proofs.Endings.{export_ends}
use Rattle.laws_program.proofs.ends.export_ends_well.Goals as goal

pub returns : goal.returns
returns c = export_ends c.args._name.now c.args._flat.now
