use Rattle.laws_program.proofs.Endings.{format_ends}
use Rattle.laws_program.proofs.ends.format_ends_well.Goals as goal

pub returns : goal.returns
returns c spares old new ended = format_ends c.args._name.now c.args._cylinders spares old new ended
