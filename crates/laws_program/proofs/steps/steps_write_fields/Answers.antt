use Rattle.laws_program.proofs.Stepping.{each_writes}
use Rattle.laws_program.proofs.steps.steps_write_fields.Goals as goal

pub returns : goal.returns
returns c = each_writes
