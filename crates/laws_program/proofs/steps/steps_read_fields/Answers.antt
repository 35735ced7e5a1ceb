use Rattle.laws_program.proofs.Stepping.{each_reads}
use Rattle.laws_program.proofs.steps.steps_read_fields.Goals as goal

pub returns : goal.returns
returns c = each_reads
