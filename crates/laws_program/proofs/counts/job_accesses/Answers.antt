use Rattle.laws_program.proofs.Archives.{machine_accesses}
use Rattle.laws_program.proofs.counts.job_accesses.Goals as goal

pub returns : goal.returns
returns c = machine_accesses c.args._job.now
