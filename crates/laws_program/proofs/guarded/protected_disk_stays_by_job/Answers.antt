use Rattle.laws_program.proofs.Protected.{job_stays}
use Rattle.laws_program.proofs.guarded.protected_disk_stays_by_job.Goals as goal

pub returns : goal.returns
returns c = job_stays c.args._name.now c.args._job.now
