use Rattle.floppy_tools.proofs.Tied.{job_accesses}
use Rattle.floppy_tools.proofs.laws.accesses_of_a_job.Goals as goal

pub returns : goal.returns
returns c = job_accesses c.args._job.now
