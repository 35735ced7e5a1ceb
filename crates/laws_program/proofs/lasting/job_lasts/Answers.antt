use Rattle.laws_program.proofs.JobRuns.{job_run}
use Rattle.laws_program.proofs.lasting.job_lasts.Goals as goal

pub returns : goal.returns
returns c = job_run c.args._job.now
