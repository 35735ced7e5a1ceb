use Rattle.laws_program.proofs.JobRuns.{reading_stores}
use Rattle.laws_program.proofs.stores.a_job_that_reads_stores_nothing_new.Goals as goal

pub returns : goal.returns
returns c = reading_stores c.args._job.now
