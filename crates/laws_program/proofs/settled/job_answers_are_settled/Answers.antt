use Rattle.laws_program.proofs.RescueStatus.{job_settled}
use Rattle.laws_program.proofs.settled.job_answers_are_settled.Goals as goal

pub returns : goal.returns
returns c = job_settled c.args._job.now
