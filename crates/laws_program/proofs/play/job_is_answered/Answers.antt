use Rattle.laws_program.proofs.Courses.{play_answers}
use Rattle.laws_program.proofs.play.job_is_answered.Goals as goal

pub returns : goal.returns
returns c = play_answers c.args._job.now
