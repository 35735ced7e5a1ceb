use Rattle.laws_program.proofs.Courses.{form_runs}
use Rattle.laws_program.proofs.steps.course_is_a_run.Goals as goal

pub returns : goal.returns
returns c = form_runs
