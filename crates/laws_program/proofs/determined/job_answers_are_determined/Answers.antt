use Rattle.laws_program.proofs.PlaysAgree.{answers_determined}
use Rattle.laws_program.proofs.determined.job_answers_are_determined.Goals as goal

pub returns : goal.returns
returns c one one_after two two_after course other ended other_ended =
    answers_determined c.args._job.now one one_after two two_after course other ended other_ended
