use Rattle.laws_program.proofs.Replies.{exercise_replies}
use Rattle.laws_program.proofs.status.exercise_status.Goals as goal

pub returns : goal.returns
returns c seed count spares old new ended = exercise_replies spares old new ended seed count
