use Rattle.laws_program.proofs.Replies.{play_replies}
use Rattle.laws_program.proofs.status.play_status.Goals as goal

pub returns : goal.returns
returns c spares old new ended = play_replies spares old new ended c.args._job.now
