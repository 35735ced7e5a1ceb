use Rattle.laws_program.proofs.Replies.{copy_replies}
use Rattle.laws_program.proofs.status.copy_status.Goals as goal

pub returns : goal.returns
returns c spares old new ended = copy_replies spares old new ended c.args._from.now c.args._to.now
