use Rattle.laws_program.proofs.Replies.{rescue_replies}
use Rattle.laws_program.proofs.status.new_rescue_status.Goals as goal

pub returns : goal.returns
returns c spares old new ended = rescue_replies spares old new ended c.args._from.now c.args._to.now c.args._log.now
