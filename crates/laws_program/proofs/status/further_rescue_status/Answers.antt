use Rattle.laws_program.proofs.Replies.{rescue_again_replies}
use Rattle.laws_program.proofs.status.further_rescue_status.Goals as goal

pub returns : goal.returns
returns c spares old new ended = rescue_again_replies spares old new ended c.args._from.now c.args._to.now c.args._log.now
