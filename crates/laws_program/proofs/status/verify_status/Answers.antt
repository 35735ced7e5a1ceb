use Rattle.laws_program.proofs.Replies.{verify_replies}
use Rattle.laws_program.proofs.status.verify_status.Goals as goal

pub returns : goal.returns
returns c spares old new ended = verify_replies spares old new ended c.args._name.now
