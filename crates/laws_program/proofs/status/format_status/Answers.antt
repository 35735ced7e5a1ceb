use Rattle.laws_program.proofs.Replies.{format_replies}
use Rattle.laws_program.proofs.status.format_status.Goals as goal

pub returns : goal.returns
returns c spares old new ended = format_replies spares old new ended c.args._name.now c.args._cylinders
