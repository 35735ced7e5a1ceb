use Rattle.laws_program.proofs.Replies.{format_dd_replies}
use Rattle.laws_program.proofs.status.formatdd_status.Goals as goal

pub returns : goal.returns
returns c spares old new ended = format_dd_replies spares old new ended c.args._name.now c.args._cylinders
