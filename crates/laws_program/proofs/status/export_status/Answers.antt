use Rattle.laws_program.proofs.Replies.{export_replies}
use Rattle.laws_program.proofs.status.export_status.Goals as goal

pub returns : goal.returns
returns c spares old new ended = export_replies spares old new ended c.args._name.now c.args._flat.now
