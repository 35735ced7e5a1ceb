use Rattle.laws_program.proofs.Replies.{import_replies}
use Rattle.laws_program.proofs.status.import_status.Goals as goal

pub returns : goal.returns
returns c spares old new ended = import_replies spares old new ended c.args._flat.now c.args._name.now
