use Rattle.laws_commands.proofs.Whole.{rescue_logs}
use Rattle.laws_commands.proofs.rescue_logs.rescue_logs_what_is_not_found.Goals as goal

pub returns : goal.returns
returns c old new course ended files disk = rescue_logs c.args._from.now c.args._to.now c.args._log.now disk files old course new ended
