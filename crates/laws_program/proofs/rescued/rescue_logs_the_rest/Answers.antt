use Rattle.laws_program.proofs.Rescues.{rescue_logs_rest}
use Rattle.laws_program.proofs.rescued.rescue_logs_the_rest.Goals as goal

pub returns : goal.returns
returns c = rescue_logs_rest c.args._from.now c.args._to.now c.args._log.now
