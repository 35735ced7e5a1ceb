use Rattle.laws_program.proofs.Rescues.{rescue_settles_again}
use Rattle.laws_program.proofs.rescued.further_rescue_settles_each_record.Goals as goal

pub returns : goal.returns
returns c = rescue_settles_again c.args._from.now c.args._to.now c.args._log.now
