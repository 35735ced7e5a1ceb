use Rattle.laws_program.proofs.Rescues.{rescue_settles}
use Rattle.laws_program.proofs.rescued.new_rescue_settles_each_record.Goals as goal

pub returns : goal.returns
returns c = rescue_settles c.args._from.now c.args._to.now c.args._log.now
