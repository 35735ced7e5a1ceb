use Rattle.laws_program.proofs.Endings.{new_rescue_ends}
use Rattle.laws_program.proofs.ends.new_rescue_ends_well.Goals as goal

pub returns : goal.returns
returns c = new_rescue_ends c.args._from.now c.args._to.now c.args._log.now
