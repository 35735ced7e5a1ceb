use Rattle.laws_program.proofs.Endings.{further_rescue_ends}
use Rattle.laws_program.proofs.ends.further_rescue_ends_well.Goals as goal

pub returns : goal.returns
returns c = further_rescue_ends c.args._from.now c.args._to.now c.args._log.now
