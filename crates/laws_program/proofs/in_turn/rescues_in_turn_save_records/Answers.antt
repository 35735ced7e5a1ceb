use Rattle.laws_program.proofs.RescuesInTurn.{in_turn}
use Rattle.laws_program.proofs.in_turn.rescues_in_turn_save_records.Goals as goal

pub returns : goal.returns
returns c first later differ = in_turn c.args._to.now c.args._log.now differ first later
