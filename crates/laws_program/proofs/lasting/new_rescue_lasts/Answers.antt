use Rattle.laws_program.proofs.Endings.{rescue_run}
use Rattle.laws_program.proofs.lasting.new_rescue_lasts.Goals as goal

pub returns : goal.returns
returns c spares old new before after ended files disk over told image absent =
    rescue_run spares old new before after ended files told c.args._from.now disk image c.args._to.now c.args._log.now over absent
