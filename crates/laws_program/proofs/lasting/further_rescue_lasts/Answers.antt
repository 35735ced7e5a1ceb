use Rattle.laws_program.proofs.Endings.{further_run}
use Rattle.laws_program.proofs.lasting.further_rescue_lasts.Goals as goal

pub returns : goal.returns
returns c spares old new before after ended files disk target lines over told image other found =
    further_run spares old new before after ended files told c.args._from.now disk image c.args._to.now c.args._log.now target lines over other found
