use Rattle.laws_program.proofs.Endings.{copy_run}
use Rattle.laws_program.proofs.lasting.copy_lasts.Goals as goal

pub returns : goal.returns
returns c spares old new before after ended files disk over told image =
    copy_run spares old new before after ended files told c.args._from.now disk image c.args._to.now over
