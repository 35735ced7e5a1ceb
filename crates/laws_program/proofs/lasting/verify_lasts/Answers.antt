use Rattle.laws_program.proofs.Endings.{verify_run}
use Rattle.laws_program.proofs.lasting.verify_lasts.Goals as goal

pub returns : goal.returns
returns c spares old new before after ended files disk over told image =
    verify_run spares old new before after ended files told c.args._name.now disk image over
