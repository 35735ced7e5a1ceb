use Rattle.laws_program.proofs.Endings.{export_run}
use Rattle.laws_program.proofs.lasting.export_lasts.Goals as goal

pub returns : goal.returns
returns c spares old new before after ended files disk over told image =
    export_run spares old new before after ended files told c.args._name.now disk image c.args._flat.now over
