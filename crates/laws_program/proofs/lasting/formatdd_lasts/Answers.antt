use Rattle.laws_program.proofs.Endings.{formatdd_run}
use Rattle.laws_program.proofs.lasting.formatdd_lasts.Goals as goal

pub returns : goal.returns
returns c spares old new before after ended over =
    formatdd_run spares old new before after ended c.args._name.now c.args._cylinders over
