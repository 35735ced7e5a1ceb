use Rattle.laws_program.proofs.Endings.{import_run}
use Rattle.laws_program.proofs.lasting.import_lasts.Goals as goal

pub returns : goal.returns
returns c spares old new before after ended files bytes rate over told flat =
    import_run spares old new before after ended files told c.args._flat.now c.args._name.now bytes rate over flat
