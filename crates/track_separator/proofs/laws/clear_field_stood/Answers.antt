use Rattle.track_separator.proofs.Lawful.{address_stood, no_run_stood}
use Rattle.track_separator.proofs.laws.clear_field_stood.Goals as goal

pub returns-clause-address : goal.returns-clause-address
returns-clause-address c =
    address_stood c.args._fed.now c.args._turn.now c.requires.part c.args._place c.args._key c.requires.inside c.requires.address

pub returns-clause-clear : goal.returns-clause-clear
returns-clause-clear c = no_run_stood c.args._fed.now c.args._turn.now c.requires.part c.args._place c.requires.clear
