use Rattle.fdc_commands.proofs.ReadSpellings.{spells_read, spells_id}
use Rattle.fdc_commands.proofs.laws.reads_are_spelled.Goals as goal

pub returns-clause-data : goal.returns-clause-data
returns-clause-data c = spells_read

pub returns-clause-id : goal.returns-clause-id
returns-clause-id c = spells_id
