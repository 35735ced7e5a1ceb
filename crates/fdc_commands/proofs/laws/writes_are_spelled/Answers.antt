use Rattle.fdc_commands.proofs.WriteSpellings.{spells_write, spells_format}
use Rattle.fdc_commands.proofs.laws.writes_are_spelled.Goals as goal

pub returns-clause-data : goal.returns-clause-data
returns-clause-data c = spells_write

pub returns-clause-format : goal.returns-clause-format
returns-clause-format c = spells_format
