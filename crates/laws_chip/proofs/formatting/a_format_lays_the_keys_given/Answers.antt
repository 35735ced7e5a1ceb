use Rattle.laws_chip.proofs.FormatLays.{format_begins, format_lays}
use Rattle.laws_chip.proofs.formatting.a_format_lays_the_keys_given.Goals as goal

pub returns-clause-begins : goal.returns-clause-begins
returns-clause-begins c = format_begins

pub returns-clause-lays : goal.returns-clause-lays
returns-clause-lays c = format_lays
