use Rattle.fdc_core.proofs.drives.Facts.{word_written}
use Rattle.laws_machine.proofs.laws.onwritten.a_word_is_written.Goals as goal

pub returns-clause-writes : goal.returns-clause-writes
returns-clause-writes c = word_written
