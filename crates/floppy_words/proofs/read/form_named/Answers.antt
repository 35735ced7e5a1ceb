use Rattle.floppy_words.proofs.DashLemmas.{reads_none}
use Rattle.floppy_words.proofs.read.form_named.Goals as goal

pub returns-clause-no_dash : goal.returns-clause-no_dash
returns-clause-no_dash c = reads_none _ _ c.form.ensures
