use Rattle.floppy_words.proofs.PortsLemmas.{reads_no_file}
use Rattle.floppy_words.proofs.read.ports_file.Goals as goal

pub returns-clause-no_dash : goal.returns-clause-no_dash
returns-clause-no_dash c = reads_no_file _ _ c.ports.ensures
