use Rattle.fdc_core.proofs.Meanings.{paced, paced_id}
use Rattle.fdc_core.proofs.laws.listening_is_paced.Goals as goal

pub returns-clause-reads : goal.returns-clause-reads
returns-clause-reads c = paced

pub returns-clause-identifies : goal.returns-clause-identifies
returns-clause-identifies c = paced_id
