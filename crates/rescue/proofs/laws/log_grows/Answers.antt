use Rattle.rescue.proofs.LogLemmas.{log_empty, log_more}
use Rattle.rescue.proofs.laws.log_grows.Goals as goal

pub returns-clause-none : goal.returns-clause-none
returns-clause-none c = log_empty

pub returns-clause-more : goal.returns-clause-more
returns-clause-more c = log_more
