use Rattle.rescue.proofs.LawLemmas.{one_spelling, understood}
use Rattle.rescue.proofs.laws.log_reads_back.Goals as goal

pub returns-clause-one_spelling : goal.returns-clause-one_spelling
returns-clause-one_spelling c = one_spelling

pub returns-clause-understood : goal.returns-clause-understood
returns-clause-understood c = understood
