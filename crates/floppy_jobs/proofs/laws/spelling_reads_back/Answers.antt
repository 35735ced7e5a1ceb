use Rattle.floppy_jobs.proofs.SpellingLemmas.{spelling-job}
use Rattle.floppy_jobs.proofs.laws.spelling_reads_back.Goals as goal

pub returns : goal.returns
returns c = spelling-job
