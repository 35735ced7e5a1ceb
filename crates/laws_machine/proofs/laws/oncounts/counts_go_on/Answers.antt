use Rattle.laws_machine.proofs.OnCounts.Counting.{input_counts, output_counts}
use Rattle.laws_machine.proofs.laws.oncounts.counts_go_on.Goals as goal

pub returns-clause-read : goal.returns-clause-read
returns-clause-read c = input_counts

pub returns-clause-write : goal.returns-clause-write
returns-clause-write c = output_counts
