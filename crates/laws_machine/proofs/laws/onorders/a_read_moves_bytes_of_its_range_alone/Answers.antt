use Rattle.laws_machine.proofs.OnOrders.Punctual.{begins, outputs_fetch, read_outside, read_over, reads_on, runs_outside}
use Rattle.laws_machine.proofs.laws.onorders.a_read_moves_bytes_of_its_range_alone.Goals as goal

pub returns-clause-outside : goal.returns-clause-outside
returns-clause-outside c = runs_outside

pub returns-clause-begins : goal.returns-clause-begins
returns-clause-begins c = begins

pub returns-clause-reads : goal.returns-clause-reads
returns-clause-reads c = reads_on

pub returns-clause-keeps : goal.returns-clause-keeps
returns-clause-keeps c = read_outside

pub returns-clause-over : goal.returns-clause-over
returns-clause-over c = read_over

pub returns-clause-writes : goal.returns-clause-writes
returns-clause-writes c = outputs_fetch
