use Rattle.laws_machine.proofs.OnReads.InTime.{inputs_in_time, begins_in_time}
use Rattle.laws_machine.proofs.laws.onreads.holding.a_read_overruns_only_by_a_stall.Goals as goal

pub returns-clause-begins : goal.returns-clause-begins
returns-clause-begins c = begins_in_time

pub returns-clause-read : goal.returns-clause-read
returns-clause-read c = inputs_in_time
