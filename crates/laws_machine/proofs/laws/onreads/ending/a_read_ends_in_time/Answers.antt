use Rattle.laws_machine.proofs.OnReads.EndCalls.{begins_soon, inputs_soon}
use Rattle.laws_machine.proofs.OnReads.EndSteps.{soon_few, soon_few_of}
use Rattle.laws_machine.proofs.laws.onreads.ending.a_read_ends_in_time.Goals as goal

pub returns-clause-begins : goal.returns-clause-begins
returns-clause-begins c = begins_soon

pub returns-clause-read : goal.returns-clause-read
returns-clause-read c = inputs_soon

pub returns-clause-few : goal.returns-clause-few
returns-clause-few c = soon_few

pub returns-clause-fewer : goal.returns-clause-fewer
returns-clause-fewer c = soon_few_of

pub returns-clause-no_late : goal.returns-clause-no_late
returns-clause-no_late c = λ scene board (under, soon, short). soon.no_late
