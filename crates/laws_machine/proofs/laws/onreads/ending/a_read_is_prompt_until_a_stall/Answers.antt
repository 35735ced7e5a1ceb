use Rattle.laws_machine.proofs.OnReads.EndCalls.{begins_prompt, inputs_prompt}
use Rattle.laws_machine.proofs.laws.onreads.ending.a_read_is_prompt_until_a_stall.Goals as goal

pub returns-clause-begins : goal.returns-clause-begins
returns-clause-begins c = begins_prompt

pub returns-clause-read : goal.returns-clause-read
returns-clause-read c = inputs_prompt

pub returns-clause-no_overrun : goal.returns-clause-no_overrun
returns-clause-no_overrun c = λ scene board ((under, punctual), soon). punctual.no_overrun

pub returns-clause-no_late : goal.returns-clause-no_late
returns-clause-no_late c = λ scene board (in_time, soon). soon.no_late
