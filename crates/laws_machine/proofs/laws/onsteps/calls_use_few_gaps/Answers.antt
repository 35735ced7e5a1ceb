use Rattle.laws_machine.proofs.OnSteps.Using as using_up
use Rattle.laws_machine.proofs.laws.onsteps.calls_use_few_gaps.Goals as goal

pub returns-clause-wait : goal.returns-clause-wait
returns-clause-wait c = using_up.uses_wait

pub returns-clause-wait_irq : goal.returns-clause-wait_irq
returns-clause-wait_irq c = using_up.uses_waits

pub returns-clause-run_to_irq : goal.returns-clause-run_to_irq
returns-clause-run_to_irq c most steps old new runs = using_up.uses_unset steps old new runs.runs

pub returns-clause-read : goal.returns-clause-read
returns-clause-read c = using_up.uses_input

pub returns-clause-write : goal.returns-clause-write
returns-clause-write c = using_up.uses_output

pub returns-clause-take_irq : goal.returns-clause-take_irq
returns-clause-take_irq c = using_up.uses_taken

pub returns-clause-look : goal.returns-clause-look
returns-clause-look c = using_up.uses_look

pub returns-clause-set_byte : goal.returns-clause-set_byte
returns-clause-set_byte c = using_up.uses_set

pub returns-clause-handle : goal.returns-clause-handle
returns-clause-handle c = using_up.uses_handled

pub returns-clause-twice : goal.returns-clause-twice
returns-clause-twice c = using_up.uses_twice
