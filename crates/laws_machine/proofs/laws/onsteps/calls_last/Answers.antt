use Rattle.laws_machine.proofs.OnSteps.Lasting as lasting
use Rattle.laws_machine.proofs.laws.onsteps.calls_last.Goals as goal

pub returns-clause-wait : goal.returns-clause-wait
returns-clause-wait c = lasting.lasts_wait

pub returns-clause-wait_irq : goal.returns-clause-wait_irq
returns-clause-wait_irq c = lasting.lasts_waits

pub returns-clause-run_to_irq : goal.returns-clause-run_to_irq
returns-clause-run_to_irq c most steps old new runs = lasting.lasts_unset steps old new runs.runs

pub returns-clause-read : goal.returns-clause-read
returns-clause-read c = lasting.lasts_input

pub returns-clause-write : goal.returns-clause-write
returns-clause-write c = lasting.lasts_output

pub returns-clause-take_irq : goal.returns-clause-take_irq
returns-clause-take_irq c = lasting.lasts_taken

pub returns-clause-set_byte : goal.returns-clause-set_byte
returns-clause-set_byte c = lasting.lasts_set

pub returns-clause-handle : goal.returns-clause-handle
returns-clause-handle c = lasting.lasts_handled

pub returns-clause-twice : goal.returns-clause-twice
returns-clause-twice c = lasting.lasts_twice

pub returns-clause-clock : goal.returns-clause-clock
returns-clause-clock c = lasting.lasts_clock
