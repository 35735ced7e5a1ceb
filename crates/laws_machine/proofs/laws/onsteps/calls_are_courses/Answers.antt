use Rattle.laws_machine.proofs.Common.{Acts, Goes}
use Rattle.laws_machine.proofs.OnSteps.Moves.{wait_goes, waits_goes, unset_goes, input_goes, output_goes}
use Rattle.laws_machine.proofs.laws.onsteps.calls_are_courses.Goals as goal

pub returns-clause-wait : goal.returns-clause-wait
returns-clause-wait c = wait_goes

pub returns-clause-wait_irq : goal.returns-clause-wait_irq
returns-clause-wait_irq c = waits_goes

pub returns-clause-run_to_irq : goal.returns-clause-run_to_irq
returns-clause-run_to_irq c most steps old new runs = unset_goes steps old new runs.runs

pub returns-clause-read : goal.returns-clause-read
returns-clause-read c = input_goes

pub returns-clause-write : goal.returns-clause-write
returns-clause-write c = output_goes

pub returns-clause-take_irq : goal.returns-clause-take_irq
returns-clause-take_irq c old = Goes.Does 0 old _ Goes.Stays Acts.Takes

pub returns-clause-set_byte : goal.returns-clause-set_byte
returns-clause-set_byte c address value old = Goes.Does 0 old _ Goes.Stays (Acts.Sets address value)

pub returns-clause-handle : goal.returns-clause-handle
returns-clause-handle c bay old new touches = Goes.Does 0 old new Goes.Stays (Acts.Handles bay new touches)
