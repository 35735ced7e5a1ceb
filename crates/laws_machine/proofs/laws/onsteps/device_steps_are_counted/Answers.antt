use Rattle.laws_machine.proofs.OnSteps.Moves.{goes_counted, waits_goes}
use Rattle.laws_machine.proofs.laws.onsteps.device_steps_are_counted.Goals as goal

pub returns-clause-course : goal.returns-clause-course
returns-clause-course c = goes_counted

pub returns-clause-wait_irq : goal.returns-clause-wait_irq
returns-clause-wait_irq c most set old new waits =
    (waits.steps, waits.within, waits.all, goes_counted waits.steps old new (waits_goes most set old new waits))
