use Rattle.laws_chip.proofs.Started.{sectors_few, sectors_next, steps_both, steps_run}
use Rattle.laws_chip.proofs.several_ends.sectors_and_steps_are_counted.Goals as goal

pub returns-clause-most : goal.returns-clause-most
returns-clause-most c = sectors_few

pub returns-clause-next : goal.returns-clause-next
returns-clause-next c = sectors_next

pub returns-clause-run : goal.returns-clause-run
returns-clause-run c = steps_run

pub returns-clause-both : goal.returns-clause-both
returns-clause-both c = steps_both
