use Rattle.laws_chip.proofs.Shown.{asks_not, ends_through, interrupts_not, interrupts_told, shows_busy, shows_results, tells_results}
use Rattle.laws_chip.proofs.several_ends.results_are_told.Goals as goal

pub returns-clause-busy : goal.returns-clause-busy
returns-clause-busy c = shows_busy

pub returns-clause-silent : goal.returns-clause-silent
returns-clause-silent c = interrupts_not

pub returns-clause-status : goal.returns-clause-status
returns-clause-status c = shows_results

pub returns-clause-interrupt : goal.returns-clause-interrupt
returns-clause-interrupt c = interrupts_told

pub returns-clause-request : goal.returns-clause-request
returns-clause-request c = asks_not

pub returns-clause-results : goal.returns-clause-results
returns-clause-results c = tells_results

pub returns-clause-taken : goal.returns-clause-taken
returns-clause-taken c = ends_through
