use Rattle.laws_chip.proofs.Edging.{begins_down, results_down, sense_down}
use Rattle.laws_chip.proofs.edges.a_taken_interrupt_is_seen.Goals as goal

pub returns-clause-results : goal.returns-clause-results
returns-clause-results c = results_down

pub returns-clause-sense : goal.returns-clause-sense
returns-clause-sense c = sense_down

pub returns-clause-begins : goal.returns-clause-begins
returns-clause-begins c = begins_down
