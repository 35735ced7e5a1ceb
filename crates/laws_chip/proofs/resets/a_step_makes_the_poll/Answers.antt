use Rattle.laws_chip.proofs.PollPassed.{call_makes, step_makes}
use Rattle.laws_chip.proofs.resets.a_step_makes_the_poll.Goals as goal

pub returns-clause-made : goal.returns-clause-made
returns-clause-made c = step_makes

pub returns-clause-stays : goal.returns-clause-stays
returns-clause-stays c = call_makes
