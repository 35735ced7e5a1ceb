use Rattle.laws_chip.proofs.Polled.{reset_awaits, call_awaits, awaits_down}
use Rattle.laws_chip.proofs.resets.a_reset_awaits_its_poll.Goals as goal

pub returns-clause-resets : goal.returns-clause-resets
returns-clause-resets c = reset_awaits

pub returns-clause-stays : goal.returns-clause-stays
returns-clause-stays c = call_awaits

pub returns-clause-down : goal.returns-clause-down
returns-clause-down c = awaits_down
