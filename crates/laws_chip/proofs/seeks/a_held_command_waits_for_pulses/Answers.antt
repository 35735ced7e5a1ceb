use Rattle.laws_chip.proofs.SeeksHeld.{comes_paced, paced_held}
use Rattle.laws_chip.proofs.seeks.a_held_command_waits_for_pulses.Goals as goal

pub returns-clause-comes : goal.returns-clause-comes
returns-clause-comes c = comes_paced

pub returns-clause-steps : goal.returns-clause-steps
returns-clause-steps c = paced_held
