use Rattle.laws_chip.proofs.PulsesGoing.{paced_some}
use Rattle.laws_chip.proofs.SeeksHeld.{paced_steps}
use Rattle.laws_chip.proofs.seeks.a_paced_seek_ends.Goals as goal

pub returns-clause-steps : goal.returns-clause-steps
returns-clause-steps c = paced_steps

pub returns-clause-some : goal.returns-clause-some
returns-clause-some c = paced_some
