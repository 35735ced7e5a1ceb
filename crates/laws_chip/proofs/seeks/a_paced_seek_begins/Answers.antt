use Rattle.laws_chip.proofs.PulsesGoing.{few_outward, few_pulses}
use Rattle.laws_chip.proofs.SeeksBegun.{paced_comes}
use Rattle.laws_chip.proofs.SeeksHeld.{call_paced}
use Rattle.laws_chip.proofs.seeks.a_paced_seek_begins.Goals as goal

pub returns-clause-comes : goal.returns-clause-comes
returns-clause-comes c = paced_comes

pub returns-clause-few : goal.returns-clause-few
returns-clause-few c = few_pulses

pub returns-clause-recalibrates : goal.returns-clause-recalibrates
returns-clause-recalibrates c = few_outward

pub returns-clause-stays : goal.returns-clause-stays
returns-clause-stays c = call_paced
