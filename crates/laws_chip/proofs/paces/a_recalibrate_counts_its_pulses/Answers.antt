use Rattle.std.proofs.Common.{refl}
use Rattle.laws_chip.proofs.Paced.{one_fewer}
use Rattle.laws_chip.proofs.paces.a_recalibrate_counts_its_pulses.Goals as goal

pub returns-clause-all : goal.returns-clause-all
returns-clause-all c = λ unit cylinder. refl

pub returns-clause-fewer : goal.returns-clause-fewer
returns-clause-fewer c = one_fewer
