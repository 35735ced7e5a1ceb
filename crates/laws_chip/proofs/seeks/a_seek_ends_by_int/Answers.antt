use Rattle.laws_chip.proofs.Common.{Ready}
use Rattle.laws_chip.proofs.HeadsGoing.{ends_interrupt, heads_some, heads_step}
use Rattle.laws_chip.proofs.seeks.a_seek_ends_by_int.Goals as goal

pub returns-clause-steps : goal.returns-clause-steps
returns-clause-steps c = heads_step

pub returns-clause-some : goal.returns-clause-some
returns-clause-some c = λ drive goal chip was. heads_some drive goal Ready chip was

pub returns-clause-interrupt : goal.returns-clause-interrupt
returns-clause-interrupt c = ends_interrupt
