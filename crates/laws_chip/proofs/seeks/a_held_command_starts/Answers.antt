use Rattle.laws_chip.proofs.Common.{Held}
use Rattle.laws_chip.proofs.HeadsGoing.{heads_some}
use Rattle.laws_chip.proofs.SeeksHeld.{comes_held, held_step}
use Rattle.laws_chip.proofs.seeks.a_held_command_starts.Goals as goal

pub returns-clause-comes : goal.returns-clause-comes
returns-clause-comes c = comes_held

pub returns-clause-steps : goal.returns-clause-steps
returns-clause-steps c = held_step

pub returns-clause-some : goal.returns-clause-some
returns-clause-some c = λ drive goal chip was. heads_some drive goal Held chip was
