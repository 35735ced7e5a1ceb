use Rattle.laws_chip.proofs.Lasted.{command_told, command_within}
use Rattle.laws_chip.proofs.several_ends.a_command_ends.Goals as goal

pub returns-clause-within : goal.returns-clause-within
returns-clause-within c = command_within

pub returns-clause-ends : goal.returns-clause-ends
returns-clause-ends c = command_told
