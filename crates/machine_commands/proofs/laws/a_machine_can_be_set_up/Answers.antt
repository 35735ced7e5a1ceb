use Rattle.machine_commands.proofs.Landing.{can_set_up, used_can_set_up}
use Rattle.machine_commands.proofs.laws.a_machine_can_be_set_up.Goals as goal

pub returns-clause-shown : goal.returns-clause-shown
returns-clause-shown c = can_set_up

pub returns-clause-used : goal.returns-clause-used
returns-clause-used c = used_can_set_up
