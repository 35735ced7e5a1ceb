use Rattle.laws_machine.proofs.OnAwaits.Accesses.{begins_awaited, input_awaits}
use Rattle.laws_machine.proofs.laws.onawaits.a_data_command_is_awaited.Goals as goal

pub returns-clause-begins : goal.returns-clause-begins
returns-clause-begins c = begins_awaited

pub returns-clause-read : goal.returns-clause-read
returns-clause-read c = input_awaits
