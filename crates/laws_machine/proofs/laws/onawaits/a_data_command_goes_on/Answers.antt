use Rattle.laws_machine.proofs.OnAwaits.Accesses.{goes_begins, goes_status, goes_stray}
use Rattle.laws_machine.proofs.laws.onawaits.a_data_command_goes_on.Goals as goal

pub returns-clause-begins : goal.returns-clause-begins
returns-clause-begins c = goes_begins

pub returns-clause-status : goal.returns-clause-status
returns-clause-status c = goes_status

pub returns-clause-strays : goal.returns-clause-strays
returns-clause-strays c = goes_stray
