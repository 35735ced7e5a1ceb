use Rattle.laws_machine.proofs.OnLead.Laying.{begins, inputs_keep, outputs_keep}
use Rattle.laws_machine.proofs.OnLead.Spinning.{id_found, read_found}
use Rattle.laws_machine.proofs.OnLead.Written.{track_found, window_found}
use Rattle.laws_machine.proofs.laws.onlead.a_command_begun_before_speed.Goals as goal

pub returns-clause-begins : goal.returns-clause-begins
returns-clause-begins c = begins

pub returns-clause-reads : goal.returns-clause-reads
returns-clause-reads c = inputs_keep

pub returns-clause-found : goal.returns-clause-found
returns-clause-found c = read_found

pub returns-clause-identified : goal.returns-clause-identified
returns-clause-identified c = id_found

pub returns-clause-written : goal.returns-clause-written
returns-clause-written c = window_found

pub returns-clause-laid : goal.returns-clause-laid
returns-clause-laid c = track_found

pub returns-clause-writes : goal.returns-clause-writes
returns-clause-writes c = outputs_keep
