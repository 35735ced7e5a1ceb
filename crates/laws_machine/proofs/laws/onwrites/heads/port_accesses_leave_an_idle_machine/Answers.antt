use Rattle.laws_machine.proofs.OnWrites.IdlePorts.{inputs_idle, inputs_leave, inputs_still, outputs_idle}
use Rattle.laws_machine.proofs.laws.onwrites.heads.port_accesses_leave_an_idle_machine.Goals as goal

pub returns-clause-still : goal.returns-clause-still
returns-clause-still c = inputs_still

pub returns-clause-others : goal.returns-clause-others
returns-clause-others c = inputs_leave

pub returns-clause-inputs : goal.returns-clause-inputs
returns-clause-inputs c = inputs_idle

pub returns-clause-outputs : goal.returns-clause-outputs
returns-clause-outputs c = outputs_idle
