use Rattle.laws_machine.proofs.OnWrites.Gates.{step_gates}
use Rattle.laws_machine.proofs.laws.onwrites.guarding.device_steps_gate_writes.Goals as goal

pub returns-clause-step : goal.returns-clause-step
returns-clause-step c = step_gates
