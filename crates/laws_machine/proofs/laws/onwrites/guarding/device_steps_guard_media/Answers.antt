use Rattle.laws_machine.proofs.OnWrites.Guards.{step_guards}
use Rattle.laws_machine.proofs.laws.onwrites.guarding.device_steps_guard_media.Goals as goal

pub returns-clause-step : goal.returns-clause-step
returns-clause-step c = step_guards
