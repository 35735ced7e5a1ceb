use Rattle.laws_chip.proofs.NextStages.{call_serving}
use Rattle.laws_chip.proofs.PassedOn.{step_goes_on}
use Rattle.laws_chip.proofs.transfers.a_served_chip_goes_on.Goals as goal

pub returns-clause-steps : goal.returns-clause-steps
returns-clause-steps c = step_goes_on

pub returns-clause-calls : goal.returns-clause-calls
returns-clause-calls c = call_serving
