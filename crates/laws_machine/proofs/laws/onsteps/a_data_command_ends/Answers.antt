use Rattle.laws_machine.proofs.OnSteps.Moves.{data_ends, data_ends_in_time, data_over, ending}
use Rattle.laws_machine.proofs.laws.onsteps.a_data_command_ends.Goals as goal

pub returns-clause-steps : goal.returns-clause-steps
returns-clause-steps c = ending

pub returns-clause-left : goal.returns-clause-left
returns-clause-left c = data_ends

pub returns-clause-most : goal.returns-clause-most
returns-clause-most c = data_ends_in_time

pub returns-clause-meets : goal.returns-clause-meets
returns-clause-meets c = data_over
