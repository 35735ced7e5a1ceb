use Rattle.laws_program.proofs.StepCauses.{each_sends}
use Rattle.laws_program.proofs.steps.steps_send_few_commands.Goals as goal

pub returns : goal.returns
returns c = each_sends
