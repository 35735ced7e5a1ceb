use Rattle.laws_program.proofs.FormTimes.{machine_sends}
use Rattle.laws_program.proofs.counts.each_form_sends_few.Goals as goal

pub returns : goal.returns
returns c = machine_sends
