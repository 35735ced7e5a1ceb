use Rattle.laws_program.proofs.FormTimes.{machine_lasts}
use Rattle.laws_program.proofs.counts.each_form_lasts.Goals as goal

pub returns : goal.returns
returns c = machine_lasts
