use Rattle.laws_program.proofs.FormTimes.{machine_uses}
use Rattle.laws_program.proofs.counts.each_form_makes_few_port_accesses.Goals as goal

pub returns : goal.returns
returns c = machine_uses
