use Rattle.fdc_core.proofs.Given.{gives_next}
use Rattle.fdc_core.proofs.laws.results_are_given_in_order.Goals as goal

pub returns : goal.returns
returns c = gives_next
