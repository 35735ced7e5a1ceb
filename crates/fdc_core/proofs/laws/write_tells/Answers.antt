use Rattle.fdc_core.proofs.Tellings.{write_tells}
use Rattle.fdc_core.proofs.laws.write_tells.Goals as goal

pub returns : goal.returns
returns c = write_tells
