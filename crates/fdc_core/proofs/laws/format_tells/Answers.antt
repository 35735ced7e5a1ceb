use Rattle.fdc_core.proofs.Tellings.{format_tells}
use Rattle.fdc_core.proofs.laws.format_tells.Goals as goal

pub returns : goal.returns
returns c = format_tells
