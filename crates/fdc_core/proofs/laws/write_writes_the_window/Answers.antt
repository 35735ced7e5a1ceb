use Rattle.fdc_core.proofs.Tellings.{writes_window}
use Rattle.fdc_core.proofs.laws.write_writes_the_window.Goals as goal

pub returns : goal.returns
returns c = writes_window
