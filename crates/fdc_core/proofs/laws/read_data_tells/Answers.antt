use Rattle.fdc_core.proofs.Meanings.{read_tells}
use Rattle.fdc_core.proofs.laws.read_data_tells.Goals as goal

pub returns : goal.returns
returns c = read_tells
