use Rattle.fdc_core.proofs.Meanings.{id_tells}
use Rattle.fdc_core.proofs.laws.read_id_tells.Goals as goal

pub returns : goal.returns
returns c = id_tells
