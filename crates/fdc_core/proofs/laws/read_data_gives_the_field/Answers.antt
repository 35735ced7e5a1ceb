use Rattle.fdc_core.proofs.Meanings.{read_gives}
use Rattle.fdc_core.proofs.laws.read_data_gives_the_field.Goals as goal

pub returns : goal.returns
returns c = read_gives
