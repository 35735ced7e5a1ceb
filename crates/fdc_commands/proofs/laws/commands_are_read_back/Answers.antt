use Rattle.fdc_commands.proofs.Spellings.{read_back}
use Rattle.fdc_commands.proofs.laws.commands_are_read_back.Goals as goal

pub returns : goal.returns
returns c = read_back
