use Rattle.fdc_commands.proofs.SeekRuns.{seek_law}
use Rattle.fdc_commands.proofs.laws.seek_gives_its_pulses.Goals as goal

pub returns : goal.returns
returns c = seek_law
