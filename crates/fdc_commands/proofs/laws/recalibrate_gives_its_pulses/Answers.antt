use Rattle.fdc_commands.proofs.SeekRuns.{recalibrate_law}
use Rattle.fdc_commands.proofs.laws.recalibrate_gives_its_pulses.Goals as goal

pub returns : goal.returns
returns c = recalibrate_law
