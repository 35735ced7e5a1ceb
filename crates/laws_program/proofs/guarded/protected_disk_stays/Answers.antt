use Rattle.laws_program.proofs.Protected.{play_stays}
use Rattle.laws_program.proofs.guarded.protected_disk_stays.Goals as goal

pub returns : goal.returns
returns c = play_stays c.args._name.now c.args._job.now
