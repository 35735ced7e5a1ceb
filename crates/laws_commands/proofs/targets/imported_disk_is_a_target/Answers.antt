use Rattle.laws_commands.proofs.RescueTargets.{imported_target}
use Rattle.laws_commands.proofs.targets.imported_disk_is_a_target.Goals as goal

pub returns : goal.returns
returns c bytes at told after stores = imported_target bytes c.args._name.now at told after stores
