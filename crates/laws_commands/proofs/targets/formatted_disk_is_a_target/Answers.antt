use Rattle.laws_commands.proofs.RescueTargets.{formatted_target}
use Rattle.laws_commands.proofs.targets.formatted_disk_is_a_target.Goals as goal

pub returns : goal.returns
returns c = formatted_target c.args._rate c.args._name.now c.args._cylinders
