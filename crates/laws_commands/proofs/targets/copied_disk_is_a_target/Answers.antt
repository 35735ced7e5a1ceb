use Rattle.laws_commands.proofs.RescueTargets.{copied_target, same_target}
use Rattle.laws_commands.proofs.targets.copied_disk_is_a_target.Goals as goal

pub returns-clause-given : goal.returns-clause-given
returns-clause-given c disk old new told after course stores = copied_target c.args._to.now disk old told course new after stores

pub returns-clause-same : goal.returns-clause-same
returns-clause-same c = same_target c.args._from.now c.args._to.now
