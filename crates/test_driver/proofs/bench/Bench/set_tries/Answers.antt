use Rattle.test_driver.proofs.Common.{rig_shown}
use Rattle.test_driver.proofs.bench.Bench.set_tries.Goals as goal

pub returns : goal.returns
returns c = c.set_tries.ensures.attached (rig_shown c.args.self.now) c.requires.attached
