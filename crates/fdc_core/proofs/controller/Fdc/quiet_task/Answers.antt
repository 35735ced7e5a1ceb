use Rattle.fdc_core.proofs.Longest.{idle_longest}
use Rattle.fdc_core.proofs.controller.Fdc.quiet_task.Goals as goal

pub returns-in_default-clause-longest : goal.returns-in_default-clause-longest
returns-in_default-clause-longest g c =
    idle_longest c.args.most 0 c.args.self.now (g.D.Drive.state c.args.drive.now) c.in_default.not-Execute
