use Rattle.std.proofs.Common.{ap, ◌∙◌}
use Rattle.drive_model.specs.Drive.{passed}
use Rattle.drive_model.proofs.drive.Drive.idle.Goals as goal

pub returns : goal.returns
returns g c = c.pass.ensures.becomes ∙ ap passed c.gate.ensures.becomes
