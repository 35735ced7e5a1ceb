use Rattle.drive_model.specs.ScriptDrive.{script_state}
use Rattle.c_bay_drive.proofs.Shown.{told_ahead, none_ahead}
use Rattle.c_bay_drive.proofs.bay.driving.BayDriveDrive.ahead.Goals as goal

pub returns-in-None-clause-ahead : goal.returns-in-None-clause-ahead
returns-in-None-clause-ahead c =
    rw c.in-None.is (told_ahead c.args.self.now.replaced c.args.self.now.tracks c.args.head c.ahead.result.now (script_state c.args.self.now.inside) c.ahead.ensures.ahead)

pub returns-in-Some-clause-ahead : goal.returns-in-Some-clause-ahead
returns-in-Some-clause-ahead c = none_ahead c.args.head _
