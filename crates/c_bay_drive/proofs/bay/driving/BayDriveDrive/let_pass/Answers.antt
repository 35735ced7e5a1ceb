use Rattle.drive_model.specs.ScriptDrive.{script_state}
use Rattle.c_bay_drive.proofs.Shown.{told_passes}
use Rattle.c_bay_drive.proofs.bay.driving.BayDriveDrive.let_pass.Goals as goal

pub returns-clause-passes : goal.returns-clause-passes
returns-clause-passes c =
    told_passes c.args.self.now.pulled c.args.self.now.replaced c.args.self.now.tracks c.args.count (script_state c.args.self.now.inside)
    (script_state c.let_pass.new.self) c.let_pass.ensures.passes
