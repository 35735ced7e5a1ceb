use Rattle.std.proofs.Common.{Some, ap}
use Rattle.c_bay_drive.proofs.Shown.{is_up}
use Rattle.c_bay_drive.proofs.bay.driving.with_change.Goals as goal

pub returns-in-Some : goal.returns-in-Some
returns-in-Some c = rw c.in-Some.is (ap Some (is_up c.in-Some.pulled _))
