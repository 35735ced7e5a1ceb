-- What a drive without faults shows.
use Rattle.drive_model.specs.Drive.{DriveState}
use Rattle.drive_model.specs.Mechanics.{faultless}
use Rattle.drive_model.specs.declared.plain.PlainDrive.{PlainDrive}

-- the state of a drive without faults: its count of faults is 0 for ever
abbrev pub plain_state : PlainDrive → DriveState
plain_state drive = faultless drive.mechanics
