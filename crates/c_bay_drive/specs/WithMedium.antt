-- A drive that has another medium in, and is otherwise as it was.
use Rattle.std.specs.Prelude.{◌≡◌, Option}
use Rattle.drive_model.specs.ScriptDrive.{script_of, script_state}
use Rattle.drive_model.specs.declared.script.ScriptDrive.{ScriptDrive}
use Rattle.raw_image.specs.Disk.{Disk}
use Rattle.c_bay_drive.specs.declared.bay.BayDrive.{BayDrive}

-- the drive within, which consists of its state and its planned faults
pub record ScriptWithMedium (medium : Option Disk) (old new : ScriptDrive) : Type 0 where
  pub state : script_state new ≡ record (script_state old) { medium = medium }
  pub script : script_of new ≡ script_of old

-- the drive of a bay, whose cable stays as it is
pub record BayWithMedium (medium : Option Disk) (old new : BayDrive) : Type 0 where
  pub inside : ScriptWithMedium medium old.inside new.inside
  pub replaced : new.replaced ≡ old.replaced
  pub tracks : new.tracks ≡ old.tracks
  pub pulled : new.pulled ≡ old.pulled
