-- Disks that a rescue may go on with.
use Rattle.std.specs.Prelude.{◌≡◌, ℕ, false, List, Option}
use Rattle.laws_commands.specs.Common.{Files, Chrn, Disk, IsDisk, IsRegularDisk, IsImageOf}
use Rattle.laws_commands.specs.EndsComplete.{HasKey}
use Rattle.laws_commands.specs.LaidFields.{HasLaidFields}
use Rattle.laws_commands.specs.Verified.{IsStandardKey}

-- The name has the image of a disk that a rescue may go on with. It is a regular disk with its fields in range, isn't
-- protected, and has each of its address fields on a Laid track. It has the rate and each of the standard keys of
-- another disk.
pub record HoldsTarget (name : List ℕ) (keyed disk : Disk) (files : Option Files) : Type 0 where
  pub valid : IsDisk disk
  pub image : IsImageOf files name disk
  pub regular : IsRegularDisk disk
  pub protected : disk.protected ≡ false
  pub rate : disk.rate ≡ keyed.rate
  pub laid : HasLaidFields disk
  pub sectors : (key : Chrn) → IsStandardKey keyed key → HasKey disk key
