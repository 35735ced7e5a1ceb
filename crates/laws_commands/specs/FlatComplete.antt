-- Disks that have each sector of a flat file.
use Rattle.std.specs.Prelude.{◌≡◌}
use Rattle.laws_commands.specs.Common.{Disk}
use Rattle.laws_commands.specs.EndsComplete.{IsReadable}

-- a regular disk of 80 cylinders and two heads that has each of its standard keys
pub record IsWholeDisk (disk : Disk) : Type 0 where
  pub readable : IsReadable disk
  pub cylinders : disk.cylinders ≡ 80
  pub heads : disk.heads ≡ 2
