-- Disks that were made from flat files.
use Rattle.std.specs.Prelude.{◌≡◌, ℕ, false, List, Option}
use Rattle.laws_commands.specs.Common.{Files, stored, words_at, sectors_at, Rate, Disk, IsDisk, file_of, bytes_from, IsOnMap, IsRegularDisk, IsSector, sector_place, IsFlatFile}
use Rattle.laws_commands.specs.Copied.{copied_entry}
use Rattle.laws_commands.specs.LaidFields.{HasLaidFields}

-- the bytes of a sector in a flat file with this many sectors on each track
abbrev pub sector_bytes : List ℕ → ℕ → ℕ → ℕ → ℕ → List ℕ
sector_bytes bytes sectors c h r = bytes_from bytes (sector_place sectors c h r) 512

-- a disk has the sector of a key, not deleted, with the sector's bytes in a flat file
abbrev pub HasFlatSector : List ℕ → ℕ → Disk → ℕ → ℕ → ℕ → Type 0
HasFlatSector bytes sectors disk c h r =
    (place : ℕ) × IsOnMap disk (copied_entry c h r place false (sector_bytes bytes sectors c h r))

-- A disk of these bytes was stored under a name, and no other file changed. It is a regular disk of this rate, of 80
-- cylinders and two heads, with Laid fields. It has each sector of the flat file.
pub record StoresDisk (bytes name : List ℕ) (at : Rate) (told after : Option Files) : Type 0 where
  pub disk : Disk
  pub valid : IsDisk disk
  pub protected : disk.protected ≡ false
  pub cylinders : disk.cylinders ≡ 80
  pub heads : disk.heads ≡ 2
  pub rate : disk.rate ≡ at
  pub words_per_track : disk.words_per_track ≡ words_at at
  pub regular : IsRegularDisk disk
  pub laid : HasLaidFields disk
  pub sectors : (c h r : ℕ) → IsSector (sectors_at at) c h r → HasFlatSector bytes (sectors_at at) disk c h r
  pub files : after ≡ stored told name (file_of disk)

-- the disk of the flat file under one name was stored under another name
abbrev pub StoresImported : List ℕ → List ℕ → Option Files → Option Files → Type 0
StoresImported flat name told after =
    (bytes : List ℕ) × (at : Rate) × IsFlatFile told flat bytes at × StoresDisk bytes name at told after
