-- Flat files that were made from disks.
use Rattle.std.specs.Prelude.{◌≡◌, ℕ, Bool, List, length, Option}
use Rattle.laws_commands.specs.Common.{Files, stored, sectors_at, Disk, track_of, Counters, key_of, IsSector, flat_length, Taken, IsImageOf}
use Rattle.track_model.specs.Sectors as track
use Rattle.laws_commands.specs.Copied.{SomeStep, Gave, IsFieldOf, IsSure}
use Rattle.laws_commands.specs.Imported.{sector_bytes}

-- A read of a key in the course gave these bytes. They are those of an intact field of the key, and those of its sector
-- if the reads are sure.
pub record IsAsRead (sure : Type 0) (course : List Taken) (disk : Disk) (c h r : ℕ) (bytes : List ℕ) : Type 0 where
  pub deleted : Bool
  pub step : SomeStep (Gave (key_of c h r) deleted bytes) course
  pub field : IsFieldOf disk (key_of c h r) deleted bytes
  pub sector : sure → track.IsSector (track_of disk c h) (key_of c h r) deleted bytes

-- The disk of one name was stored as a flat file under another name, and no other file changed. At the place of each
-- sector, the file has what the read of its key gave.
pub record StoresExported (name flat : List ℕ) (old : Counters) (told : Option Files) (course : List Taken) (new : Counters) (after : Option Files) : Type 0 where
  pub disk : Disk
  pub image : IsImageOf told name disk
  pub bytes : List ℕ
  pub size : length bytes ≡ flat_length (sectors_at disk.rate)
  pub sectors : (c h r : ℕ) → IsSector (sectors_at disk.rate) c h r
      → IsAsRead (IsSure disk old new) course disk c h r (sector_bytes bytes (sectors_at disk.rate) c h r)
  pub files : after ≡ stored told flat bytes

-- the disk has the sector of a key, with this content and with some mark
abbrev pub HasContent : Disk → ℕ → ℕ → ℕ → List ℕ → Type 0
HasContent disk c h r content = (deleted : Bool) × track.IsSector (track_of disk c h) (key_of c h r) deleted content

-- the contents of all sectors of a disk were stored as a flat file, and no other file changed
pub record StoresFlatOf (disk : Disk) (flat : List ℕ) (told after : Option Files) : Type 0 where
  pub bytes : List ℕ
  pub size : length bytes ≡ flat_length (sectors_at disk.rate)
  pub sectors : (c h r : ℕ) → IsSector (sectors_at disk.rate) c h r
      → HasContent disk c h r (sector_bytes bytes (sectors_at disk.rate) c h r)
  pub files : after ≡ stored told flat bytes
