-- What the subcommands (forms) of the program store, by the files before and after.
use Rattle.std.specs.Prelude.{◌≡◌, ◌⊎◌, ℕ, Bool, false, List, length, Option, Some, IfSome}
use Rattle.laws_program.specs.Common.{Files, file_at, stored, words_at, sectors_at, Chrn, Disk, IsDisk, HasTrack, track_of, file_of, IsRegularDisk, key_of, Board, Look, AreFailing, shape_of, log_text, LogLine, IsLogFound, HasLaidFields, failing_lines, IsStandardKey, AllLone, IsFieldOf, HaveSameSector, sector_bytes, HasContent}
use Rattle.track_model.specs.Laid.{IsLaid}
use Rattle.track_model.specs.Sectors.{IsSector as IsSectorOf}
use Rattle.sector_map.specs.Flat.{IsSector, flat_length}
use Rattle.disk_commands.specs.Rescue.{asked_keys}
use Rattle.laws_program.specs.Disturbed.{HadNoFault}

-- what is read of a disk in bay 0 is its sectors: the disk is regular, and the drive had no fault or no field has two
-- data marks
pub record IsReadSure (disk : Disk) (old new : Board) : Type 0 where
  pub regular : IsRegularDisk disk
  pub drive : HadNoFault 0 old new ⊎ AllLone disk

-- a copied disk has a sector of the key, with the mark and the content of an intact field of the key on the disk that
-- was read
abbrev pub HasSomeField : Disk → Disk → Chrn → Type 0
HasSomeField disk copied key =
    (deleted : Bool) × (content : List ℕ) × IsFieldOf disk key deleted content × IsSectorOf (track_of copied key.c key.h) key deleted content

-- a copy of a disk was stored under a name, and no other file changed. The copy is a regular disk of the same cylinders
-- and rate, with two heads. For each standard sector ID it has a sector with the mark and the content of an intact
-- field of this ID on the disk that was read. These are the sectors of that disk, if what is read of it is its sectors.
-- The tracks that the read disk has are Laid on the copy, and so is each track with an address field
pub record StoresCopyAsRead (sure : Type 0) (disk : Disk) (to : List ℕ) (told after : Option Files) : Type 0 where
  pub copied : Disk
  pub valid : IsDisk copied
  pub protected : copied.protected ≡ false
  pub cylinders : copied.cylinders ≡ disk.cylinders
  pub heads : copied.heads ≡ 2
  pub rate : copied.rate ≡ disk.rate
  pub words_per_track : copied.words_per_track ≡ words_at disk.rate
  pub regular : IsRegularDisk copied
  pub laid : (c h : ℕ) → HasTrack disk c h → IsLaid (track_of copied c h)
  pub laid_fields : HasLaidFields copied
  pub fields : (key : Chrn) → IsStandardKey disk key → HasSomeField disk copied key
  pub sectors : sure → (key : Chrn) → IsStandardKey disk key → HaveSameSector disk copied key
  pub files : after ≡ stored told to (file_of copied)

-- a flat file was stored under a name, and no other file changed. At the place of each sector of a disk it has the
-- bytes of an intact field of its sector ID, with some mark. These are the bytes of the sector, if what is read of the
-- disk is its sectors
pub record StoresFlatAsRead (sure : Type 0) (disk : Disk) (flat : List ℕ) (told after : Option Files) : Type 0 where
  pub bytes : List ℕ
  pub size : length bytes ≡ flat_length (sectors_at disk.rate)
  pub fields : (c h r : ℕ) → IsSector (sectors_at disk.rate) c h r
      → (deleted : Bool) × IsFieldOf disk (key_of c h r) deleted (sector_bytes bytes (sectors_at disk.rate) c h r)
  pub sectors : sure → (c h r : ℕ) → IsSector (sectors_at disk.rate) c h r
      → HasContent disk c h r (sector_bytes bytes (sectors_at disk.rate) c h r)
  pub files : after ≡ stored told flat bytes

-- the file under the log's name is the log of those sectors that were asked for and aren't found on a disk, in their
-- order, each with the code of its look
pub record StoresLogOf (disk : Disk) (log : List ℕ) (files : Files) (after : Option Files) : Type 0 where
  pub found : Option (List LogLine)
  pub there : IsLogFound (Some files) log (sectors_at disk.rate) found
  pub stores : (failed : List (Chrn × Look)) → AreFailing disk (asked_keys (shape_of disk) found) failed
      → IfSome after (λ files. file_at files log ≡ Some (log_text (failing_lines failed)))
