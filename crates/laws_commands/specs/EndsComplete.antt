-- When nothing can go wrong with a command on whole disks, and how the command ends then.
use Rattle.std.specs.Prelude.{◌≡◌, ◌↔◌, ℕ, Bool, false, List, [], All, Contains, Option, Some, IfSome}
use Rattle.laws_commands.specs.Common.{Files, file_at, stored, Chrn, Rate, Status, Disk, IsDisk, track_of, file_of, Entry, IsOnMap, IsRegularDisk, IsFresh, IsImageOf, World, log_text}
use Rattle.flop_base.specs.declared.answers.Status.TheVariants as status
use Rattle.track_model.specs.Sectors.{IsSector}
use Rattle.sector_model.specs.Ties.{HasNothingLeft}
use Rattle.laws_commands.specs.LaidFields.{HasLaidFields}
use Rattle.laws_commands.specs.Verified.{IsStandardKey}

-- The session begins with a fresh station, before any request, and nothing that could go wrong is left there.
pub record BeginsSound (world : World) : Type 0 where
  pub fresh : IsFresh world.state.station
  pub sound : HasNothingLeft world.state.station.counters

-- The command went to its end, and this holds. Otherwise the outside failed: the shelf, the sink, or the source of
-- memory.
abbrev pub EndsWellOrOutside : Type 0 → Status → Type 0
EndsWellOrOutside Holds status.AllOk = Holds
EndsWellOrOutside Holds status.FileFault = Unit {0}
EndsWellOrOutside Holds status.SinkFault = Unit {0}
EndsWellOrOutside Holds status.NoMemory = Unit {0}
EndsWellOrOutside Holds _ = ⊥

-- a key is on the map of a disk
abbrev pub HasKey : Disk → Chrn → Type 0
HasKey disk key = (entry : Entry) × IsOnMap disk entry × (entry.key ≡ key)

-- the disk is regular, and each of its standard keys is on its map
pub record IsReadable (disk : Disk) : Type 0 where
  pub regular : IsRegularDisk disk
  pub sectors : (key : Chrn) → IsStandardKey disk key → HasKey disk key

-- two disks have the same sector under a key: the same mark and the same content
abbrev pub HaveSameSector : Disk → Disk → Chrn → Type 0
HaveSameSector disk copied key =
    (deleted : Bool) × (content : List ℕ) × IsSector (track_of disk key.c key.h) key deleted content
    × IsSector (track_of copied key.c key.h) key deleted content

-- A disk was stored under a name, and no other file changed. It is regular, unprotected and with Laid fields. It has
-- the cylinders and the rate of this disk, two heads, and each of this disk's standard sectors.
pub record StoresSameSectors (disk : Disk) (to : List ℕ) (told after : Option Files) : Type 0 where
  pub copied : Disk
  pub valid : IsDisk copied
  pub protected : copied.protected ≡ false
  pub regular : IsRegularDisk copied
  pub laid : HasLaidFields copied
  pub cylinders : copied.cylinders ≡ disk.cylinders
  pub heads : copied.heads ≡ 2
  pub rate : copied.rate ≡ disk.rate
  pub sectors : (key : Chrn) → IsStandardKey disk key → HaveSameSector disk copied key
  pub files : after ≡ stored told to (file_of copied)

-- Such a disk was stored under one name, and then an empty log under the other. Both files are there under their names.
pub record StoresSameAndLog (disk : Disk) (to log : List ℕ) (told after : Option Files) : Type 0 where
  pub between : Option Files
  pub disk_stored : StoresSameSectors disk to told between
  pub log_stored : after ≡ stored between log (log_text [])
  pub disk_there : IfSome after (λ files. file_at files to ≡ Some (file_of disk_stored.copied))
  pub image : IsImageOf after to disk_stored.copied
  pub log_there : IfSome after (λ files. file_at files log ≡ Some (log_text []))

-- Sectors of these keys can be written to a disk at this rate. The disk is regular and not protected, has each of the
-- keys on its map, and has its address fields on Laid tracks.
pub record TakesKeys (at : Rate) (keys : List Chrn) (target : Disk) : Type 0 where
  pub regular : IsRegularDisk target
  pub protected : target.protected ≡ false
  pub rate : target.rate ≡ at
  pub sectors : All (HasKey target) keys
  pub laid : HasLaidFields target

-- A disk was stored under one name, and then an empty log under the other. Both files are there under their names. The
-- disk has the cylinders and the rate of `target`, is unprotected, and has Laid fields. It has the sectors of these
-- keys as the first disk has them, and all other sectors as `target` has them.
pub record StoresRestAndLog (disk target : Disk) (keys : List Chrn) (to log : List ℕ) (told after : Option Files) : Type 0 where
  pub saved : Disk
  pub protected : saved.protected ≡ false
  pub valid : IsDisk target → IsDisk saved
  pub regular : IsRegularDisk saved
  pub laid : HasLaidFields saved
  pub cylinders : saved.cylinders ≡ target.cylinders
  pub rate : saved.rate ≡ target.rate
  pub sectors : All (HaveSameSector disk saved) keys
  pub others : (entry : Entry) → (Contains keys entry.key → ⊥) → IsOnMap target entry ↔ IsOnMap saved entry
  pub files : after ≡ stored (stored told to (file_of saved)) log (log_text [])
  pub disk_there : IfSome after (λ files. file_at files to ≡ Some (file_of saved))
  pub image : IsDisk saved → IsImageOf after to saved
  pub log_there : IfSome after (λ files. file_at files log ≡ Some (log_text []))
