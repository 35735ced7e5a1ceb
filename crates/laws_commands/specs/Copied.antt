-- Disks that were copied.
use Rattle.std.specs.Prelude.{◌≡◌, ◌≤◌, ◌⊎◌, ℕ, Bool, false, List, [], ◌∷◌, Option, Some}
use Rattle.laws_commands.specs.Common.{Files, stored, words_at, sectors_at, Chrn, Disk, IsDisk, HasTrack, track_of, file_of, IsAddressAt, content_size, Counters, IsFaultless, IsLaid, bytes_from, Entry, IsOnMap, IsRegularDisk, key_of, Taken, State, IsImageOf}
use Rattle.track_model.specs.Sectors.{IsSector, IsUnder, IsLone}
use Rattle.floppy_jobs.specs.declared.request.Request.TheVariants as request
use Rattle.laws_commands.specs.Done.{DoesAll}
use Rattle.laws_commands.specs.LaidFields.{HasLaidFields}
use Rattle.laws_commands.specs.Requests.{mark_of, marks_read, copy_requests}

-- this holds of some step of a course
abbrev pub SomeStep : (Taken → Type 0) → List Taken → Type 0
SomeStep P [] = ⊥
SomeStep P (taken ∷ later) = P taken ⊎ SomeStep P later

-- this step is a read of a key in bay 0, which gave this mark, and these bytes at its address
pub record Gave (key : Chrn) (deleted : Bool) (bytes : List ℕ) (taken : Taken) : Type 0 where
  pub address : ℕ
  pub asked : taken.asked ≡ request.Read 0 key address
  pub mark : mark_of taken.asked taken.answer ≡ deleted ∷ []
  pub content : bytes ≡ bytes_from taken.after.station.memory address (content_size key.n)

-- these are the mark and the bytes of an intact field of the key, on a track of the key's head
abbrev pub IsFieldOf : Disk → Chrn → Bool → List ℕ → Type 0
IsFieldOf disk key deleted content =
    (b : ℕ) × HasTrack disk b key.h × IsUnder (track_of disk b key.h) key deleted content

-- a sector of a copy, whose address field is at this place
abbrev pub copied_entry : ℕ → ℕ → ℕ → ℕ → Bool → List ℕ → Entry
copied_entry c h r place deleted content = record {
  cylinder = c;
  head = h;
  place = place;
  key = key_of c h r;
  deleted = deleted;
  content = content;
}

-- no address field of the disk has two data marks
abbrev pub AllLone : Disk → Type 0
AllLone disk =
    (c h p : ℕ) (key : Chrn) → HasTrack disk c h → IsAddressAt (track_of disk c h) p key → IsLone (track_of disk c h) p

-- The reads of the disk surely give its sectors. The disk is regular, and the drive of bay 0 had no fault or no address
-- field has two data marks.
abbrev pub IsSure : Disk → Counters → Counters → Type 0
IsSure disk old new = IsRegularDisk disk × (IsFaultless 0 old new ⊎ AllLone disk)

-- The copy has the sector of a key as a read of the key in the course gave it. This is always an intact field of the
-- key on the source. It is the source's sector if the reads are sure.
abbrev pub HasAsGiven : Type 0 → List Taken → Disk → Disk → ℕ → ℕ → ℕ → Type 0
HasAsGiven sure course source copied c h r =
    (place : ℕ) × (deleted : Bool) × (content : List ℕ) × SomeStep (Gave (key_of c h r) deleted content) course
    × IsOnMap copied (copied_entry c h r place deleted content)
    × (sure → IsSector (track_of source c h) (key_of c h r) deleted content)
    × IsFieldOf source (key_of c h r) deleted content

-- The copy of a disk was stored under this name, and no other file changed. The copy is a regular disk of the same
-- cylinders and rate, with two heads. It has each standard key of the other disk, with the mark and the content that
-- the read gave. Its tracks that the other disk has too are Laid, and so is each track with an address field.
pub record StoresCopy (disk : Disk) (to : List ℕ) (old : Counters) (told : Option Files) (course : List Taken) (new : Counters) (after : Option Files) : Type 0 where
  pub copied : Disk
  pub valid : IsDisk copied
  pub protected : copied.protected ≡ false
  pub cylinders : copied.cylinders ≡ disk.cylinders
  pub heads : copied.heads ≡ 2
  pub rate : copied.rate ≡ disk.rate
  pub words_per_track : copied.words_per_track ≡ words_at disk.rate
  pub regular : IsRegularDisk copied
  pub laid : (c h : ℕ) → HasTrack disk c h → IsLaid (track_of copied c h)
  pub laid_fields : HasLaidFields copied
  pub sectors : (c h r : ℕ) → HasTrack disk c h → 1 ≤ r → r ≤ sectors_at disk.rate
      → HasAsGiven (IsSure disk old new) course disk copied c h r
  pub files : after ≡ stored told to (file_of copied)

-- The command that copies was run on the disk of a name. Its reads gave the marks of this course, and no answer was a
-- refusal.
pub record CopiesDisk (from to : List ℕ) (disk : Disk) (old : State) (files : Files) (course : List Taken) (new : State) (after : Option Files) : Type 0 where
  pub image : IsImageOf (Some files) from disk
  pub all : DoesAll (copy_requests from to disk (marks_read course)) old (Some files) course new after
