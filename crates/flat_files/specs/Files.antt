-- The flat file of a medium.
use Rattle.std.specs.Prelude.{◌≡◌, ℕ, zero, suc, ◌+◌, ◌*◌, ◌<◌, ◌≤◌, ◌==◌, ◌&&◌, nat_le, Bool, true, false, not, List, [], ◌++◌, length, find, Option, Some, None, IsSome, Result, Ok, Err}
use Rattle.flat_files.specs.Common.{list_any, Rate, R500, R250, Disk, HasImage, ImdImage, Absent, Good, Deleted, Bad, BadDeleted, ImdSector, ImdTrack}
use Rattle.std.specs.Option.{option_map_or}
use Rattle.std.specs.Global.{Vec}
use Rattle.imagedisk.specs.Taken.{TakesDisk}
use Rattle.imagedisk.specs.declared.error.ImdError.TheVariants.{Unfit}
use Rattle.imagedisk.specs.declared.sector.ImdKind.{ImdKind}
use Rattle.flat_files.specs.Forms.{IsForm, cylinder_of, head_of, tracks_of}
use Rattle.flat_files.specs.declared.fault.FlatFault.{FlatFault}
use Rattle.flat_files.specs.declared.fault.FlatFault.TheVariants as fault
use Rattle.flat_files.specs.declared.file_fault.FileFault.{FileFault}
use Rattle.flat_files.specs.declared.file_fault.FileFault.TheVariants.{NoForm, Flat}
use Rattle.flat_files.specs.declared.form.FlatForm.{FlatForm}

-- the disk has this geometry
pub record IsOfForm (form : FlatForm) (disk : Disk) : Type 0 where
  pub cylinders : disk.cylinders ≡ form.cylinders
  pub heads : disk.heads ≡ form.heads
  pub rate : disk.rate ≡ form.rate

-- a track has 18 sectors at 500 kbit/s and 9 at 250 kbit/s
abbrev pub sectors_at_rate : Rate → ℕ
sectors_at_rate R500 = 18
sectors_at_rate R250 = 9

-- the geometry of 1.44 MB or 720 KB, by the rate: 80 cylinders of 2 heads, and sectors of 512 bytes
abbrev pub standard_form : Rate → FlatForm
standard_form rate = record { cylinders = 80; heads = 2; sectors = sectors_at_rate rate; n = 2; rate = rate }

-- whether the data are there and whole, and not marked as deleted
abbrev pub is_whole : ImdKind → Bool
is_whole Absent = false
is_whole Good = true
is_whole Deleted = false
is_whole Bad = false
is_whole BadDeleted = false

-- whether the data are marked as deleted, be they whole or damaged
abbrev pub is_deleted : ImdKind → Bool
is_deleted Absent = false
is_deleted Good = false
is_deleted Deleted = true
is_deleted Bad = false
is_deleted BadDeleted = true

-- whether a sector is whole, has size code n, and has this cylinder, head and record in its key
abbrev pub is_wanted : (n c h r : ℕ) → ImdSector → Bool
is_wanted n c h r sector = is_whole sector.kind && ((sector.key.c == c) && ((sector.key.h == h) && ((sector.key.r == r) && (sector.key.n == n))))

-- whether a track has this cylinder and head
abbrev pub is_track : (c h : ℕ) → ImdTrack → Bool
is_track c h track = (track.c == c) && (track.h == h)

-- the sectors on the track of a cylinder and head, in their order
abbrev pub sectors_on : List ImdTrack → (c h : ℕ) → List ImdSector
sectors_on tracks c h = option_map_or (λ (track : ImdTrack). track.sectors) (find (is_track c h) tracks) []

-- the first whole sector of this record
abbrev pub sector_on : List ImdTrack → (n c h r : ℕ) → Option ImdSector
sector_on tracks n c h r = find (is_wanted n c h r) (sectors_on tracks c h)

-- whether one of the sectors is marked as deleted
abbrev pub has_deleted : List ImdSector → Bool
has_deleted sectors = list_any (λ (sector : ImdSector). is_deleted sector.kind) sectors

-- whether a track has at most this many sectors, and none that is marked as deleted
abbrev pub is_plain : List ImdTrack → (most c h : ℕ) → Bool
is_plain tracks most c h = nat_le (length (sectors_on tracks c h)) most && not (has_deleted (sectors_on tracks c h))

-- The contents of the first `count` records of a track, each of size code n, were added to the bytes `old`.
unfoldable pub AddsRecords : List ImdTrack → (n c h : ℕ) → ℕ → List ℕ → List ℕ → Type 0
AddsRecords tracks n c h zero old new = new ≡ old
AddsRecords tracks n c h (suc count) old new =
    (between : List ℕ) × AddsRecords tracks n c h count old between
    × ((sector : ImdSector) × (sector_on tracks n c h (count + 1) ≡ Some sector) × (new ≡ between ++ sector.content))

-- The bytes are those of the first tracks, by cylinder, then head. Each track has the records of the form and nothing
-- besides. No sector is left out, and none is marked as deleted.
unfoldable pub AreOfTracks : List ImdTrack → FlatForm → ℕ → List ℕ → Type 0
AreOfTracks tracks form zero bytes = bytes ≡ []
AreOfTracks tracks form (suc track) bytes =
    (before : List ℕ) × AreOfTracks tracks form track before
    × (is_plain tracks form.sectors (cylinder_of form track) (head_of form track) ≡ true)
    × AddsRecords tracks form.n (cylinder_of form track) (head_of form track) form.sectors before bytes

-- the tracks before this one, by cylinder, then head, are as a flat file has them
pub record IsReached (tracks : List ImdTrack) (form : FlatForm) (c h : ℕ) : Type 0 where
  pub cylinder : c < form.cylinders
  pub head : h < form.heads
  pub before : List ℕ
  pub are : AreOfTracks tracks form (form.heads * c + h) before

-- this is the first record of the track that isn't there, or has no whole data
pub record IsFirstLacking (tracks : List ImdTrack) (form : FlatForm) (c h r : ℕ) : Type 0 where
  pub from_first : 1 ≤ r
  pub to_last : r ≤ form.sectors
  pub there_before : (k : ℕ) → 1 ≤ k → k < r → IsSome (sector_on tracks form.n c h k)
  pub lacks : sector_on tracks form.n c h r ≡ None

-- The first track that isn't as a flat file has it has too many sectors, or one that is marked as deleted.
abbrev pub HasMore : List ImdTrack → FlatForm → (c h : ℕ) → Type 0
HasMore tracks form c h = IsReached tracks form c h × (is_plain tracks form.sectors c h ≡ false)

-- The first track that isn't as a flat file has it has neither, but lacks this record. It has all records before this
-- one.
abbrev pub Lack : List ImdTrack → FlatForm → (c h r : ℕ) → Type 0
Lack tracks form c h r = IsReached tracks form c h × (is_plain tracks form.sectors c h ≡ true) × IsFirstLacking tracks form c h r

-- why there is no flat file of these tracks, unless memory ran out
abbrev pub IsFirstFault : List ImdTrack → FlatForm → FlatFault → Type 0
IsFirstFault tracks form (fault.More c h) = HasMore tracks form c h
IsFirstFault tracks form (fault.Lacks c h r) = Lack tracks form c h r
IsFirstFault tracks form (fault.Unfit c h) = ⊥
IsFirstFault tracks form fault.Shape = ⊥
IsFirstFault tracks form fault.NoMemory = Unit {0}

-- what adding a track to those before it leads to
abbrev pub AddsTrack : List ImdTrack → FlatForm → (track : ℕ) → List ℕ → Result (Unit {0}) FlatFault → Type 0
AddsTrack tracks form track bytes (Ok done) = AreOfTracks tracks form (track + 1) bytes
AddsTrack tracks form track bytes (Err cause) = IsFirstFault tracks form cause

-- what adding all tracks leads to
abbrev pub GivesTracks : List ImdTrack → FlatForm → Result (Vec ℕ) FlatFault → Type 0
GivesTracks tracks form (Ok file) = AreOfTracks tracks form (tracks_of form) file.items
GivesTracks tracks form (Err cause) = IsFirstFault tracks form cause

-- the disk has this geometry and an image, and this holds of the image's tracks
abbrev pub OfImage : FlatForm → Disk → (List ImdTrack → Type 0) → Type 0
OfImage form disk told = IsOfForm form disk × ((image : ImdImage) × TakesDisk disk (Ok image) × HasImage disk image × told image.tracks)

-- The flat file of a medium has each sector of the medium's image, and none is left out. Otherwise the answer is why
-- there is none, unless memory ran out.
abbrev pub GivesFile : FlatForm → Disk → Result (Vec ℕ) FlatFault → Type 0
GivesFile form disk (Ok file) = OfImage form disk (λ tracks. AreOfTracks tracks form (tracks_of form) file.items)
GivesFile form disk (Err (fault.More c h)) = OfImage form disk (λ tracks. HasMore tracks form c h)
GivesFile form disk (Err (fault.Lacks c h r)) = OfImage form disk (λ tracks. Lack tracks form c h r)
GivesFile form disk (Err (fault.Unfit c h)) = IsOfForm form disk × TakesDisk disk (Err (Unfit c h))
GivesFile form disk (Err fault.Shape) = IsOfForm form disk → ⊥
GivesFile form disk (Err fault.NoMemory) = Unit {0}

-- the flat file of 1.44 MB or 720 KB, by the medium's rate
abbrev pub GivesFlat : Disk → Result (Vec ℕ) FlatFault → Type 0
GivesFlat disk result = GivesFile (standard_form disk.rate) disk result

-- the flat file of this geometry, if there is such a geometry
abbrev pub GivesForm : FlatForm → Disk → Result (Vec ℕ) FileFault → Type 0
GivesForm form disk (Ok file) = IsForm form × GivesFile form disk (Ok file)
GivesForm form disk (Err NoForm) = IsForm form → ⊥
GivesForm form disk (Err (Flat cause)) = IsForm form × GivesFile form disk (Err cause)

-- the answer is this file again, unless memory ran out
abbrev pub IsFlatAgain : List ℕ → Result (Vec ℕ) FlatFault → Type 0
IsFlatAgain bytes (Ok file) = file.items ≡ bytes
IsFlatAgain bytes (Err cause) = cause ≡ fault.NoMemory

abbrev pub IsFileAgain : List ℕ → Result (Vec ℕ) FileFault → Type 0
IsFileAgain bytes (Ok file) = file.items ≡ bytes
IsFileAgain bytes (Err cause) = cause ≡ Flat fault.NoMemory
