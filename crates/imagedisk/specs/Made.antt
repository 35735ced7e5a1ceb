-- The diskette that an ImageDisk image makes.
use Rattle.std.specs.Prelude.{◌≡◌, ℕ, suc, ◌+◌, ◌<◌, ◌≤◌, Bool, true, false, max, List, [], ◌∷◌, length, map, replicate, slice_index_or, Result, Ok, Err, ◌⊎◌, ◌==◌, if◌then◌else◌}
use Rattle.imagedisk.specs.Common.{list_any, Rate, Chrn, standard_fill, words_at, gap_at, Disk, IsDisk, HasTrack, track_of, window_words, damaged_window, empty_window, cut_of, lay, sector_place, Suits, IsLargestGap}
use Rattle.std.specs.Global.{Vec}
use Rattle.track_model.specs.Writing.{window}
use Rattle.imagedisk.specs.declared.sector.ImdKind.{ImdKind}
use Rattle.imagedisk.specs.declared.sector.ImdKind.TheVariants.{Absent, Good, Deleted, Bad, BadDeleted}
use Rattle.imagedisk.specs.declared.sector.ImdSector.{ImdSector}
use Rattle.imagedisk.specs.declared.track.ImdTrack.{ImdTrack}
use Rattle.imagedisk.specs.declared.image.ImdImage.{ImdImage}
use Rattle.imagedisk.specs.declared.error.ImdError.{ImdError}
use Rattle.imagedisk.specs.declared.error.ImdError.TheVariants.{Unfit, NoMemory}

-- the keys of sectors
abbrev pub keys_of : List ImdSector → List Chrn
keys_of sectors = map (λ (sector : ImdSector). sector.key) sectors

-- the words that are written for these data of a sector of size code n
abbrev pub window_of : ℕ → ImdKind → List ℕ → List ℕ
window_of n Absent content = empty_window n
window_of n Good content = window false content
window_of n Deleted content = window true content
window_of n Bad content = damaged_window false content
window_of n BadDeleted content = damaged_window true content

abbrev pub sector_window : ℕ → ImdSector → List ℕ
sector_window n sector = window_of n sector.kind sector.content

-- The track with the windows of these sectors, put at the places of a formatted track. The first sector has number
-- `first`.
unfoldable pub with_sectors : ℕ → ℕ → ℕ → List ImdSector → List ℕ → List ℕ
with_sectors n gap3 first [] track = track
with_sectors n gap3 first (sector ∷ sectors) track =
    with_sectors n gap3 (suc first) sectors (cut_of track (sector_place n gap3 first) (window_words n) (sector_window n sector))

-- a track of an image, laid with this gap 3: the track is formatted, and then each data field is written over
abbrev pub laid_track : Rate → ImdTrack → ℕ → List ℕ
laid_track rate track gap3 =
    with_sectors track.n gap3 0 track.sectors (lay (keys_of track.sectors) track.n gap3 standard_fill (words_at rate))

-- the words of a track on which nothing is recorded
abbrev pub empty_words : Rate → List ℕ
empty_words rate = replicate (words_at rate) 0

-- The words of a track of an image. If the track has no sectors, nothing is recorded. Otherwise its sectors are laid
-- with the largest gap that suits them, from `least` on.
abbrev pub IsMadeTrack : (least : ℕ) → Rate → ImdTrack → List ℕ → Type 0
IsMadeTrack least rate track words =
    ((track.sectors ≡ []) × (words ≡ empty_words rate))
    ⊎ ((1 ≤ length track.sectors) × (gap3 : ℕ) × IsLargestGap least track.n (length track.sectors) rate gap3 × (words ≡ laid_track rate track gap3))

-- no gap from `least` on suits as many sectors as the track has
abbrev pub IsCrowded : (least : ℕ) → Rate → ImdTrack → Type 0
IsCrowded least rate track =
    (gap3 : ℕ) → least ≤ gap3 → gap3 ≤ gap_at rate → Suits track.n (length track.sectors) (words_at rate) gap3 → ⊥

-- what is made of a track, or why nothing is
abbrev pub MakesTrack : (least : ℕ) → Rate → ImdTrack → Result (Vec ℕ) ImdError → Type 0
MakesTrack least rate track (Ok words) = IsMadeTrack least rate track words.items
MakesTrack least rate track (Err (Unfit c h)) = (c ≡ track.c) × (h ≡ track.h) × IsCrowded least rate track
MakesTrack least rate track (Err NoMemory) = Unit {0}

-- one more than the greatest cylinder, or 1 if there is no track
abbrev pub cylinder_count : List ImdTrack → ℕ
cylinder_count [] = 1
cylinder_count (track ∷ tracks) = max (track.c + 1) (cylinder_count tracks)

-- whether there is a track of head 1
abbrev pub has_other_side : List ImdTrack → Bool
has_other_side tracks = list_any (λ (track : ImdTrack). track.h == 1) tracks

-- two heads if there is a track of head 1, and one head otherwise
abbrev pub head_count : List ImdTrack → ℕ
head_count tracks = if has_other_side tracks then 2 else 1

-- the shape of the diskette for an image, whatever the diskette's tracks hold
pub record HasShape (image : ImdImage) (disk : Disk) : Type 0 where
  pub valid : IsDisk disk
  pub protected : disk.protected ≡ false
  pub cylinders : disk.cylinders ≡ cylinder_count image.tracks
  pub heads : disk.heads ≡ head_count image.tracks
  pub rate : disk.rate ≡ image.rate
  pub words_per_track : disk.words_per_track ≡ words_at image.rate

-- track i of the image has this cylinder and head
abbrev pub IsAtPlace : ImdImage → ℕ → ImdTrack → ℕ → ℕ → Type 0
IsAtPlace image i d c h = ((slice_index_or image.tracks i d).c ≡ c) × ((slice_index_or image.tracks i d).h ≡ h)

-- the first `count` tracks of the image are on the diskette, and nothing is recorded elsewhere
pub record HasFirst (least : ℕ) (image : ImdImage) (disk : Disk) (count : ℕ) : Type 0 where
  pub shape : HasShape image disk
  pub made : (i : ℕ) (d : ImdTrack) → i < count
      → IsMadeTrack least image.rate (slice_index_or image.tracks i d) (track_of disk (slice_index_or image.tracks i d).c (slice_index_or image.tracks i d).h)
  pub others : (c h : ℕ) → HasTrack disk c h → ((i : ℕ) (d : ImdTrack) → i < count → IsAtPlace image i d c h → ⊥)
      → track_of disk c h ≡ empty_words image.rate

-- the diskette of an image has all the image's tracks, and nothing is recorded elsewhere
abbrev pub IsMediumOf : (least : ℕ) → ImdImage → Disk → Type 0
IsMediumOf least image disk = HasFirst least image disk (length image.tracks)

-- the track has room for its sectors
abbrev pub IsRoomy : (least : ℕ) → Rate → ImdTrack → Type 0
IsRoomy least rate track = (track.sectors ≡ []) ⊎ ((gap3 : ℕ) × IsLargestGap least track.n (length track.sectors) rate gap3)

-- the first track of the image that has no room for its sectors
pub record IsFirstCrowded (least : ℕ) (image : ImdImage) (c h i : ℕ) : Type 0 where
  pub there : i < length image.tracks
  pub place : (d : ImdTrack) → IsAtPlace image i d c h
  pub crowded : (d : ImdTrack) → IsCrowded least image.rate (slice_index_or image.tracks i d)
  pub roomy_before : (k : ℕ) (d : ImdTrack) → k < i → IsRoomy least image.rate (slice_index_or image.tracks k d)

-- what putting a track on the diskette leads to, when the tracks before it are on the diskette
abbrev pub PutsTrack : (least : ℕ) → ImdImage → ℕ → Disk → Result (Unit {0}) ImdError → Type 0
PutsTrack least image i disk (Ok done) = HasFirst least image disk (i + 1)
PutsTrack least image i disk (Err (Unfit c h)) = IsFirstCrowded least image c h i
PutsTrack least image i disk (Err NoMemory) = Unit {0}

-- what making the diskette of an image leads to
abbrev pub MakesDisk : (least : ℕ) → ImdImage → Result Disk ImdError → Type 0
MakesDisk least image (Ok disk) = IsMediumOf least image disk
MakesDisk least image (Err (Unfit c h)) = (i : ℕ) × IsFirstCrowded least image c h i
MakesDisk least image (Err NoMemory) = Unit {0}
