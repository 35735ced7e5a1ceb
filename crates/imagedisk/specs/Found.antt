-- What is found on a track that an ImageDisk image made.
use Rattle.std.specs.Prelude.{◌≡◌, ℕ, ◌<◌, true, false, List, length, slice_index_or, All, ◌⊎◌}
use Rattle.imagedisk.specs.Common.{Chrn, Found, NoData, BadCrc, IsAddressAt, content_at, LookAt, Disk, HasTrack, track_of}
use Rattle.imagedisk.specs.declared.sector.ImdKind.{ImdKind}
use Rattle.imagedisk.specs.declared.sector.ImdKind.TheVariants.{Absent, Good, Deleted, Bad, BadDeleted}
use Rattle.imagedisk.specs.declared.sector.ImdSector.{ImdSector}
use Rattle.imagedisk.specs.declared.track.ImdTrack.{ImdTrack}
use Rattle.imagedisk.specs.declared.image.ImdImage.{ImdImage}
use Rattle.imagedisk.specs.Taken.{HasTrackAt, HasNoAddress}

-- The answer of the look at the address field at p, for data of this kind. Good and deleted data are found, bad data
-- are found damaged, and of absent data nothing is found.
abbrev pub IsFoundAs : List ℕ → ℕ → ℕ → ImdKind → List ℕ → Type 0
IsFoundAs track p n Absent content = LookAt track p n NoData
IsFoundAs track p n Good content = (place : ℕ) × LookAt track p n (Found false place) × (content ≡ content_at track place n)
IsFoundAs track p n Deleted content = (place : ℕ) × LookAt track p n (Found true place) × (content ≡ content_at track place n)
IsFoundAs track p n Bad content = LookAt track p n BadCrc
IsFoundAs track p n BadDeleted content = LookAt track p n BadCrc

-- the address fields of the track are those of the sectors, in their order, and each has its data
pub record HasSectors (track : List ℕ) (sectors : List ImdSector) : Type 0 where
  pub place : ℕ → ℕ
  pub ordered : (i j : ℕ) → i < j → j < length sectors → place i < place j
  pub address : (i : ℕ) (d : ImdSector) → i < length sectors → IsAddressAt track (place i) (slice_index_or sectors i d).key
  pub data_are : (i : ℕ) (d : ImdSector) → i < length sectors
      → IsFoundAs track (place i) (slice_index_or sectors i d).key.n (slice_index_or sectors i d).kind (slice_index_or sectors i d).content
  pub only : (p : ℕ) (key : Chrn) → IsAddressAt track p key → (i : ℕ) × (i < length sectors) × (p ≡ place i)

-- The tracks of the image are on the diskette, each with its sectors. All other tracks of the diskette have no address
-- field.
pub record HasImage (disk : Disk) (image : ImdImage) : Type 0 where
  pub there : All (λ (track : ImdTrack). HasTrack disk track.c track.h) image.tracks
  pub tracks : (i : ℕ) (d : ImdTrack) → i < length image.tracks
      → HasSectors (track_of disk (slice_index_or image.tracks i d).c (slice_index_or image.tracks i d).h) (slice_index_or image.tracks i d).sectors
  pub others : (c h : ℕ) → HasTrack disk c h → HasTrackAt image.tracks c h ⊎ HasNoAddress (track_of disk c h)

-- both tracks have the same sectors in the same order
abbrev pub HaveSameSectors : List ℕ → List ℕ → Type 0
HaveSameSectors track other = (sectors : List ImdSector) × HasSectors track sectors × HasSectors other sectors

-- each track of the diskette that has an address field is also a track of the other diskette, with the same sectors
abbrev pub SharesSectors : Disk → Disk → Type 0
SharesSectors disk other = (c h : ℕ) → HasTrack disk c h
    → (HasTrack other c h × HaveSameSectors (track_of disk c h) (track_of other c h)) ⊎ HasNoAddress (track_of disk c h)
