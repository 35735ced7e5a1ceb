-- What an ImageDisk image takes from a diskette.
use Rattle.std.specs.Prelude.{◌≡◌, ℕ, ◌+◌, ◌*◌, ◌<◌, ◌≤◌, Bool, true, false, List, [], length, slice_index_or, All, AllPairs, Option, Some, None, Result, Ok, Err, ◌⊎◌, if◌then◌else◌, ◌==◌}
use Rattle.imagedisk.specs.Common.{Rate, R500, Chrn, Disk, HasTrack, track_of, Found, NoData, BadCrc, IsAddressAt, IsSizeCode, AreAddresses, content_at, IsFirstDataMark, LookAt}
use Rattle.track_model.specs.declared.Field.{Field}
use Rattle.imagedisk.specs.declared.sector.ImdKind.{ImdKind}
use Rattle.imagedisk.specs.declared.sector.ImdKind.TheVariants.{Absent, Good, Deleted, Bad, BadDeleted}
use Rattle.imagedisk.specs.declared.sector.ImdSector.{ImdSector}
use Rattle.imagedisk.specs.declared.track.ImdTrack.{ImdTrack}
use Rattle.imagedisk.specs.declared.image.ImdImage.{ImdImage}
use Rattle.imagedisk.specs.Images.{IsImdTrack}
use Rattle.imagedisk.specs.declared.error.ImdError.{ImdError}
use Rattle.imagedisk.specs.declared.error.ImdError.TheVariants.{Unfit, NoMemory}

-- the kind of data whose CRC is right, and below it the kind of data whose CRC is wrong
abbrev pub intact_kind : Bool → ImdKind
intact_kind deleted = if deleted then Deleted else Good

abbrev pub damaged_kind : Bool → ImdKind
damaged_kind deleted = if deleted then BadDeleted else Bad

-- The look at the address field at p finds these data. If their CRC is wrong, they are the bytes behind the first data
-- mark.
abbrev pub Holds : List ℕ → ℕ → ℕ → ImdKind → List ℕ → Type 0
Holds track p n Absent content = LookAt track p n NoData × (content ≡ [])
Holds track p n Good content = (place : ℕ) × LookAt track p n (Found false place) × (content ≡ content_at track place n)
Holds track p n Deleted content = (place : ℕ) × LookAt track p n (Found true place) × (content ≡ content_at track place n)
Holds track p n Bad content = LookAt track p n BadCrc × (q : ℕ) × IsFirstDataMark track p q false × (content ≡ content_at track (q + 64) n)
Holds track p n BadDeleted content = LookAt track p n BadCrc × (q : ℕ) × IsFirstDataMark track p q true × (content ≡ content_at track (q + 64) n)

-- the sector of an address field
pub record IsSectorAt (track : List ℕ) (field : Field) (sector : ImdSector) : Type 0 where
  pub key : sector.key ≡ field.key
  pub data_are : Holds track field.place field.key.n sector.kind sector.content

-- the sectors of address fields, in their order
pub record AreSectorsAt (track : List ℕ) (fields : List Field) (sectors : List ImdSector) : Type 0 where
  pub count : length sectors ≡ length fields
  pub each : (i : ℕ) (d : Field) (e : ImdSector) → i < length fields → IsSectorAt track (slice_index_or fields i d) (slice_index_or sectors i e)

-- an image's track can have these address fields: there are at most 255, and all have the size code n, from 1 to 6
pub record AreUniform (fields : List Field) (n : ℕ) : Type 0 where
  pub count : length fields ≤ 255
  pub coded : IsSizeCode n
  pub sizes : All (λ field. field.key.n ≡ n) fields

-- whether an image can have the track, and below it the opposite
abbrev pub IsFit : List ℕ → Type 0
IsFit track = (fields : List Field) × AreAddresses track fields × (n : ℕ) × AreUniform fields n

abbrev pub IsUnfit : List ℕ → Type 0
IsUnfit track = (fields : List Field) × AreAddresses track fields × ((n : ℕ) → AreUniform fields n → ⊥)

-- the track has no address field
abbrev pub HasNoAddress : List ℕ → Type 0
HasNoAddress track = (p : ℕ) (key : Chrn) → IsAddressAt track p key → ⊥

-- the image's track that a track of a diskette holds; the track has at least one address field
pub record IsTrackOf (words : List ℕ) (c h : ℕ) (track : ImdTrack) : Type 0 where
  pub cylinder : track.c ≡ c
  pub head : track.h ≡ h
  pub fields : List Field
  pub some : 1 ≤ length fields
  pub addresses : AreAddresses words fields
  pub uniform : AreUniform fields track.n
  pub sectors : AreSectorsAt words fields track.sectors

-- what taking a track leads to
abbrev pub TakesTrack : List ℕ → ℕ → ℕ → Result (Option ImdTrack) ImdError → Type 0
TakesTrack words c h (Ok None) = HasNoAddress words × IsFit words
TakesTrack words c h (Ok (Some track)) = IsTrackOf words c h track × IsImdTrack track
TakesTrack words c h (Err (Unfit d g)) = (d ≡ c) × (g ≡ h) × IsUnfit words
TakesTrack words c h (Err NoMemory) = Unit {0}

-- one place is before another: by cylinder, then head
abbrev pub IsBefore : ℕ → ℕ → ℕ → ℕ → Type 0
IsBefore c h d g = (c < d) ⊎ ((c ≡ d) × (h < g))

-- the image's track that is on the diskette, at the track's own cylinder and head
pub record IsTrackOn (disk : Disk) (track : ImdTrack) : Type 0 where
  pub there : HasTrack disk track.c track.h
  pub holds : IsTrackOf (track_of disk track.c track.h) track.c track.h track

-- a track of this cylinder and head is among these
abbrev pub HasTrackAt : List ImdTrack → ℕ → ℕ → Type 0
HasTrackAt tracks c h = (i : ℕ) × (i < length tracks) × ((d : ImdTrack) → ((slice_index_or tracks i d).c ≡ c) × ((slice_index_or tracks i d).h ≡ h))

-- the rate of the diskette, or 500 kbit/s if no track is taken
abbrev pub told_rate : Disk → List ImdTrack → Rate
told_rate disk tracks = if length tracks == 0 then R500 else disk.rate

-- The image has exactly the tracks that have an address field, by cylinder, then head.
pub record IsImageOf (disk : Disk) (image : ImdImage) : Type 0 where
  pub each : All (IsTrackOn disk) image.tracks
  pub ordered : AllPairs (λ a b. IsBefore a.c a.h b.c b.h) image.tracks
  pub all : (c h : ℕ) → HasTrack disk c h → HasTrackAt image.tracks c h ⊎ HasNoAddress (track_of disk c h)
  pub rate : image.rate ≡ told_rate disk image.tracks

-- the first track, by cylinder, then head, that no image can have
pub record IsFirstUnfit (disk : Disk) (c h : ℕ) : Type 0 where
  pub there : HasTrack disk c h
  pub unfit : IsUnfit (track_of disk c h)
  pub fits_before : (b g : ℕ) → HasTrack disk b g → IsBefore b g c h → IsFit (track_of disk b g)

-- a track of the image that was taken from a place with a number below this one
pub record IsTakenBelow (disk : Disk) (limit : ℕ) (track : ImdTrack) : Type 0 where
  pub on : IsTrackOn disk track
  pub valid : IsImdTrack track
  pub below : track.c * disk.heads + track.h < limit

-- these are the tracks taken from the places with numbers below this one, in order
pub record AreTakenBelow (disk : Disk) (limit : ℕ) (tracks : List ImdTrack) : Type 0 where
  pub each : All (IsTakenBelow disk limit) tracks
  pub ordered : AllPairs (λ a b. IsBefore a.c a.h b.c b.h) tracks
  pub all : (c h : ℕ) → HasTrack disk c h → c * disk.heads + h < limit → HasTrackAt tracks c h ⊎ HasNoAddress (track_of disk c h)
  pub fits : (c h : ℕ) → HasTrack disk c h → c * disk.heads + h < limit → IsFit (track_of disk c h)

-- what taking the place with this number leads to, when the places before it were taken
abbrev pub TakesPlace : Disk → ℕ → List ImdTrack → Result (Unit {0}) ImdError → Type 0
TakesPlace disk place tracks (Ok done) = AreTakenBelow disk (place + 1) tracks
TakesPlace disk place tracks (Err (Unfit c h)) = IsFirstUnfit disk c h
TakesPlace disk place tracks (Err NoMemory) = Unit {0}

-- what taking an image of a diskette leads to
abbrev pub TakesDisk : Disk → Result ImdImage ImdError → Type 0
TakesDisk disk (Ok image) = IsImageOf disk image × ((c h : ℕ) → HasTrack disk c h → IsFit (track_of disk c h))
TakesDisk disk (Err (Unfit c h)) = IsFirstUnfit disk c h
TakesDisk disk (Err NoMemory) = Unit {0}
