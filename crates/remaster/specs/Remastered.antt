-- What a medium becomes when it is laid out anew.
use Rattle.std.specs.Prelude.{◌≡◌, ℕ, ◌<◌, List, Result, Ok, Err}
use Rattle.remaster.specs.Common.{words_at, Rate, Disk, IsDisk, HasTrack, track_of, IsRegular}
use Rattle.sector_map.specs.Disks.{IsRegularDisk}
use Rattle.remaster.specs.declared.sectors.Sector.{Sector}
use Rattle.remaster.specs.declared.error.RemasterError.{RemasterError}
use Rattle.remaster.specs.declared.error.RemasterError.TheVariants.{Unfit, NoMemory}
use Rattle.remaster.specs.Sectors.{AreSectors}
use Rattle.remaster.specs.Fit.{IsFit, IsFitTrack, IsUnfitTrack, IsFirstUnfit}
use Rattle.remaster.specs.Relaid.{IsRelaid}

-- The disk `after` has the protection, cylinders, heads and rate of this one. A track of it has as many words as pass
-- in one revolution.
pub record HasShapeOf (disk after : Disk) : Type 0 where
  pub protected : after.protected ≡ disk.protected
  pub cylinders : after.cylinders ≡ disk.cylinders
  pub heads : after.heads ≡ disk.heads
  pub rate : after.rate ≡ disk.rate
  pub words_per_track : after.words_per_track ≡ words_at disk.rate

-- The track `after` is the track of this cylinder and head, laid out anew. It is regular, and has the same sectors in
-- the same order.
pub record IsTrackRemaster (rate : Rate) (c h : ℕ) (track after : List ℕ) : Type 0 where
  pub sectors : List Sector
  pub old : AreSectors track sectors
  pub fit : IsFit rate c h sectors
  pub relaid : IsRelaid rate sectors after
  pub regular : IsRegular after c h
  pub new : AreSectors after sectors

-- the disk `after` is the disk laid out anew
pub record IsRemaster (disk after : Disk) : Type 0 where
  pub valid : IsDisk after
  pub shape : HasShapeOf disk after
  pub regular : IsRegularDisk after
  pub tracks : (c h : ℕ) → HasTrack disk c h → IsTrackRemaster disk.rate c h (track_of disk c h) (track_of after c h)

-- the answer for a disk: the disk laid out anew, or its first track that isn't fit
abbrev pub Remasters : Disk → Result Disk RemasterError → Type 0
Remasters disk (Ok after) = IsRemaster disk after
Remasters disk (Err (Unfit c h)) = IsFirstUnfit disk c h
Remasters disk (Err NoMemory) = Unit {0}

-- why a track wasn't laid out anew: it isn't fit, or memory ran out
abbrev pub IsTrackError : Rate → ℕ → ℕ → List ℕ → RemasterError → Type 0
IsTrackError rate c h track (Unfit b g) =
    (b ≡ c) × (g ≡ h) × IsUnfitTrack rate c h track
IsTrackError rate c h track NoMemory = Unit {0}

-- the track of this cylinder and head is laid out anew on the disk `after`
abbrev pub IsDone : Disk → Disk → ℕ → ℕ → Type 0
IsDone disk after c h = IsTrackRemaster disk.rate c h (track_of disk c h) (track_of after c h)

-- Why the tracks of a cylinder weren't laid out anew. The error names the first of them that isn't fit, or memory ran
-- out.
abbrev pub IsUnfitIn : Disk → ℕ → RemasterError → Type 0
IsUnfitIn disk c (Unfit b g) = (b ≡ c) × (g < disk.heads) × IsUnfitTrack disk.rate c g (track_of disk c g)
    × ((k : ℕ) → k < g → IsFitTrack disk.rate c k (track_of disk c k))
IsUnfitIn disk c NoMemory = Unit {0}
