-- What stays on a disk when it is changed or laid.
use Rattle.std.specs.Prelude.{◌≡◌, ◌≢◌, ◌↔◌, ℕ, Bool, List}
use Rattle.sector_map.specs.Common.{Chrn, Disk, IsDisk, HasTrack, track_of, Look, IsAddressAt, HasAddressMark, IsSector, IsRegular}
use Rattle.sector_map.specs.Disks.{LookOn, IsRegularDisk, Entry, IsOnMap}
use Rattle.sector_map.specs.Met.{HasLook, AllFound}

-- `after` is a disk with the same protection, shape and rate as this disk
pub record AreAlike (disk after : Disk) : Type 0 where
  pub valid : IsDisk after
  pub protected : after.protected ≡ disk.protected
  pub cylinders : after.cylinders ≡ disk.cylinders
  pub heads : after.heads ≡ disk.heads
  pub rate : after.rate ≡ disk.rate
  pub words_per_track : after.words_per_track ≡ disk.words_per_track

-- The disk `after` is like the disk. All tracks are as they were, except the one of this cylinder and head.
pub record KeepsTracks (disk : Disk) (c h : ℕ) (after : Disk) : Type 0 where
  pub alike : AreAlike disk after
  pub others : (b g : ℕ) → HasTrack disk b g → (b ≡ c → g ≡ h → ⊥) → track_of after b g ≡ track_of disk b g

-- The track `after` is regular if the track is. It has the track's address fields, and the data of all keys but this
-- one.
pub record KeepsOtherKeys (track : List ℕ) (key : Chrn) (after : List ℕ) : Type 0 where
  pub regular : (c h : ℕ) → IsRegular track c h → IsRegular after c h
  pub marks : HasAddressMark track ↔ HasAddressMark after
  pub addresses : (p : ℕ) (any : Chrn) → IsAddressAt track p any ↔ IsAddressAt after p any
  pub looks : (other : Chrn) (look : Look) → other ≢ key → HasLook track other look ↔ HasLook after other look
  pub all_found : (other : Chrn) → other ≢ key → AllFound track other ↔ AllFound after other
  pub sectors : (other : Chrn) (deleted : Bool) (content : List ℕ) → other ≢ key
      → IsSector track other deleted content ↔ IsSector after other deleted content

-- The disk `after` is regular. It has the disk's address fields, and the data of all keys but this one.
pub record KeepsSectors (disk : Disk) (key : Chrn) (after : Disk) : Type 0 where
  pub regular : IsRegularDisk after
  pub tracks : (c h : ℕ) → HasTrack disk c h → KeepsOtherKeys (track_of disk c h) key (track_of after c h)
  pub looked : (other : Chrn) (look : Look) → other ≢ key → LookOn disk other look ↔ LookOn after other look
  pub entries : (entry : Entry) → entry.key ≢ key → IsOnMap disk entry ↔ IsOnMap after entry
