-- When a command meets a track of a disk, and when nothing is recorded.
use Rattle.std.specs.Prelude.{◌≡◌, ℕ, List, Option, Some}
use Rattle.sector_map.specs.Common.{Chrn, Rate, Disk, HasTrack, Look, IsAddressAt, HasAddressMark}
use Rattle.sector_map.specs.Met.{HasNoClearMark, HasClearAddress, HasLook}

-- A command at this rate meets a track of this disk: the disk is in the drive, and has the track, at this rate.
pub record MeetsTrack (medium : Option Disk) (rate : Rate) (c h : ℕ) (disk : Disk) : Type 0 where
  pub is_in : medium ≡ Some disk
  pub has : HasTrack disk c h
  pub same_rate : disk.rate ≡ rate

-- nothing is recorded: the track has no address mark, no address field of any key, and nothing Clear
pub record HasNothing (track : List ℕ) : Type 0 where
  pub marks : HasAddressMark track → ⊥
  pub clear_marks : HasNoClearMark track
  pub addresses : (p : ℕ) (key : Chrn) → IsAddressAt track p key → ⊥
  pub clear_addresses : (key : Chrn) → HasClearAddress track key → ⊥
  pub looks : (key : Chrn) (look : Look) → HasLook track key look → ⊥
