-- Disks on which no write brings up an address mark.
use Rattle.std.specs.Prelude.{ℕ}
use Rattle.laws_commands.specs.Common.{Chrn, Disk, HasTrack, track_of, IsAddressAt, IsLaid}

-- Each address field of the disk is on a Laid track. No write to it brings up an address mark, however short the write
-- stops.
abbrev pub HasLaidFields : Disk → Type 0
HasLaidFields disk = (c h p : ℕ) (key : Chrn) → HasTrack disk c h → IsAddressAt (track_of disk c h) p key → IsLaid (track_of disk c h)
