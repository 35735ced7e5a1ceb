-- Words that were written on a track, and what stands of them.
use Rattle.std.specs.Prelude.{◌≡◌, ℕ, ◌+◌, ◌≤◌, true, false, Some, List, length, take}
use Rattle.flop_base.specs.Lists.{with_items}
use Rattle.fdc_core.specs.Common.{Disk, IsWithTrack, track_of, DriveState}
use Rattle.fdc_core.specs.Drives.Hearing.{IsCalm}

-- the medium turns at speed, with this word of this cylinder under the heads
pub record IsOver (c word : ℕ) (drive : DriveState) : Type 0 where
  pub cylinder : drive.cylinder ≡ c
  pub place : drive.place ≡ word
  pub motor : drive.motor ≡ true
  pub speed : 6250 ≤ drive.spin

-- the disk is as it was, except that the first so many of these words stand from word `start` of a track on
pub record Stands (disk : Disk) (c h start : ℕ) (words : List ℕ) (count : ℕ) (now : Disk) : Type 0 where
  pub few : count ≤ length words
  pub inside : start + count ≤ disk.words_per_track
  pub track : IsWithTrack disk c h (with_items (track_of disk c h) start (take count words)) now

-- a drive was given these words for the track of a disk. A first part of them stands, and all of them where the drive
-- had no fault
pub record IsPut (disk : Disk) (c h start : ℕ) (words : List ℕ) (faults : ℕ) (drive : DriveState) : Type 0 where
  pub now : Disk
  pub count : ℕ
  pub medium : drive.medium ≡ Some now
  pub stands : Stands disk c h start words count now
  pub whole : IsCalm faults drive.faults → count ≡ length words

-- the words are put and the gate is open for the next one. Where the gate was cut, there was a fault
pub record IsPutOpen (disk : Disk) (c h start : ℕ) (words : List ℕ) (faults : ℕ) (drive : DriveState) : Type 0 where
  pub put : IsPut disk c h start words faults drive
  pub gate : drive.gate ≡ true
  pub uncut : drive.cut ≡ false → put.count ≡ length words
  pub cut : drive.cut ≡ true → IsCalm faults drive.faults → ⊥
