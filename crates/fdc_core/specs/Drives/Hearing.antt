-- What a command heard of the track under its head.
use Rattle.std.specs.Prelude.{◌≡◌, ℕ, ◌<◌, ◌≤◌, ◌&&◌, nat_lt, if◌then◌else◌, Bool, true, Some, List}
use Rattle.fdc_core.specs.Common.{last_count, Disk, HasTrack, track_of, DriveState, Past, rate_fits, DataRate}
use Rattle.sector_map.specs.Met.{unrecorded}
use Rattle.fdc_core.specs.Drives.Heard.{place_in, IsHeardFrom, IsWholeFrom}

-- how the drive stood when listening began
pub record Outset : Type 0 where
  -- the head that listens, and the controller's rate
  pub head : ℕ
  pub rate : DataRate
  -- the medium and the cylinder there, the word that passes next, and the drive's faults
  pub disk : Disk
  pub cylinder : ℕ
  pub from : ℕ
  pub faults : ℕ

-- the track that passes under the head. Nothing is recorded where the disk has no such track, or has another rate
abbrev pub track_heard : Outset → List ℕ
track_heard outset =
    if nat_lt outset.cylinder outset.disk.cylinders && nat_lt outset.head outset.disk.heads && rate_fits outset.rate outset.disk.rate
    then track_of outset.disk outset.cylinder outset.head else unrecorded outset.disk.words_per_track

-- the track that passes is one of the medium, recorded at the controller's rate
pub record IsRecorded (outset : Outset) : Type 0 where
  pub has : HasTrack outset.disk outset.cylinder outset.head
  pub fits : rate_fits outset.rate outset.disk.rate ≡ true
  pub track : track_heard outset ≡ track_of outset.disk outset.cylinder outset.head

-- a count that didn't rise
abbrev pub IsCalm : ℕ → ℕ → Type 0
IsCalm before now = (now ≤ before) × (now < last_count)

-- the drive is at speed over that track, and these words have passed
pub record IsUnder (outset : Outset) (past : Past) (drive : DriveState) : Type 0 where
  pub medium : drive.medium ≡ Some outset.disk
  pub cylinder : drive.cylinder ≡ outset.cylinder
  pub motor : drive.motor ≡ true
  pub speed : 6250 ≤ drive.spin
  pub place : drive.place ≡ place_in outset.from past.turns past.seen
  pub inside : drive.place < outset.disk.words_per_track

-- the words heard are those of the track, and none was lost where the drive had no fault
pub record IsHearing (outset : Outset) (past : Past) (executes : Bool) (drive : DriveState) : Type 0 where
  pub heard : IsHeardFrom (track_heard outset) outset.from past.turns past.seen
  pub never_falls : outset.faults ≤ drive.faults
  pub whole : IsCalm outset.faults drive.faults → IsWholeFrom (track_heard outset) outset.from past.turns past.seen
  pub under : executes ≡ true → IsUnder outset past drive
