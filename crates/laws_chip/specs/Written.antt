-- A write over a medium that stays in: what it leaves on that medium.
use Rattle.std.specs.Prelude.{◌≡◌, ◌+◌, ◌++◌, ◌⊎◌, ℕ, ◌<◌, ◌≤◌, Bool, true, false, Some, List, [], ◌∷◌, length, replicate}
use Rattle.laws_chip.specs.Common.{Disk, HasTrack, IsDisk, IsWithTrack, track_of, IsAddressAt, content_size, DriveState, Past, Results, head_of, rate_fits, IsContent, drive_at, selected_at, Front, FrontStage, Moving, Telling, Transfer}
use Rattle.track_model.specs.Laid.{with_window}
use Rattle.track_model.specs.Windows.{IsCuttable, cut_of}
use Rattle.track_model.specs.Writing.{window}
use Rattle.laws_chip.specs.SectorCalls.{AreWithin, Call, Changes}
use Rattle.laws_chip.specs.Media.{IsClean, Place}
use Rattle.laws_chip.specs.Serving.{History, Part, sector_after}

-- ---- the run

-- DOR selects the bay, its motor is on, whatever its speed, and the heads are over the cylinder. The medium may have
-- changed
pub record IsOverCylinder (place : Place) (front : Front) : Type 0 where
  pub bay : place.bay ≤ 1
  pub disk : IsDisk place.disk
  pub selects : selected_at front.adapter ≡ place.bay
  pub rate : front.adapter.controller.rate ≡ place.rate
  pub cylinder : (drive_at front.adapter place.bay).cylinder ≡ place.cylinder
  pub motor : (drive_at front.adapter place.bay).motor ≡ true
  pub inside : (drive_at front.adapter place.bay).place < place.disk.words_per_track
  pub clean : IsClean place front

-- this holds while a sector is moved. Once results are given, no word of the last sector was lost
abbrev pub IsOverCylinderWhile : FrontStage → Place → Front → Type 0
IsOverCylinderWhile (Moving moving) place front = IsOverCylinder place front
IsOverCylinderWhile (Telling results) place front = IsClean place front
IsOverCylinderWhile _ place front = Unit {0}

-- a drive keeps its medium, its place on the track and its gate. Its count of faults doesn't fall
pub record StaysPut (old new : DriveState) : Type 0 where
  pub medium : new.medium ≡ old.medium
  pub place : new.place ≡ old.place
  pub gate : new.gate ≡ old.gate
  pub cut : new.cut ≡ old.cut
  pub never_falls : old.faults ≤ new.faults

-- a drive that was at speed stays at speed
abbrev pub KeepsSpeed : DriveState → DriveState → Type 0
KeepsSpeed old new = 6250 ≤ old.spin → 6250 ≤ new.spin

-- a drive that was at speed stays at speed while a sector is moved
abbrev pub KeepsSpeedWhile : FrontStage → DriveState → DriveState → Type 0
KeepsSpeedWhile (Moving moving) old new = KeepsSpeed old new
KeepsSpeedWhile _ old new = Unit {0}

-- where another medium is put in or taken out, this drive keeps all of this
abbrev pub LeavesPut : FrontStage → Call → DriveState → DriveState → Type 0
LeavesPut stage Changes old new = StaysPut old new × KeepsSpeedWhile stage old new
LeavesPut stage _ old new = Unit {0}

-- the medium stays in through all calls
abbrev pub KeepsIn : Place → (calls : List Call) (old new : Front) → AreWithin calls old new → Type 0
KeepsIn place [] old new same = IsOverCylinderWhile old.stage place old
KeepsIn place (call ∷ calls) old new within =
    IsOverCylinderWhile old.stage place old × LeavesPut old.stage call (drive_at old.adapter place.bay) (drive_at within.0.adapter place.bay)
    × KeepsIn place calls within.0 new within.3

-- ---- ---- what a write leaves

-- the track under the head of a sector
abbrev pub track_on : Disk → Place → Transfer → List ℕ
track_on disk place at = track_of disk place.cylinder (head_of at.head_drive)

-- after an address field of the sector's key, which begins at this cell of the track under its head, the first so many
-- words of the window of this content stand. Nothing else of the disk changed. The disk wasn't protected
pub record HasWords (place : Place) (deleted : Bool) (at : Transfer) (content : List ℕ) (spot count : ℕ) (disk now : Disk) : Type 0 where
  pub unprotected : disk.protected ≡ false
  pub rate : rate_fits place.rate disk.rate ≡ true
  pub there : HasTrack disk place.cylinder (head_of at.head_drive)
  pub address_field : IsAddressAt (track_on disk place at) spot at.key
  pub size : length content ≡ content_size at.key.n
  pub cuttable : IsCuttable (track_on disk place at) spot count (window deleted content)
  pub cut : IsWithTrack disk place.cylinder (head_of at.head_drive) (cut_of (track_on disk place at) spot count (window deleted content)) now

-- such words stand. If no word is lost, the track is the earlier one with the whole window
pub record HasWindow (place : Place) (deleted : Bool) (at : Transfer) (content : List ℕ) (disk now : Disk) : Type 0 where
  pub spot : ℕ
  pub count : ℕ
  pub words : HasWords place deleted at content spot count disk now
  pub whole : place.clean ≡ true → track_on now place at ≡ with_window (track_on disk place at) spot deleted content

-- the sectors that are over, one after the other. Each has a window of the bytes that were taken
abbrev pub AreWritten : Place → Bool → List Part → Disk → Disk → Type 0
AreWritten place deleted [] disk now = now ≡ disk
AreWritten place deleted (part ∷ parts) disk now =
    (between : Disk) × HasWindow place deleted part.at part.past.taken disk between × AreWritten place deleted parts between now

-- so many words stand that are the first of a window. Its content begins with what was handed in, and may go on in any
-- way. What was handed in is the first of the bytes that were taken, or, once the terminal count came, all of them and
-- then bytes 00
pub record HasFirst (place : Place) (deleted : Bool) (at : Transfer) (past : Past) (disk now : Disk) : Type 0 where
  pub handed : List ℕ
  pub content : IsContent past.counted past.taken handed
  pub few : length handed ≤ content_size at.key.n
  pub spot : ℕ
  pub count : ℕ
  pub words : (rest : List ℕ) → length handed + length rest ≡ content_size at.key.n → HasWords place deleted at (handed ++ rest) spot count disk now

-- either nothing was written of a sector, or such words were
abbrev pub IsBegun : Place → Bool → Transfer → Past → Disk → Disk → Type 0
IsBegun place deleted at past disk now = (now ≡ disk) ⊎ HasFirst place deleted at past disk now

-- a window of the bytes that were taken, and then of bytes 00 for those that are missing
abbrev pub IsDone : Place → Bool → Transfer → List ℕ → Disk → Disk → Type 0
IsDone place deleted at taken disk now = (missing : ℕ) × HasWindow place deleted at (taken ++ replicate missing 0) disk now

-- the last sector was done: ST1 is 00, or has EN and nothing else
abbrev pub TellsDone : Results → Type 0
TellsDone results = (results.st1.0 ≡ 0x00) ⊎ (results.st1.0 ≡ 0x80)

-- what a write took stands on the medium. This holds of each sector that is over, in order, and of the last one.
-- Nothing else of the medium that was in changed. A protected medium didn't change at all
pub record IsWrittenTo (place : Place) (deleted : Bool) (first : Transfer) (history : History) (results : Results) (end : Front) : Type 0 where
  pub before : Disk
  pub now : Disk
  pub medium : (drive_at end.adapter place.bay).medium ≡ Some now
  pub parts : AreWritten place deleted history.parts place.disk before
  pub last : IsBegun place deleted (sector_after (length history.parts) first) history.past before now
  pub done : TellsDone results → IsDone place deleted (sector_after (length history.parts) first) history.past.taken before now
  pub guarded : place.disk.protected ≡ true → (history.parts ≡ []) × (now ≡ place.disk)
