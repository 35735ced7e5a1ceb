-- A read over a medium that stays in: what it gathers is of that medium.
use Rattle.std.specs.Prelude.{◌≡◌, ◌+◌, ◌++◌, ◌⊎◌, ℕ, ◌<◌, ◌≤◌, Bool, true, false, ◌&&◌, nat_lt, Some, List, [], ◌∷◌, length, if◌then◌else◌}
use Rattle.laws_chip.specs.Common.{Chrn, Disk, IsDisk, track_of, BadCrc, NoData, IsAddressAt, IsDataMark, IsWhole, DriveState, Past, head_of, rate_fits, drive_at, selected_at, Front, is_other, is_skipping, Operation, FrontStage, Moving, Telling, Transfer, FindsBadCheck, FindsNoField, FindsNoMark, FindsNoSector, FindsSector, HasAddressMark}
use Rattle.sector_map.specs.Met.{HasLook, unrecorded}
use Rattle.fdc_phases.specs.declared.rates.DataRate.{DataRate}
use Rattle.laws_chip.specs.SectorCalls.{AreWithin, Call, Changes}
use Rattle.fdc_stages.specs.Searches.{HasNoClear}
use Rattle.track_model.specs.Bytes.{bytes_at}
use Rattle.flop_base.specs.Counts.{last_count}
use Rattle.laws_chip.specs.Serving.{FindsField, History, Part, sector_after}

-- a bay, the medium in its drive, the cylinder under the heads, and the rate that the controller is set to. `clean`
-- says that no word is lost, and `faults` is then the drive's count of faults
pub record Place : Type 0 where
  pub bay : ℕ
  pub disk : Disk
  pub cylinder : ℕ
  pub rate : DataRate
  pub clean : Bool
  pub faults : ℕ

-- where no word is lost, the drive's count of faults stays
abbrev pub IsClean : Place → Front → Type 0
IsClean place front = place.clean ≡ true → ((drive_at front.adapter place.bay).faults ≡ place.faults) × (place.faults < last_count)

-- the track that passes under a head. Nothing is recorded where the medium has no such track, or has another rate
abbrev pub track_at : Place → ℕ → List ℕ
track_at place head =
    if nat_lt place.cylinder place.disk.cylinders && nat_lt head place.disk.heads && rate_fits place.rate place.disk.rate
    then track_of place.disk place.cylinder head else unrecorded place.disk.words_per_track

-- the track that passes while the command stands at a sector
abbrev pub track_under : Place → Transfer → List ℕ
track_under place at = track_at place (head_of at.head_drive)

-- DOR selects the bay, the medium is in, its motor is on, whatever its speed, and the heads are over the cylinder
pub record IsAt (place : Place) (front : Front) : Type 0 where
  pub bay : place.bay ≤ 1
  pub disk : IsDisk place.disk
  pub selects : selected_at front.adapter ≡ place.bay
  pub rate : front.adapter.controller.rate ≡ place.rate
  pub medium : (drive_at front.adapter place.bay).medium ≡ Some place.disk
  pub cylinder : (drive_at front.adapter place.bay).cylinder ≡ place.cylinder
  pub motor : (drive_at front.adapter place.bay).motor ≡ true
  pub inside : (drive_at front.adapter place.bay).place < place.disk.words_per_track
  pub clean : IsClean place front

-- this holds while a sector is moved. Once results are given, no word of the last sector was lost
abbrev pub IsAtWhile : FrontStage → Place → Front → Type 0
IsAtWhile (Moving moving) place front = IsAt place front
IsAtWhile (Telling results) place front = IsClean place front
IsAtWhile _ place front = Unit {0}

-- the medium turns on: its place stays, and it stays at speed if it was at speed
pub record TurnsOn (old new : DriveState) : Type 0 where
  pub place : new.place ≡ old.place
  pub never_falls : old.faults ≤ new.faults
  pub keeps_speed : 6250 ≤ old.spin → 6250 ≤ new.spin

-- the medium turns on where another one is put in or taken out while a sector is moved
abbrev pub TurnsOnIn : FrontStage → Call → DriveState → DriveState → Type 0
TurnsOnIn (Moving moving) Changes old new = TurnsOn old new
TurnsOnIn _ _ old new = Unit {0}

-- the medium stays in through all calls
abbrev pub StaysIn : Place → (calls : List Call) (old new : Front) → AreWithin calls old new → Type 0
StaysIn place [] old new same = IsAtWhile old.stage place old
StaysIn place (call ∷ calls) old new within =
    IsAtWhile old.stage place old × TurnsOnIn old.stage call (drive_at old.adapter place.bay) (drive_at within.0.adapter place.bay)
    × StaysIn place calls within.0 new within.3

-- the track has a field of the key, intact, with this mark and content
pub record HasOnTrack (track : List ℕ) (key : Chrn) (marked : Bool) (content : List ℕ) : Type 0 where
  pub spot : ℕ
  pub mark : ℕ
  pub address_field : IsAddressAt track spot key
  pub data_mark : IsDataMark track spot mark marked
  pub whole : IsWhole track mark key.n content

-- the track has an address field of the key, and after it a data mark with this value. The data field may be whole or
-- not
pub record HasMarkOnTrack (track : List ℕ) (key : Chrn) (marked : Bool) : Type 0 where
  pub spot : ℕ
  pub mark : ℕ
  pub address_field : IsAddressAt track spot key
  pub data_mark : IsDataMark track spot mark marked

-- a sector that is over, with a mark that is wanted, stands on the medium under its head. What was given of the sector
-- is its content
pub record IsGivenOf (place : Place) (operation : Operation) (part : Part) : Type 0 where
  pub wanted : is_other operation part.marked ≡ false
  pub field : HasOnTrack (track_under place part.at) part.at.key part.marked part.past.given

-- the mark of a sector that is over stands on the medium. This mark isn't wanted, fields with such a mark are passed
-- over, and nothing was given
pub record IsPassedOn (place : Place) (operation : Operation) (part : Part) : Type 0 where
  pub skips : is_skipping operation ≡ true
  pub other : is_other operation part.marked ≡ true
  pub field : HasMarkOnTrack (track_under place part.at) part.at.key part.marked
  pub none : part.past.given ≡ []

abbrev pub IsOnMedium : Place → Operation → Part → Type 0
IsOnMedium place operation part = IsGivenOf place operation part ⊎ IsPassedOn place operation part

abbrev pub AreOnMedium : Place → Operation → List Part → Type 0
AreOnMedium place operation [] = Unit {0}
AreOnMedium place operation (part ∷ parts) = IsOnMedium place operation part × AreOnMedium place operation parts

-- where the last sector was found too, it stands on the medium. What was given of it is a first part of the content of
-- that very field
abbrev pub LastOnMedium : Place → Transfer → Past → Bool → Type 0
LastOnMedium place at past marked =
    (content : List ℕ) × HasOnTrack (track_under place at) at.key marked content × ((rest : List ℕ) × (content ≡ past.given ++ rest))

-- the bytes are the first ones after a data mark of an address field of the key on the track
pub record BeginsOnTrack (track : List ℕ) (key : Chrn) (bytes : List ℕ) : Type 0 where
  pub spot : ℕ
  pub mark : ℕ
  pub marked : Bool
  pub address_field : IsAddressAt track spot key
  pub data_mark : IsDataMark track spot mark marked
  pub count : ℕ
  pub rest : List ℕ
  pub bytes_are : bytes_at track (mark + 64) count ≡ bytes ++ rest

-- what a read heard and gave is the medium's. This holds of each sector that is over, and of the last one if it was
-- found, whole or passed over. If no word is lost, the last sector is missed only for one of these reasons:
-- - the track has no clear address field of its key;
-- - the track has no address mark;
-- - an address field of its key has no data field, or one that isn't intact.
pub record IsReadFrom (place : Place) (first : Transfer) (history : History) : Type 0 where
  pub parts : AreOnMedium place first.opcode.operation history.parts
  pub last : let at = sector_after (length history.parts) first in
      (marked : Bool) → FindsSector history.past at.key history.past.given marked → LastOnMedium place at history.past marked
  pub passed : let at = sector_after (length history.parts) first in
      (marked : Bool) → FindsField history.past at.key marked → HasMarkOnTrack (track_under place at) at.key marked
  pub given : place.clean ≡ true → let at = sector_after (length history.parts) first in
      (history.past.given ≡ []) ⊎ BeginsOnTrack (track_under place at) at.key history.past.given
  pub missed : place.clean ≡ true → let at = sector_after (length history.parts) first in
      FindsNoSector history.past (Some at.key) → HasNoClear (Some at.key) (track_under place at)
  pub bare : place.clean ≡ true → let at = sector_after (length history.parts) first in
      FindsNoMark history.past → HasAddressMark (track_under place at) → ⊥
  pub no_field : place.clean ≡ true → let at = sector_after (length history.parts) first in
      FindsNoField history.past at.key → HasLook (track_under place at) at.key NoData
  pub bad_check : place.clean ≡ true → let at = sector_after (length history.parts) first in
      FindsBadCheck history.past at.key → HasLook (track_under place at) at.key BadCrc
