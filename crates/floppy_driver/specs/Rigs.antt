-- A machine as its driver sees it, between two commands.
use Rattle.std.specs.Prelude.{◌≡◌, ℕ, ◌+◌, ◌*◌, ◌<◌, ◌≤◌, ◌^◌, Bool, true, List, length, slice_index, Option, IfSome}
use Rattle.floppy_driver.specs.Common.{Disk, IsDisk, Rate, Two, in_bay, CostsUpTo, Counters, GoesOn, IsDriven, user_bytes, met_in, turn_of}

pub record Rig : Type 0 where
  -- the medium in each bay
  pub media : Two (Option Disk)
  -- the cylinder under the heads of each drive
  pub cylinders : Two ℕ
  -- the cylinder number that the controller keeps of each drive
  pub numbers : Two ℕ
  -- the change line of each drive. An exchange of the medium sets it, until a pulse comes while a medium is in
  pub changes : Two Bool
  -- whether a medium is in each drive and turns at speed
  pub spun : Two Bool
  -- user memory
  pub memory : List ℕ
  -- the page of memory above it, which is the driver's
  pub page : List ℕ
  pub counters : Counters

-- the bytes of the driver's page
abbrev pub page_bytes : ℕ
page_bytes = 65536

-- a memory of `count` bytes
pub record AreBytes (memory : List ℕ) (count : ℕ) : Type 0 where
  pub length : length memory ≡ count
  pub bytes : (k : ℕ) → slice_index memory k < 2 ^ 8

-- the values of a machine are within their ranges
pub record IsSound (rig : Rig) : Type 0 where
  pub first : IfSome rig.media.first IsDisk
  pub second : IfSome rig.media.second IsDisk
  pub memory : AreBytes rig.memory user_bytes
  pub page : AreBytes rig.page page_bytes
  pub first_cylinder : rig.cylinders.first ≤ 82
  pub second_cylinder : rig.cylinders.second ≤ 82

-- what a command at this rate meets of the track under a head
abbrev pub track_under : Rig → ℕ → Rate → ℕ → List ℕ
track_under rig bay rate head = met_in (in_bay rig.media bay) rate (in_bay rig.cylinders bay) head

-- the device steps of one revolution of the medium in a bay, or 0 if there is none
abbrev pub turn_in : Rig → ℕ → ℕ
turn_in rig bay = turn_of (in_bay rig.media bay)

-- a call costs at most `turns` revolutions of the medium in a bay, `steps` device steps, and `accesses` port accesses. A
-- revolution stays as long as it was
pub record CostsFor (bay turns steps accesses : ℕ) (old new : Rig) : Type 0 where
  pub turn : turn_in new bay ≡ turn_in old bay
  pub costs : CostsUpTo (turns * turn_in old bay + steps) accesses old.counters new.counters

-- a drive that is at speed stays so
pub record StaysSpun (old new : Two Bool) : Type 0 where
  pub first : old.first ≡ true → new.first ≡ true
  pub second : old.second ≡ true → new.second ≡ true

-- heads, numbers and change lines stay
pub record HeadsStay (old new : Rig) : Type 0 where
  pub cylinders : new.cylinders ≡ old.cylinders
  pub numbers : new.numbers ≡ old.numbers
  pub changes : new.changes ≡ old.changes
  pub spun : StaysSpun old.spun new.spun

-- the controller was reset: the numbers that it keeps, the speed of media and counters may change, and nothing else
-- does
pub record IsReset (old new : Rig) : Type 0 where
  pub media : new.media ≡ old.media
  pub cylinders : new.cylinders ≡ old.cylinders
  pub changes : new.changes ≡ old.changes
  pub memory : new.memory ≡ old.memory
  pub page : new.page ≡ old.page
  pub counts : GoesOn old.counters new.counters
  pub driven : IsDriven 0 old.counters new.counters

-- a call that only asked: it changed nothing and sent no data command
pub record OnlyAsks (old new : Rig) : Type 0 where
  pub heads : HeadsStay old new
  pub media : new.media ≡ old.media
  pub memory : new.memory ≡ old.memory
  pub page : new.page ≡ old.page
  pub counts : GoesOn old.counters new.counters
  pub driven : IsDriven 0 old.counters new.counters
