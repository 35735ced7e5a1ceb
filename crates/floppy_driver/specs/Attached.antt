-- How a driver and its machine have to agree between two calls.
use Rattle.std.specs.Prelude.{◌≡◌, ℕ, ◌<◌, ◌≤◌, Bool, true, Option, Some, None}
use Rattle.floppy_driver.specs.Common.{last_count, Disk}
use Rattle.floppy_driver.specs.Rigs.{Rig}
use Rattle.floppy_driver.specs.Shown.{is_held}
use Rattle.floppy_driver.specs.declared.driver.Notes.{Notes}
use Rattle.floppy_driver.specs.declared.driver.Driver.{Driver}

-- the notes on a bay agree with its drive: its medium, change line, speed, the controller's number, the cylinder under
-- the heads, and the count of faults
pub record IsNoted (notes : Notes) (medium : Option Disk) (changed at_speed : Bool) (pcn cylinder faults : ℕ) : Type 0 where
  -- an empty drive has its change line set
  pub empty : medium ≡ None → changed ≡ true
  -- a held bay is at speed, and the fault count of its drive is at least the kept count
  pub spun : is_held notes changed ≡ true → at_speed ≡ true
  pub kept : is_held notes changed ≡ true → notes.kept ≤ faults
  -- a known cylinder is the controller's number. The heads stand there if no fault came since the bay was acknowledged
  pub number : (c : ℕ) → notes.known ≡ Some c → pcn ≡ c
  pub range : (c : ℕ) → notes.known ≡ Some c → c ≤ 79
  pub stands : (c : ℕ) → notes.known ≡ Some c → is_held notes changed ≡ true → faults ≡ notes.kept → faults < last_count
      → cylinder ≡ c

pub record IsAttached (driver : Driver) (rig : Rig) : Type 0 where
  pub first : IsNoted driver.first rig.media.first rig.changes.first rig.spun.first rig.numbers.first rig.cylinders.first rig.counters.drives.first.faults
  pub second : IsNoted driver.second rig.media.second rig.changes.second rig.spun.second rig.numbers.second rig.cylinders.second rig.counters.drives.second.faults

-- a machine can be set up if each empty drive has its change line set
pub record CanSetUp (rig : Rig) : Type 0 where
  pub first : rig.media.first ≡ None → rig.changes.first ≡ true
  pub second : rig.media.second ≡ None → rig.changes.second ≡ true
