-- What calls past the driver make of a machine. A medium is put in or taken out, a drive is exchanged, or a byte of
-- user memory is set.
use Rattle.std.specs.Prelude.{◌≡◌, ◌≤◌, ◌-◌, ℕ, true, slice_set, Option, Some, None, IsSome, Result, Ok, Err}
use Rattle.raw_image.specs.Disk.{Disk}
use Rattle.machine_commands.specs.Common.{in_bay, with_bay, Counters, DriveCounts, DriveGoesOn, GoesOn, IsPastDriver, Rig}

-- nothing but counts was changed
pub record Untouched (old new : Rig) : Type 0 where
  pub media : new.media ≡ old.media
  pub changes : new.changes ≡ old.changes
  pub spun : new.spun ≡ old.spun
  pub cylinders : new.cylinders ≡ old.cylinders
  pub numbers : new.numbers ≡ old.numbers
  pub memory : new.memory ≡ old.memory
  pub page : new.page ≡ old.page
  pub counts : GoesOn old.counters new.counters
  pub past_driver : IsPastDriver 1 old.counters new.counters
  pub taken : new.counters.taken ≡ old.counters.taken

-- ---- media

-- a bay has another medium, or none, and its change line is set
pub record Exchanged (bay : ℕ) (medium : Option Disk) (old new : Rig) : Type 0 where
  pub media : new.media ≡ with_bay old.media bay medium
  pub changes : new.changes ≡ with_bay old.changes bay true
  pub other_spun : in_bay new.spun (1 - bay) ≡ in_bay old.spun (1 - bay)
  pub cylinders : new.cylinders ≡ old.cylinders
  pub numbers : new.numbers ≡ old.numbers
  pub memory : new.memory ≡ old.memory
  pub page : new.page ≡ old.page
  pub counts : GoesOn old.counters new.counters
  pub past_driver : IsPastDriver 1 old.counters new.counters
  pub taken : new.counters.taken ≡ old.counters.taken

-- a medium was put into an empty bay; or a medium was in, and the new one was given back
abbrev pub PutsIn : ℕ → Disk → Rig → Result (Unit {0}) Disk → Rig → Type 0
PutsIn bay medium old (Ok _) new = (in_bay old.media bay ≡ None) × Exchanged bay (Some medium) old new
PutsIn bay medium old (Err back) new = IsSome (in_bay old.media bay) × (back ≡ medium) × Untouched old new

-- the medium of a bay was taken out, where one was in
pub record TakesOut (bay : ℕ) (old : Rig) (answer : Option Disk) (new : Rig) : Type 0 where
  pub medium : answer ≡ in_bay old.media bay
  pub taken_out : IsSome answer → Exchanged bay None old new
  pub empty : answer ≡ None → Untouched old new

-- ---- drives

-- how counters go on where a drive with these counts takes the place of the one in a bay
pub record TakesDrive (bay : ℕ) (counts : DriveCounts) (old new : Counters) : Type 0 where
  pub drive : DriveGoesOn counts (in_bay new.drives bay)
  pub other : in_bay new.drives (1 - bay) ≡ in_bay old.drives (1 - bay)
  pub spares : new.spares ≡ old.spares
  pub stalls : new.stalls ≡ old.stalls
  pub stalls_left : new.stalls_left ≡ old.stalls_left
  pub taken : new.taken ≡ old.taken
  pub data_commands : new.data_commands ≡ old.data_commands
  pub direct : old.direct ≤ new.direct
  pub past_driver : IsPastDriver 1 old new

-- a drive with these counts and no medium took the place of the one in a bay
pub record ExchangesDrive (bay : ℕ) (counts : DriveCounts) (old new : Rig) : Type 0 where
  pub media : new.media ≡ with_bay old.media bay None
  pub changes : new.changes ≡ with_bay old.changes bay true
  pub other_spun : in_bay new.spun (1 - bay) ≡ in_bay old.spun (1 - bay)
  pub other_cylinder : in_bay new.cylinders (1 - bay) ≡ in_bay old.cylinders (1 - bay)
  pub numbers : new.numbers ≡ old.numbers
  pub memory : new.memory ≡ old.memory
  pub page : new.page ≡ old.page
  pub counters : TakesDrive bay counts old.counters new.counters

-- ---- memory

-- a byte of user memory was set
pub record PutsMemory (address byte : ℕ) (old new : Rig) : Type 0 where
  pub memory : new.memory ≡ slice_set old.memory address byte
  pub media : new.media ≡ old.media
  pub changes : new.changes ≡ old.changes
  pub spun : new.spun ≡ old.spun
  pub cylinders : new.cylinders ≡ old.cylinders
  pub numbers : new.numbers ≡ old.numbers
  pub page : new.page ≡ old.page
  pub counts : GoesOn old.counters new.counters
  pub past_driver : IsPastDriver 1 old.counters new.counters
  pub taken : new.counters.taken ≡ old.counters.taken
