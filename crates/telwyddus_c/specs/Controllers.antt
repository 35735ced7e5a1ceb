-- Calls on the controller.
use Rattle.std.specs.Prelude.{◌≤◌, ◌≡◌, ◌↔◌, ◌+◌, ◌-◌, ◌==◌, ℕ, Bool, true, false, Option, Some, None, is_some, IsTrue, IsBitSet, if◌then◌else◌}
use Rattle.telwyddus_c.specs.Common.{bay_state, new_in_bay, ControllerValue, TrayValue, DriveState, forgotten, SameDrives, drive_at, selected_at, ChipState, chip_state, behind_of, IsNewChip, KeepsChip, interrupts_chip, asks_chip, indexes_chip, TakesChip, GivesChip, dor_of, adapter_of}
use Rattle.fdc_core.specs.Dma.{to_memory_of}
use Rattle.telwyddus_c.specs.Media.{Inserts, Ejects}
use Rattle.telwyddus_c.specs.Slots.{DoneOr}

-- the controller with the states of both drives, what is under way, and what commands set
abbrev pub state_of : ControllerValue → ChipState
state_of controller = chip_state bay_state controller

-- both drives are as they were
abbrev pub KeepsDrives : ControllerValue → ControllerValue → Type 0
KeepsDrives old new = SameDrives (adapter_of (behind_of old)) (adapter_of (behind_of new))

-- a new controller whose drives have no faults
abbrev pub IsPlain : ControllerValue → Type 0
IsPlain controller = IsNewChip (new_in_bay (Some 0)) (new_in_bay (Some 0)) (state_of controller)

-- the drive in a bay
abbrev pub drive_of : ControllerValue → ℕ → DriveState
drive_of controller bay = drive_at (state_of controller).front.adapter bay

-- the lines in a byte: 1 is the interrupt line, 2 the request line, 4 the direction to memory, and 8 the index of the
-- selected drive
abbrev pub lines_byte : ChipState → ℕ
lines_byte chip = (if interrupts_chip chip then 1 else 0) + (if asks_chip chip then 2 else 0)
    + (if to_memory_of chip.front.adapter.controller then 4 else 0) + (if indexes_chip chip then 8 else 0)

-- the lines are reported if a slot holds a controller. Otherwise what was reported stays
abbrev pub TellsLines : Option ControllerValue → (was told : ℕ) → Type 0
TellsLines None was told = told ≡ was
TellsLines (Some controller) was told = told ≡ lines_byte (state_of controller)

-- the channel takes a byte: code 0. If no byte is asked for in this direction the code is 8
abbrev pub TakesByte : ℕ → ChipState → (was byte : ℕ) → ChipState → Type 0
TakesByte code old was byte new = DoneOr 8 code (TakesChip old (Some byte) new) (TakesChip old None new × (byte ≡ was))

-- the channel gives a byte: code 0. If no byte is asked for in this direction the code is 8
abbrev pub GivesByte : ℕ → ℕ → ChipState → ChipState → Type 0
GivesByte byte code old new = DoneOr 8 code (GivesChip byte old true new) (GivesChip byte old false new)

-- seeks are implied, or left to CONFIGURE. All else stays
pub record StrapsSeeks (on : Bool) (old new : ControllerValue) : Type 0 where
  pub strapped : state_of new ≡ record (state_of old) { strapped = on }
  pub drives : KeepsDrives old new

-- pulses come in the time that SPECIFY sets, or one in each word time. All else stays
pub record StrapsSteps (on : Bool) (old new : ControllerValue) : Type 0 where
  pub strapped : state_of new ≡ record (state_of old) { paced = on }
  pub drives : KeepsDrives old new

-- the controller and the drive of the other bay stay
pub record KeepsBeside (bay : ℕ) (old new : ChipState) : Type 0 where
  pub chip : KeepsChip old new
  pub other : drive_at new.front.adapter (1 - bay) ≡ drive_at old.front.adapter (1 - bay)

-- the medium of a tray goes into a bay
pub record InsertsAt (bay code : ℕ) (tray left : Option TrayValue) (old new : ControllerValue) : Type 0 where
  pub drive : Inserts code tray left (drive_of old bay) (drive_of new bay)
  pub beside : KeepsBeside bay (state_of old) (state_of new)

-- the medium of a bay goes into a tray
pub record EjectsAt (bay code : ℕ) (tray left : Option TrayValue) (old new : ControllerValue) : Type 0 where
  pub drive : Ejects code tray left (drive_of old bay) (drive_of new bay)
  pub beside : KeepsBeside bay (state_of old) (state_of new)

-- 1 or 0 is reported: whether a word of the medium in a bay was replaced since it was put in, or since this sign was
-- last forgotten
pub record ShowsWritten (bay : ℕ) (controller : ControllerValue) (told : ℕ) : Type 0 where
  pub is : (told == 1) ≡ (drive_of controller bay).replaced
  pub bit : told ≤ 1

-- the sign is reported, and forgotten. All else stays
pub record TellsWritten (bay : ℕ) (old : ControllerValue) (told : ℕ) (new : ControllerValue) : Type 0 where
  pub was : ShowsWritten bay old told
  pub forgets : drive_of new bay ≡ forgotten (drive_of old bay)
  pub beside : KeepsBeside bay (state_of old) (state_of new)

-- what a front end shows of a bay: the cylinder under the heads, and in a byte 1 for the motor, 2 for the selection, 4
-- for the write gate and 8 for a medium
pub record Shows (bay : ℕ) (controller : ControllerValue) (cylinder signs : ℕ) : Type 0 where
  pub cylinder_is : cylinder ≡ (drive_of controller bay).cylinder
  pub motor : Bool
  pub turns : IsTrue motor ↔ IsBitSet (dor_of (state_of controller).front.adapter.controller) (4 + bay)
  pub signs_are : signs ≡ (if motor then 1 else 0) + (if selected_at (state_of controller).front.adapter == bay then 2 else 0)
      + (if (drive_of controller bay).gate then 4 else 0) + (if is_some (drive_of controller bay).medium then 8 else 0)
