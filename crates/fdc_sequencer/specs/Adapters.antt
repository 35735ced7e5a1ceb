-- A controller with two drives, as contracts see it.
use Rattle.std.specs.Prelude.{◌≡◌, ◌≤◌, zero, suc, ℕ, ◌==◌, if◌then◌else◌, false, not, ◌&&◌, Bool, true, Option, Some, None}
use Rattle.fdc_sequencer.specs.Common.{DriveState, with_motor, HoldsLines, byte_out, taken_out, taken_in, to_memory_of, Writes, at_power_up, asks, interrupts, Fdc, Lines, PassesWordTime}
use Rattle.fdc_core.specs.Drives.Following.{FollowsWrite}
use Rattle.fdc_core.specs.Drives.Lines.{lines_of_selected, selected_by}
use Rattle.fdc_sequencer.specs.declared.adapter.DisketteAdapter.{DisketteAdapter}

-- the controller and the states of both drives
pub record AdapterState : Type 0 where
  pub controller : Fdc
  pub first : DriveState
  pub second : DriveState

abbrev pub adapter_state : {D : Type 0} → (D → DriveState) → DisketteAdapter D → AdapterState
adapter_state state adapter = record { controller = adapter.controller; first = state adapter.first; second = state adapter.second }

abbrev pub controller_of : {D : Type 0} → DisketteAdapter D → Fdc
controller_of adapter = adapter.controller

-- both drives are as they were
pub record SameDrives {D : Type 0} (old new : DisketteAdapter D) : Type 0 where
  pub first : new.first ≡ old.first
  pub second : new.second ≡ old.second

-- the drive in a bay, as contracts see it: bay 0 has the first, and bay 1 the second
abbrev pub drive_at : AdapterState → ℕ → DriveState
drive_at adapter bay = if bay == 0 then adapter.first else adapter.second

-- the drive in a bay itself
abbrev pub drive_held : {D : Type 0} → DisketteAdapter D → ℕ → D
drive_held adapter bay = if bay == 0 then adapter.first else adapter.second

-- the adapter with this drive in a bay
abbrev pub adapter_with_drive : {D : Type 0} → ℕ → D → DisketteAdapter D → DisketteAdapter D
adapter_with_drive bay drive adapter = if bay == 0 then record adapter { first = drive } else record adapter { second = drive }

-- the drive that DOR selects; drives 2 and 3 are absent
abbrev pub selected_at : AdapterState → ℕ
selected_at adapter = selected_by adapter.controller

-- the lines of the selected drive
abbrev pub lines_at : AdapterState → Lines
lines_at adapter = lines_of_selected (selected_at adapter) adapter.first adapter.second

-- a new adapter with these drives
pub record IsNewAdapter (bay0 bay1 : DriveState) (new : AdapterState) : Type 0 where
  pub controller : new.controller ≡ at_power_up
  pub first : new.first ≡ with_motor false bay0
  pub second : new.second ≡ with_motor false bay1

-- a byte is written to a port, and both drives follow the write, whichever of them DOR selects
pub record WritesAdapter (port value : ℕ) (old new : AdapterState) : Type 0 where
  pub writes : Writes port value (lines_at old) old.controller new.controller
  pub first : FollowsWrite port value 0 new.controller old.first new.first
  pub second : FollowsWrite port value 1 new.controller old.second new.second

-- the channel takes a byte, if the controller asks for one in this direction
abbrev pub Takes : Fdc → Option ℕ → Fdc → Type 0
Takes old (Some byte) new = ((asks old && to_memory_of old) ≡ true) × (byte ≡ byte_out old) × (new ≡ taken_out old)
Takes old None new = ((asks old && to_memory_of old) ≡ false) × (new ≡ old)

-- the channel gives a byte, if the controller asks for one in this direction
abbrev pub Gives : ℕ → Fdc → Bool → Fdc → Type 0
Gives byte old true new = ((asks old && not (to_memory_of old)) ≡ true) × (new ≡ taken_in byte old)
Gives byte old false new = ((asks old && not (to_memory_of old)) ≡ false) × (new ≡ old)

-- ---- device steps

-- these are the interrupt line and the request line
abbrev pub HasLines : Bool → Bool → AdapterState → Type 0
HasLines int drq adapter = (interrupts adapter.controller ≡ int) × (asks adapter.controller ≡ drq)

-- one device step: that of the controller with the selected drive, and the word time of the other drives
abbrev pub StepsAdapter : AdapterState → AdapterState → Type 0
StepsAdapter old new = PassesWordTime (selected_at old) old.controller old.first old.second new.controller new.first new.second

-- this many device steps, in which neither line changes, no data command ends and no data mark is met
unfoldable pub LeapsAdapter : ℕ → AdapterState → AdapterState → Type 0
LeapsAdapter zero old new = new ≡ old
LeapsAdapter (suc n) old new = (between : AdapterState) × StepsAdapter old between × HoldsLines old.controller between.controller × LeapsAdapter n between new

-- this many device steps, each of which begins with these lines
unfoldable pub RunsWith : Bool → Bool → ℕ → AdapterState → AdapterState → Type 0
RunsWith int drq zero old new = new ≡ old
RunsWith int drq (suc n) old new = (between : AdapterState) × RunsWith int drq n old between × HasLines int drq between × StepsAdapter between new

-- device steps until a line changes, at most `most`
pub record RunsTo (most : ℕ) (old : AdapterState) (steps : ℕ) (new : AdapterState) : Type 0 where
  pub within : steps ≤ most
  pub runs : RunsWith (interrupts old.controller) (asks old.controller) steps old new
  pub all : HasLines (interrupts old.controller) (asks old.controller) new → steps ≡ most
