-- What a drive with planned faults shows, and when the faults come.
use Rattle.std.specs.Prelude.{◌≡◌, ℕ, ◌+◌, ◌<◌, Bool, false, ◌&&◌, nat_lt, min, if◌then◌else◌, List, Option, Some, None}
use Rattle.flop_base.specs.Counts.{last_count}
use Rattle.drive_model.specs.Drive.{DriveState, at_speed, can_write}
use Rattle.drive_model.specs.Fault.{comes, spent, total_left}
use Rattle.drive_model.specs.Mechanics.{state_of}
use Rattle.drive_model.specs.declared.fault.Fault.{Fault}
use Rattle.drive_model.specs.declared.fault.Event.{Event}
use Rattle.drive_model.specs.declared.fault.Event.TheVariants.{Read, Write, Pulse}
use Rattle.drive_model.specs.declared.script.ScriptDrive.{ScriptDrive}

-- the faults that are planned
abbrev pub script_of : ScriptDrive → List Fault
script_of drive = drive.plan

-- the faults that can still come, told only where the count can take them all
abbrev pub told : ℕ → ℕ → Option ℕ
told counted left = if nat_lt (counted + left) last_count then Some left else None

-- the state of a drive with planned faults
abbrev pub script_state : ScriptDrive → DriveState
script_state drive = state_of drive.mechanics drive.faults (told drive.faults (total_left drive.plan))

-- a read of the word that passes under a head
abbrev pub read_of : DriveState → ℕ → Event
read_of s head = Read s.cylinder head s.place

-- a write of the word that passes under a head
abbrev pub write_of : DriveState → ℕ → Event
write_of s head = Write s.cylinder head s.place

-- a pulse
abbrev pub pulse_of : DriveState → Bool → Event
pulse_of s inward = Pulse s.cylinder inward

-- the word that passes drops out
abbrev pub drops : ScriptDrive → ℕ → Bool
drops drive head = at_speed (script_state drive) && comes (script_of drive) (read_of (script_state drive) head)

-- none of the next so many words of the track under a head drops out
abbrev pub NoneComes : ℕ → ℕ → ScriptDrive → Type 0
NoneComes head count drive =
    (i : ℕ) → i < count → comes (script_of drive) (Read (script_state drive).cylinder head ((script_state drive).place + i)) ≡ false

-- the open gate is cut
abbrev pub cuts : ScriptDrive → ℕ → Bool
cuts drive head = can_write (script_state drive) && comes (script_of drive) (write_of (script_state drive) head)

-- the pulse is lost
abbrev pub loses : ScriptDrive → Bool → Bool
loses drive inward = comes (script_of drive) (pulse_of (script_state drive) inward)

-- where a fault came at the event, it is taken off the list and counted; else the list and the count are as before
pub record Accounts (came : Bool) (event : Event) (old new : ScriptDrive) : Type 0 where
  pub script : script_of new ≡ (if came then spent (script_of old) event else script_of old)
  pub count : (script_state new).faults ≡ (if came then min ((script_state old).faults + 1) last_count else (script_state old).faults)

-- no fault came
pub record NoFault (old new : ScriptDrive) : Type 0 where
  pub script : script_of new ≡ script_of old
  pub count : (script_state new).faults ≡ (script_state old).faults
