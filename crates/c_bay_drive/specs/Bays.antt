-- The drive of a bay. It has planned faults, it reports the tracks that were written, and its cable can be pulled.
use Rattle.std.specs.Prelude.{◌≡◌, ℕ, Bool, true, false, not, List, Option, Some, None, is_some}
use Rattle.std.specs.Bool.{OnTrue, OnFalse}
use Rattle.flop_base.specs.Counts.{RoseOnce}
use Rattle.drive_model.specs.Drive.{DriveState, Becomes, cut_off, moved, passed, word_under, written}
use Rattle.drive_model.specs.Fault.{total_left}
use Rattle.drive_model.specs.Mechanics.{at_rest}
use Rattle.drive_model.specs.ScriptDrive.{Accounts, cuts, drops, loses, pulse_of, read_of, script_of, script_state, told, write_of}
use Rattle.drive_model.specs.declared.fault.Fault.{Fault}
use Rattle.drive_model.specs.Maps.{no_tracks}
use Rattle.c_bay_drive.specs.declared.bay.BayDrive.{BayDrive}
use Rattle.c_bay_drive.specs.declared.cable.Pulled.{Pulled}

-- what is seen through a cable that may be pulled: the cylinder, the change line, the count of faults, and what is left
-- of the faults. Through a pulled cable, the heads stand beyond the last track that a medium has. They are therefore
-- never over cylinder 0, and no word is heard or written. Each pulse is lost and counted
abbrev pub cylinder_by : Option Pulled → ℕ → ℕ
cylinder_by None cylinder = cylinder
cylinder_by (Some pulled) cylinder = 82

abbrev pub change_by : Option Pulled → Bool → Bool
change_by None change = change
change_by (Some pulled) change = pulled.change

abbrev pub faults_by : Option Pulled → ℕ → ℕ
faults_by None faults = faults
faults_by (Some pulled) faults = pulled.lost

abbrev pub left_by : Option Pulled → Option ℕ → Option ℕ
left_by None left = left
left_by (Some pulled) left = None

-- a drive as it is seen through a cable, with `replaced` for whether a word of the medium was replaced, and with this
-- map of written tracks
abbrev pub told_by : Option Pulled → Bool → List ℕ → DriveState → DriveState
told_by pulled replaced tracks s = record s {
  cylinder = cylinder_by pulled s.cylinder;
  change = change_by pulled s.change;
  replaced = replaced;
  marks = Some tracks;
  cable = not (is_some pulled);
  faults = faults_by pulled s.faults;
  left = left_by pulled s.left;
}

-- the state of the drive of a bay, as it is seen through its cable
abbrev pub bay_state : BayDrive → DriveState
bay_state bay = told_by bay.pulled bay.replaced bay.tracks (script_state bay.inside)

-- the cable of the drive is in
abbrev pub is_attached : BayDrive → Bool
is_attached bay = not (is_some bay.pulled)

-- the drive itself, whether its cable is in or not
abbrev pub drive_in_bay : BayDrive → BayDrive
drive_in_bay bay = record bay { pulled = None }

-- the planned faults that can still come
abbrev pub faults_in_bay : BayDrive → List Fault
faults_in_bay bay = script_of bay.inside

-- the tracks that were written since they were last asked for
abbrev pub tracks_in_bay : BayDrive → List ℕ
tracks_in_bay bay = bay.tracks

-- a drive as it comes into a bay, with no track in its map
abbrev pub new_in_bay : Option ℕ → DriveState
new_in_bay left = record (at_rest left) { marks = Some no_tracks }

-- the drive behind the cable as it is itself, whatever is seen through the cable
abbrev pub drive_within : BayDrive → DriveState
drive_within bay = script_state bay.inside

-- the same drive with no track in its map
abbrev pub without_tracks : BayDrive → BayDrive
without_tracks bay = record bay { tracks = no_tracks }

-- the state once other faults are planned; through a pulled cable nothing is seen of them
abbrev pub state_replanned : List Fault → BayDrive → DriveState
state_replanned faults bay = record (bay_state bay) {
  left = left_by bay.pulled (told (drive_within bay).faults (total_left faults));
}

-- the state once the cable is pulled, or put in. If the cable is pulled only now, no pulse was lost yet, and the change
-- line is down
abbrev pub state_with_cable : Bool → BayDrive → DriveState
state_with_cable true bay = bay_state (drive_in_bay bay)
state_with_cable false bay = record (bay_state bay) {
  cylinder = 82;
  change = change_by bay.pulled false;
  faults = faults_by bay.pulled 0;
  left = None;
  cable = false;
}

-- a pulled cable, with the change line up; a cable that is in stays as it is
abbrev pub with_change : Option Pulled → Option Pulled
with_change None = None
with_change (Some pulled) = Some (record pulled { change = true })

-- ---- what a call makes of the drive behind the cable

-- one statement if the cable is in, and another if it is pulled
abbrev pub ByCable : Option Pulled → Type 0 → Type 0 → Type 0
ByCable None attached pulled = attached
ByCable (Some _) attached pulled = pulled

-- the drive becomes this, and no fault comes: the planned faults stay
pub record BecomesWithin (target : DriveState) (old new : BayDrive) : Type 0 where
  pub state : drive_within new ≡ target
  pub script : faults_in_bay new ≡ faults_in_bay old

-- a pulse that reached the drive, lost or not: the faults that came are off the list, and counted
pub record IsPulsedWithin (lost : Bool) (inward : Bool) (old new : BayDrive) : Type 0 where
  pub moves : OnFalse lost (Becomes (moved inward (drive_within old)) (drive_within old) (drive_within new))
  pub stays : OnTrue lost (Becomes (drive_within old) (drive_within old) (drive_within new))
  pub accounts : Accounts lost (pulse_of (drive_within old) inward) old.inside new.inside

-- a pulse by a pulled cable: it doesn't reach the drive, and one more is counted as lost
pub record LosesPulse (old new : BayDrive) : Type 0 where
  pub within : BecomesWithin (drive_within old) old new
  pub lost : RoseOnce (bay_state old).faults (bay_state new).faults

-- a word time by a pulled cable: the drive becomes this, and no pulse is lost
pub record PassesPulled (target : DriveState) (old new : BayDrive) : Type 0 where
  pub within : BecomesWithin target old new
  pub lost : (bay_state new).faults ≡ (bay_state old).faults

-- a word that was heard, or that dropped out; the drive becomes the target
pub record IsHeardWithin (drops : Bool) (head word : ℕ) (target : DriveState) (old new : BayDrive) : Type 0 where
  pub becomes : Becomes target (drive_within old) (drive_within new)
  pub dropped : OnTrue drops (word ≡ 0)
  pub read : OnFalse drops (word ≡ word_under (drive_within old) head)
  pub accounts : Accounts drops (read_of (drive_within old) head) old.inside new.inside

-- a word that was given to the drive, or at which its gate was cut
pub record IsWrittenWithin (cut : Bool) (head word : ℕ) (old new : BayDrive) : Type 0 where
  pub stops : OnTrue cut (Becomes (cut_off (bay_state old)) (bay_state old) (bay_state new))
  pub writes : OnFalse cut (Becomes (written head word (bay_state old)) (bay_state old) (bay_state new))
  pub accounts : Accounts cut (write_of (drive_within old) head) old.inside new.inside

-- a pulse is lost if the plan says so. With a pulled cable no pulse reaches the drive
abbrev pub PulsesWithin : Bool → BayDrive → BayDrive → Type 0
PulsesWithin inward old new =
    ByCable old.pulled (IsPulsedWithin (loses old.inside inward) inward old new) (LosesPulse old new)

-- a word drops out if the plan says so. With a pulled cable no word is heard, and the drive lets a word time pass
abbrev pub HearsWithin : (head word : ℕ) → (target : DriveState) → BayDrive → BayDrive → Type 0
HearsWithin head word target old new =
    ByCable old.pulled (IsHeardWithin (drops old.inside head) head word target old new) (PassesPulled target old new)

-- the gate is cut if the plan says so. With a pulled cable nothing is written, and the drive lets a word time pass
abbrev pub WritesWithin : (head word : ℕ) → BayDrive → BayDrive → Type 0
WritesWithin head word old new =
    ByCable old.pulled (IsWrittenWithin (cuts old.inside head) head word old new)
    (PassesPulled (passed (drive_within old)) old new)
