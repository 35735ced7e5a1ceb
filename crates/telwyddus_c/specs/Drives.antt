-- The drives of bays: their cables, their plans, and the tracks that were written.
use Rattle.std.specs.Prelude.{◌≡◌, ◌-◌, ◌==◌, ◌&&◌, ℕ, Bool, not, List, is_some, Ok, Err, MatchBool, if◌then◌else◌}
use Rattle.telwyddus_c.specs.Common.{bay_state, drive_in_bay, drive_within, faults_in_bay, is_attached, new_in_bay, state_replanned, state_with_cable, tracks_in_bay, without_tracks, ControllerValue, DriveState, total_left, told, Plan, plan_spelled, drive_held, behind_of, IsNewChip, KeepsChip, adapter_of}
use Rattle.c_bay_drive.specs.declared.bay.BayDrive.{BayDrive}
use Rattle.drive_model.specs.declared.fault.Fault.{Fault}
use Rattle.telwyddus_c.specs.Controllers.{drive_of, state_of}

-- the drive of a bay
abbrev pub held : ControllerValue → ℕ → BayDrive
held controller bay = drive_held (adapter_of (behind_of controller)) bay

-- the controller and the drive of the other bay stay
pub record KeepsOther (bay : ℕ) (old new : ControllerValue) : Type 0 where
  pub chip : KeepsChip (state_of old) (state_of new)
  pub other : held new (1 - bay) ≡ held old (1 - bay)

-- the cable of a drive is put in, or pulled. The drive itself stays as it is, and what the controller sees of it
-- follows the cable
pub record Attaches (bay : ℕ) (on : Bool) (old new : ControllerValue) : Type 0 where
  pub is : is_attached (held new bay) ≡ on
  pub drive : drive_in_bay (held new bay) ≡ drive_in_bay (held old bay)
  pub state : bay_state (held new bay) ≡ state_with_cable on (held old bay)
  pub beside : KeepsOther bay old new

-- the cable isn't pulled while a medium is in
abbrev pub keeps_cable : (bay : ℕ) → Bool → ControllerValue → Bool
keeps_cable bay on old = not on && is_some (drive_of old bay).medium

-- the cable is put in, or pulled: code 0. If a medium is in, the code is 6 and all stays
abbrev pub AttachesAt : (bay : ℕ) → Bool → (code : ℕ) → ControllerValue → ControllerValue → Type 0
AttachesAt bay on code old new = MatchBool (keeps_cable bay on old) ((code ≡ 6) × (new ≡ old)) ((code ≡ 0) × Attaches bay on old new)

-- a bay has a drive whose cable is in. Otherwise the code is 4, and all stays
abbrev pub OfDrive : (bay code : ℕ) → ControllerValue → (stays served : Type 0) → Type 0
OfDrive bay code old stays served = MatchBool (is_attached (held old bay)) served ((code ≡ 4) × stays)

-- the faults that a plan has for a bay
abbrev pub faults_for : ℕ → Plan → List Fault
faults_for bay plan = if bay == 0 then plan.bay0 else plan.bay1

-- a drive of which so many faults can still come. Its medium, its heads and all else stay
abbrev pub replanned : List Fault → DriveState → DriveState
replanned faults drive = record drive { left = told drive.faults (total_left faults) }

-- a drive has these faults to come, in place of those that it had. All else of the drive stays, and so does what its
-- cable shows of it
pub record Replans (bay : ℕ) (faults : List Fault) (old new : ControllerValue) : Type 0 where
  pub faults_are : faults_in_bay (held new bay) ≡ faults
  pub within : drive_within (held new bay) ≡ replanned faults (drive_within (held old bay))
  pub state : bay_state (held new bay) ≡ state_replanned faults (held old bay)
  pub beside : KeepsOther bay old new

-- a new controller whose drives have the faults that the plan has for them, and no others
pub record IsPlanned (plan : Plan) (controller : ControllerValue) : Type 0 where
  pub chip : IsNewChip (new_in_bay (told 0 (total_left plan.bay0))) (new_in_bay (told 0 (total_left plan.bay1))) (state_of controller)
  pub first : faults_in_bay (held controller 0) ≡ plan.bay0
  pub second : faults_in_bay (held controller 1) ≡ plan.bay1

-- a drive is planned anew by a text. By the code of the call:
-- - 0: the drive has the faults of the plan to come;
-- - 9: the text is no plan. The number of its first bad line is reported;
-- - 3: memory is out.
-- after every code but 0 the controller stays as it was
abbrev pub PlansAt : (bay : ℕ) → List ℕ → (code was line : ℕ) → ControllerValue → ControllerValue → Type 0
PlansAt bay text code was line old new =
    MatchBool (code == 0) ((plan : Plan) × (plan_spelled text ≡ Ok plan) × (line ≡ was) × Replans bay (faults_for bay plan) old new)
    (MatchBool (code == 9) ((plan_spelled text ≡ Err line) × (new ≡ old))
    (MatchBool (code == 3) ((line ≡ was) × (new ≡ old)) ⊥))

-- the tracks of a bay's medium that were written are reported in a map, and forgotten. All else of the drive stays
pub record TellsTracks (bay : ℕ) (old : ControllerValue) (map : List ℕ) (new : ControllerValue) : Type 0 where
  pub told : map ≡ tracks_in_bay (held old bay)
  pub forgets : held new bay ≡ without_tracks (held old bay)
  pub beside : KeepsOther bay old new
