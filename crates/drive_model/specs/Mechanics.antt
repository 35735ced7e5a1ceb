-- What a mechanism shows.
use Rattle.std.specs.Prelude.{ℕ, true, false, Option, Some, None}
use Rattle.drive_model.specs.Drive.{DriveState}
use Rattle.drive_model.specs.declared.mechanics.Mechanics.{Mechanics}

-- a drive with this mechanism, this count of faults, and so many faults left. It keeps no map, and its cable is in
abbrev pub state_of : Mechanics → ℕ → Option ℕ → DriveState
state_of m faults left = record {
  medium = m.medium;
  cylinder = m.cylinder;
  place = m.place;
  motor = m.motor;
  spin = m.spin;
  change = m.change;
  gate = m.gate;
  cut = m.cut;
  replaced = m.replaced;
  marks = None;
  cable = true;
  faults = faults;
  left = left;
}

-- a drive of this mechanism alone, which has no faults
abbrev pub faultless : Mechanics → DriveState
faultless m = state_of m 0 (Some 0)

-- a new drive: without a medium, at cylinder 0, the motor off, the change line set, no fault counted, and no map kept
abbrev pub at_rest : Option ℕ → DriveState
at_rest left = record {
  medium = None;
  cylinder = 0;
  place = 0;
  motor = false;
  spin = 0;
  change = true;
  gate = false;
  cut = false;
  replaced = false;
  marks = None;
  cable = true;
  faults = 0;
  left = left;
}
