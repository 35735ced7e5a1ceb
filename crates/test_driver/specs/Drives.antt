-- What movements and faults make of a drive.
use Rattle.std.specs.Prelude.{◌≡◌, ◌≢◌, ℕ, ◌+◌, ◌-◌, ◌≤◌, Bool, true, false, IsSome, None, ◌⊎◌}
use Rattle.test_driver.specs.Common.{RoseBy, RoseLess}
use Rattle.test_driver.specs.declared.drive.BenchDrive.{BenchDrive}

-- the heads of the drive were moved, or not
pub record Moved (old new : BenchDrive) : Type 0 where
  pub medium : new.medium ≡ old.medium
  pub at_speed : new.at_speed ≡ old.at_speed
  pub changed : (new.changed ≡ old.changed) ⊎ (new.changed ≡ false)
  pub empty : old.medium ≡ None → new.changed ≡ old.changed
  pub faults : old.faults ≤ new.faults

-- the heads were moved to track 0, or as far as 79 pulses take them
pub record RecalibratesDrive (old : BenchDrive) (reached : Bool) (new : BenchDrive) : Type 0 where
  pub moved : Moved old new
  pub number : new.number ≡ 0
  pub arrives : reached ≡ true → new.cylinder ≡ 0
  pub away : reached ≡ false → 1 ≤ new.cylinder
  pub lost : reached ≡ false → RoseBy (new.cylinder + 79 - old.cylinder) old.faults new.faults

-- the heads were moved to a cylinder, counted from the controller's number
pub record SeeksDrive (target : ℕ) (old new : BenchDrive) : Type 0 where
  pub moved : Moved old new
  pub number : new.number ≡ target
  pub arrives : old.cylinder ≡ old.number → RoseLess 1 old.faults new.faults → new.cylinder ≡ target
  pub clears : IsSome old.medium → old.number ≢ target → (new.changed ≡ false) ⊎ RoseBy 1 old.faults new.faults

-- the drive had `count` faults more
pub record Faulted (count : ℕ) (old new : BenchDrive) : Type 0 where
  pub same : new ≡ record old { faults = new.faults }
  pub rose : RoseBy count old.faults new.faults
  pub never_falls : old.faults ≤ new.faults

-- the drive is at speed if a medium is in
pub record Spins (old new : BenchDrive) : Type 0 where
  pub same : new ≡ record old { at_speed = new.at_speed }
  pub spun : old.at_speed ≡ true → new.at_speed ≡ true
  pub speeds : IsSome old.medium → new.at_speed ≡ true

-- another medium is in, or none
pub record Exchanged (old new : BenchDrive) : Type 0 where
  pub changed : new.changed ≡ true
  pub number : new.number ≡ old.number

-- nothing of the drive changed but its medium
pub record SameDrive (old new : BenchDrive) : Type 0 where
  pub cylinder : new.cylinder ≡ old.cylinder
  pub number : new.number ≡ old.number
  pub changed : new.changed ≡ old.changed
  pub at_speed : new.at_speed ≡ old.at_speed
  pub faults : new.faults ≡ old.faults
