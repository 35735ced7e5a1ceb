-- Drives at a port write.
use Rattle.std.specs.Prelude.{◌≡◌, ◌↔◌, ◌+◌, ℕ, Bool, true, false, ◌||◌, ◌==◌, IsTrue, IsBitSet}
use Rattle.fdc_core.specs.Common.{DriveState, with_motor}
use Rattle.fdc_core.specs.Ports.{resets}
use Rattle.fdc_core.specs.State.{dor_of}
use Rattle.fdc_core.specs.Times.{Closes}
use Rattle.fdc_core.specs.declared.controller.Fdc.{Fdc}

-- a drive's motor line is the bit of DOR
abbrev pub FollowsMotor : ℕ → Fdc → DriveState → DriveState → Type 0
FollowsMotor bay controller before after =
    (on : Bool) × (IsTrue on ↔ IsBitSet (dor_of controller) (4 + bay)) × (after ≡ with_motor on before)

-- where DOR was written the motor follows it, otherwise the drive is as it was
abbrev pub FollowsDor : Bool → ℕ → Fdc → DriveState → DriveState → Type 0
FollowsDor true bay controller before after = FollowsMotor bay controller before after
FollowsDor false bay controller before after = after ≡ before

-- a drive at a write of a port, with no device step: the motor follows a write of DOR, and then a reset closes the gate
pub record FollowsWrite (port value bay : ℕ) (controller : Fdc) (before after : DriveState) : Type 0 where
  pub between : DriveState
  pub motor : FollowsDor (port == 0x3F2) bay controller before between
  pub gate : Closes (resets port value) between after

-- DOR is written, or the controller is reset. Any other write leaves the drives as they are
abbrev pub sets_lines : ℕ → ℕ → Bool
sets_lines port value = port == 0x3F2 || resets port value
