-- A data command, whatever the speed of its drive was when the command began: words 0000 pass until the medium is at
-- speed.
use Rattle.std.specs.Prelude.{◌≡◌, ◌⊎◌, ℕ, ◌≤◌, Bool, false}
use Rattle.laws_machine.specs.Common.{DriveState, Past, Board}
use Rattle.fdc_core.specs.Drives.Spinning.{IsUnheard, led, IsTurningIn as IsTurningSince, IsSpinning as IsSpinningSince}
use Rattle.laws_machine.specs.OnReads.Scenes.{Scene, outset_of}
use Rattle.laws_machine.specs.OnOrders.Orders.{Order, Write, AtDrive, IsUnderwayOn, CanBeginAt}

-- ---- the drive

-- the motor is on with the scene's medium, whatever its speed, and no word has passed since
abbrev pub IsTurningIn : Scene → DriveState → Type 0
IsTurningIn scene = IsTurningSince (outset_of scene)

-- the medium spins up, for at least so many word times
abbrev pub IsSpinning : Scene → ℕ → DriveState → Type 0
IsSpinning scene = IsSpinningSince (outset_of scene)

-- if a word passed, the medium of a command that writes isn't protected
abbrev pub IsGuarded : Order → Scene → ℕ → Type 0
IsGuarded (Write laid) scene lead = 1 ≤ lead → scene.disk.protected ≡ false
IsGuarded _ scene lead = Unit {0}

-- the medium spins up; or it is at speed, and all is known of what passed since that is known of a command that begins
-- there
pub record IsLed (order : Order) (scene : Scene) (past : Past) (executes : Bool) (drive : DriveState) : Type 0 where
  pub lead : ℕ
  pub late : Past
  pub past_is : past ≡ led lead late
  pub short : lead ≤ 6250
  pub guarded : IsGuarded order scene lead
  pub drive_is : (IsUnheard late × IsSpinning scene lead drive) ⊎ AtDrive order scene late executes drive

-- ---- the command

-- the command began in this scene, at whatever speed, and is in execution, or gives its results
abbrev pub WarmsUp : Order → Scene → Board → Type 0
WarmsUp order scene board = IsUnderwayOn (IsLed order scene) order scene board

-- all stands as in the scene, except the speed of the drive, and the last byte of the command is written
abbrev pub CanWarm : Order → Scene → ℕ → Board → Type 0
CanWarm order scene byte board = CanBeginAt IsTurningIn order scene byte board
