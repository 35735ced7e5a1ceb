-- What the attempts of a call have in common.
use Rattle.std.specs.Prelude.{◌≡◌, ℕ, ◌≤◌, true, ◌⊎◌}
use Rattle.floppy_driver.specs.Common.{in_bay}
use Rattle.floppy_driver.specs.Rigs.{Rig, IsSound}
use Rattle.floppy_driver.specs.declared.driver.Driver.{Driver}
use Rattle.floppy_driver.specs.Shown.{notes_of, is_held}
use Rattle.floppy_driver.specs.Attached.{IsAttached}

-- an attempt can be made in a bay
pub record CanTry (driver : Driver) (rig : Rig) (bay : ℕ) : Type 0 where
  pub in_range : bay ≤ 1
  pub held : is_held (notes_of driver bay) (in_bay rig.changes bay) ≡ true
  pub attached : IsAttached driver rig
  pub sound : IsSound rig

-- an attempt, counted from 1, that surely goes by track 0: each attempt except the first of two or more
abbrev pub IsSure : ℕ → ℕ → Type 0
IsSure tries attempt = (tries ≡ 1) ⊎ (2 ≤ attempt)
