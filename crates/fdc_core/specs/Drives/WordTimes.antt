-- Word times of a controller and its drives.
use Rattle.std.specs.Prelude.{◌≡◌, ◌≤◌, ℕ, zero, suc}
use Rattle.fdc_core.specs.Common.{DriveState}
use Rattle.fdc_core.specs.Courses.{HoldsLines, Works, WorksAlone}
use Rattle.fdc_core.specs.Steps.{let_pass}
use Rattle.fdc_core.specs.declared.controller.Fdc.{Fdc}

-- a word time passes at a drive that isn't selected, with its gate closed. No fault comes
abbrev pub Passes : DriveState → DriveState → Type 0
Passes before after = after ≡ let_pass before

-- the controller makes its device step with the selected drive, and the word time passes at the others
pub record PassesWordTime (selected : ℕ) (old : Fdc) (first second : DriveState) (new : Fdc) (first_after second_after : DriveState) : Type 0 where
  pub at_first : selected ≡ 0 → Works old first new first_after × Passes second second_after
  pub at_second : selected ≡ 1 → Works old second new second_after × Passes first first_after
  pub at_none : 2 ≤ selected → WorksAlone old new × Passes first first_after × Passes second second_after

-- so many word times of the drives, with the same one selected, in which neither line of the controller changes
unfoldable pub WordTimes : ℕ → ℕ → Fdc → DriveState → DriveState → Fdc → DriveState → DriveState → Type 0
WordTimes zero selected old first second new first_after second_after = (new ≡ old) × (first_after ≡ first) × (second_after ≡ second)
WordTimes (suc count) selected old first second new first_after second_after =
    (mid : Fdc) × (first_mid : DriveState) × (second_mid : DriveState)
    × PassesWordTime selected old first second mid first_mid second_mid × HoldsLines old mid
    × WordTimes count selected mid first_mid second_mid new first_after second_after
