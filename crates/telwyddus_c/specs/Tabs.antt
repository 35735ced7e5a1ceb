-- Media whose write-protect tab is moved.
use Rattle.std.specs.Prelude.{◌≡◌, ℕ, Bool, Some, is_some, MatchOption, if◌then◌else◌}
use Rattle.telwyddus_c.specs.Common.{ControllerValue, TrayValue, with_protection, tabbed}
use Rattle.telwyddus_c.specs.Controllers.{drive_of, state_of, KeepsBeside}

-- the tab of the medium in a tray is moved: code 0. If there is no medium, the code is 7
abbrev pub MovesTab : Bool → ℕ → TrayValue → TrayValue → Type 0
MovesTab on code old new =
    MatchOption old.medium ((code ≡ 7) × (new ≡ old)) (λ disk. (code ≡ 0) × (new.medium ≡ Some (tabbed on disk)))

-- the tab of the medium in a bay is moved: code 0. If there is no medium, the code is 7. All else stays
pub record MovesTabAt (bay : ℕ) (on : Bool) (code : ℕ) (old new : ControllerValue) : Type 0 where
  pub code_is : code ≡ if is_some (drive_of old bay).medium then 0 else 7
  pub drive : drive_of new bay ≡ with_protection on (drive_of old bay)
  pub beside : KeepsBeside bay (state_of old) (state_of new)
