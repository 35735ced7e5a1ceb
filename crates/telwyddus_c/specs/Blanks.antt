-- Media on which nothing is recorded.
use Rattle.std.specs.Prelude.{◌≡◌, ◌==◌, ◌&&◌, ℕ, nat_le, Option, None, Some, MatchBool, MatchOption, ⊤, if◌then◌else◌}
use Rattle.telwyddus_c.specs.Common.{TrayValue, Rate}
use Rattle.sector_model.specs.Steps.{blank_of}
use Rattle.telwyddus_c.specs.Rates.{rate_named}
use Rattle.telwyddus_c.specs.Slots.{FullOr}

-- the rate of a blank medium of 1 to 80 cylinders
abbrev pub blank_asked : ℕ → ℕ → Option Rate
blank_asked cylinders kilobits = if nat_le 1 cylinders && nat_le cylinders 80 then rate_named kilobits else None

-- a tray is made with a blank medium of so many cylinders and two heads. By the code of the call:
-- - 0: the tray is made;
-- - 2: the slot holds a tray already;
-- - 4: there is no such medium, of so many cylinders or at this rate;
-- - 3: memory is out.
-- after every code but 0 the slot stays as it was
abbrev pub FillsBlank : (cylinders kilobits code : ℕ) → Option TrayValue → Option TrayValue → Type 0
FillsBlank cylinders kilobits code old new =
    FullOr code old new ⊤
    (MatchOption (blank_asked cylinders kilobits) ((code ≡ 4) × (new ≡ old))
    (λ rate. MatchBool (code == 0) (new ≡ Some (record { medium = Some (blank_of cylinders rate) })) ((code ≡ 3) × (new ≡ old))))
