-- Two of a kind, one for each bay.
use Rattle.std.specs.Prelude.{ℕ, ◌==◌, if◌then◌else◌}

-- the first is of bay 0, the second of bay 1
pub record Two (T : Type 0) : Type 0 where
  pub first : T
  pub second : T

-- the same value for both bays
abbrev pub both : {T : Type 0} → T → Two T
both value = record { first = value; second = value }

-- the value of a bay: the first for bay 0, the second for bay 1
abbrev pub in_bay : {T : Type 0} → Two T → ℕ → T
in_bay two bay = if bay == 0 then two.first else two.second

-- the same pair with another value for one bay
abbrev pub with_bay : {T : Type 0} → Two T → ℕ → T → Two T
with_bay two bay value = if bay == 0 then record two { first = value } else record two { second = value }
