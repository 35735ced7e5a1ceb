-- Rates by their numbers.
use Rattle.std.specs.Prelude.{ℕ, ◌==◌, Option, None, Some, if◌then◌else◌}
use Rattle.telwyddus_c.specs.Common.{Rate, R500, R250}

-- the rate of so many kbit/s, 500 or 250
abbrev pub rate_named : ℕ → Option Rate
rate_named kilobits = if kilobits == 500 then Some R500 else (if kilobits == 250 then Some R250 else None)
