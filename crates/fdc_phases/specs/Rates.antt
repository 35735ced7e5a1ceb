-- The data rates.
use Rattle.std.specs.Prelude.{ℕ, ◌%◌, ◌==◌, Bool, true, false, if◌then◌else◌}
use Rattle.flop_base.specs.declared.answers.Rate.{Rate}
use Rattle.flop_base.specs.declared.answers.Rate.TheVariants.{R500, R250}
use Rattle.fdc_phases.specs.declared.rates.DataRate.{DataRate}
use Rattle.fdc_phases.specs.declared.rates.DataRate.TheVariants.{Kbit500, Kbit300, Kbit250, Mbit1}

-- the rate that bits 1 and 0 of a byte choose
abbrev pub rate_chosen : ℕ → DataRate
rate_chosen byte =
    if byte % 4 == 0 then Kbit500 else (if byte % 4 == 1 then Kbit300 else (if byte % 4 == 2 then Kbit250 else Mbit1))

-- a medium can be read and written at its own rate alone
abbrev pub rate_fits : DataRate → Rate → Bool
rate_fits Kbit500 R500 = true
rate_fits Kbit250 R250 = true
rate_fits _ _ = false

-- the word that the controller sees where this word passes: 0000 at another rate than the medium's
abbrev pub seen_of : Bool → ℕ → ℕ
seen_of fits word = if fits then word else 0
