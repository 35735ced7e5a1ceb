-- How long a word time lasts.
use Rattle.std.specs.Prelude.{ℕ}
use Rattle.fdc_phases.specs.declared.rates.DataRate.{DataRate}
use Rattle.fdc_phases.specs.declared.rates.DataRate.TheVariants.{Kbit500, Kbit300, Kbit250, Mbit1}

-- the nanoseconds in which sixteen cells pass. At 300 kbit/s these are 26,666 and two thirds, which is rounded up
abbrev pub nanoseconds : DataRate → ℕ
nanoseconds Kbit500 = 16000
nanoseconds Kbit300 = 26667
nanoseconds Kbit250 = 32000
nanoseconds Mbit1 = 8000
