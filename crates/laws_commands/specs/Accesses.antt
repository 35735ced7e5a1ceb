-- Accesses past the driver.
use Rattle.std.specs.Prelude.{ℕ, ◌+◌, ◌≤◌}
use Rattle.laws_commands.specs.Common.{World}

-- Between two worlds the station was accessed past the driver at most this often: media were put in or taken out.
abbrev pub AccessesAtMost : ℕ → World → World → Type 0
AccessesAtMost most old new = new.state.station.counters.direct ≤ old.state.station.counters.direct + most
