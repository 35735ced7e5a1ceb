-- The flags that a station keeps of its bays.
use Rattle.std.specs.Prelude.{ℕ, is_some}
use Rattle.machine_commands.specs.Common.{Rate, Two, in_bay, with_bay, Bay, StationState}
use Rattle.machine_commands.specs.declared.flags.BayFlags.{BayFlags}

-- the flags of two bays, with another rate for one
abbrev pub with_rate : Two BayFlags → ℕ → Rate → Two BayFlags
with_rate flags bay rate = with_bay flags bay (record (in_bay flags bay) { rate = rate })

-- what a bay's flags have to be
abbrev pub flags_of : Bay → BayFlags
flags_of bay = record { loaded = is_some bay.medium; rate = bay.rate }

-- what the flags of two bays have to be
abbrev pub flags_of_both : Two Bay → Two BayFlags
flags_of_both bays = record { first = flags_of bays.first; second = flags_of bays.second }

-- what the flags of a station's bays have to be
abbrev pub flags_shown : StationState → Two BayFlags
flags_shown station = flags_of_both station.bays
