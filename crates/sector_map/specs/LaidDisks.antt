-- Layings of a disk, and several joined into one.
use Rattle.std.specs.Prelude.{ℕ, max}
use Rattle.sector_map.specs.Common.{Rate}
use Rattle.sector_map.specs.Layings.{Format, Laying}

-- the format of a cylinder and head at a rate, with a gap 3 and a fill
abbrev pub format_at : ℕ → ℕ → Rate → ℕ → ℕ → Format
format_at c h rate gap3 fill = record { c = c; h = h; rate = rate; gap3 = gap3; fill = fill }

-- a laying on this cylinder with this count of words
abbrev pub laying_at : ℕ → ℕ → Laying
laying_at cylinder words = record { cylinder = cylinder; words = words }

-- a laying and a later one on the same cylinder, joined into one: the longer of the two stands
abbrev pub joined_laying : Laying → Laying → Laying
joined_laying one two = record { cylinder = one.cylinder; words = max one.words two.words }
