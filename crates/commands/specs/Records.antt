-- Where the records of a track lie in memory.
use Rattle.std.specs.Prelude.{ℕ, ◌+◌, ◌-◌, ◌*◌}

-- the first of a track
abbrev pub track_address : ℕ
track_address = 0x10000

-- a record, from 1 on, with 512 bytes each
abbrev pub record_address : ℕ → ℕ
record_address r = track_address + 512 * (r - 1)
