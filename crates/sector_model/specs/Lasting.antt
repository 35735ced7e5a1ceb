-- What calls of a driver cost at most: a number of revolutions of the medium in a bay, a number of device steps, and a
-- number of port accesses. One port access more may come for each interrupt that is taken, since each watch for the end
-- of a data command looks at a port once, and a spurious interrupt makes one more watch necessary.
use Rattle.std.specs.Prelude.{ℕ, zero, suc, ◌+◌, ◌*◌, Option}
use Rattle.sector_model.specs.Common.{option_map_or, sectors_at, Rate, Disk}
use Rattle.sector_model.specs.Stations.{StationState, bay_of}

-- the device steps of one revolution of a medium, or 0 if there is none
abbrev pub turn_of : Option Disk → ℕ
turn_of medium = option_map_or (λ disk. disk.words_per_track) medium 0

-- the device steps of `turns` revolutions of the medium in a bay, and `steps` more
abbrev pub time_in : StationState → ℕ → ℕ → ℕ → ℕ
time_in station bay turns steps = turns * turn_of (bay_of station bay).medium + steps

-- an acknowledgement: the motor comes to speed. In each of three rounds, the heads go in and out, and both rates are
-- tried
abbrev pub ack_time : StationState → ℕ → ℕ
ack_time station bay = time_in station bay 12 9031

-- an attempt at a read: the heads go to track 0, in two tries, and to the cylinder. A data command takes two
-- revolutions
abbrev pub read_time : StationState → ℕ → ℕ
read_time station bay = time_in station bay (station.tries * 2) (station.tries * 504)

-- an attempt at a write is also read back
abbrev pub write_time : StationState → ℕ → ℕ
write_time station bay = time_in station bay (station.tries * 4) (station.tries * 765)

-- an attempt at a format at a rate: two revolutions for the format, and two for each record that is read back
abbrev pub format_turns : Rate → ℕ
format_turns rate = 2 + sectors_at rate * 2

abbrev pub format_steps : Rate → ℕ
format_steps rate = 504 + sectors_at rate * 261

abbrev pub format_time : StationState → ℕ → Rate → ℕ
format_time station bay rate = time_in station bay (station.tries * format_turns rate) (station.tries * format_steps rate)

-- ---- port accesses

-- an acknowledgement: one for the motor. In each of three rounds, 31 to move the heads in and out, 2 to look at the
-- change line, and 12 for each of two READ IDs
abbrev pub ack_port_accesses : ℕ
ack_port_accesses = 172

-- A read looks at the change line, which takes two. A write and a format also ask whether the medium is protected, which
-- takes four. For each of these calls, six are counted

-- an attempt at a read: 19 to move the heads, and 29 for the data command
abbrev pub read_port_accesses : StationState → ℕ
read_port_accesses station = 6 + station.tries * 48

-- an attempt at a write has two data commands
abbrev pub write_port_accesses : StationState → ℕ
write_port_accesses station = 6 + station.tries * 77

-- an attempt at a format: 19 to move the heads, 26 for the format, and 29 for each record that is read back
abbrev pub format_once_port_accesses : Rate → ℕ
format_once_port_accesses rate = 45 + sectors_at rate * 29

abbrev pub format_port_accesses : StationState → Rate → ℕ
format_port_accesses station rate = 6 + station.tries * format_once_port_accesses rate

-- a dump of memory makes none. A dump of no bytes stands in a course for a look at the change line
abbrev pub dump_port_accesses : ℕ → ℕ
dump_port_accesses zero = 2
dump_port_accesses (suc count) = 0
