-- The ways of a transfer.
use Rattle.std.specs.Prelude.{ℕ}
use Rattle.machine_commands.specs.declared.channel.Way.{Way}
use Rattle.machine_commands.specs.declared.channel.Way.TheVariants.{ToMemory, FromMemory}

-- the mode of the channel: single transfers, the address going up
abbrev pub mode_of : Way → ℕ
mode_of ToMemory = 0x46
mode_of FromMemory = 0x4A
