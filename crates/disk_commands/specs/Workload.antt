-- The generated workload: what a sequence of numbers draws.
use Rattle.std.specs.Prelude.{ℕ, zero, suc, ◌+◌, ◌*◌, ◌/◌, ◌%◌}
use Rattle.disk_commands.specs.Common.{Chrn}

-- the number after a number: a linear congruence modulo 2^31
abbrev pub next_number : ℕ → ℕ
next_number x = (x * 1103515245 + 12345) % 2147483648

-- the number after this many draws
unfoldable pub number_after : ℕ → ℕ → ℕ
number_after zero x = x
number_after (suc n) x = number_after n (next_number x)

-- the value that a draw takes from its number
abbrev pub drawn : ℕ → ℕ
drawn x = x / 65536

-- the key that three draws give: a cylinder, a head, and a record from 1 to 20
abbrev pub drawn_key : ℕ → ℕ → ℕ → Chrn
drawn_key c h r = record { c = c % 4; h = h % 2; r = 1 + r % 20; n = 2 }
