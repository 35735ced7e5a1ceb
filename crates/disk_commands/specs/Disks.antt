-- How many sectors a disk has.
use Rattle.std.specs.Prelude.{ℕ, ◌*◌}
use Rattle.disk_commands.specs.Common.{sectors_at, Shape}

-- the number of sectors of a disk
abbrev pub sectors_of : Shape → ℕ
sectors_of shape = shape.cylinders * shape.heads * sectors_at shape.rate
