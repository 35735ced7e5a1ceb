-- The keys of a standard format.
use Rattle.std.specs.Prelude.{ℕ, List, map}
use Rattle.std.specs.List.{range_with_len, flat_map}
use Rattle.sector_map.specs.Common.{sectors_at, standard_code, Chrn, Disk}

-- the key of a sector of 512 bytes
abbrev pub key_of : ℕ → ℕ → ℕ → Chrn
key_of c h r = record { c = c; h = h; r = r; n = standard_code }

-- the keys of a track, with records from 1 on
unfoldable pub track_keys : ℕ → ℕ → ℕ → List Chrn
track_keys sectors c h = map (key_of c h) (range_with_len 1 sectors)

-- the keys of a cylinder, by head
unfoldable pub cylinder_keys : ℕ → ℕ → ℕ → List Chrn
cylinder_keys sectors heads c = flat_map (track_keys sectors c) (range_with_len 0 heads)

-- The standard keys of a medium: those of its cylinders and heads, with the records that its rate has.
unfoldable pub standard_keys : Disk → List Chrn
standard_keys disk = flat_map (cylinder_keys (sectors_at disk.rate) disk.heads) (range_with_len 0 disk.cylinders)
