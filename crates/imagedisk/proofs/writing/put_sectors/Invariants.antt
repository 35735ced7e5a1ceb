use Rattle.std.proofs.Common.{◌≡◌, ◌++◌, take}
use Rattle.imagedisk.proofs.Common.{flat_map, sector_bytes}
use Rattle.imagedisk.proofs.writing.put_sectors.Given as goal

abbrev pub invariant-loop-sector : goal.invariant-loop-sector
invariant-loop-sector l = l.out.items ≡ l.initial.out.items ++ flat_map sector_bytes (take l.sector-index l.sectors)
