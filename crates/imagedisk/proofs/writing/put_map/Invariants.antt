use Rattle.std.proofs.Common.{◌≡◌, ◌++◌, take}
use Rattle.imagedisk.proofs.Common.{map_of}
use Rattle.imagedisk.proofs.writing.put_map.Given as goal

abbrev pub invariant-loop-sector : goal.invariant-loop-sector
invariant-loop-sector l = l.out.items ≡ l.initial.out.items ++ map_of l.part (take l.sector-index l.sectors)
