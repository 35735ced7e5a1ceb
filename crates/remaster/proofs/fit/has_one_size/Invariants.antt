use Rattle.std.proofs.Common.{take, All}
use Rattle.remaster.proofs.Common.{HasSizeCode}
use Rattle.remaster.proofs.fit.has_one_size.Given as goal

-- the keys of the sectors so far have this size code
abbrev pub invariant-loop-sector : goal.invariant-loop-sector
invariant-loop-sector l = All (HasSizeCode l.n) (take l.sector-index l.sectors)
