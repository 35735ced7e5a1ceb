use Rattle.std.proofs.Common.{take, All}
use Rattle.remaster.proofs.Common.{Sector, IsOwnKey}
use Rattle.remaster.proofs.fit.has_own_keys.Given as goal

-- the keys of the sectors so far name this cylinder and head
abbrev pub invariant-loop-sector : goal.invariant-loop-sector
invariant-loop-sector l = All (λ (sector : Sector). IsOwnKey l.c l.h sector.key) (take l.sector-index l.sectors)
