use Rattle.std.proofs.Common.{◌≢◌, take, All}
use Rattle.remaster.proofs.Common.{Sector}
use Rattle.remaster.proofs.fit.is_new_key.Given as goal

-- the sectors so far have other keys
abbrev pub invariant-loop-sector : goal.invariant-loop-sector
invariant-loop-sector l = All (λ (sector : Sector). sector.key ≢ l.key) (take l.sector-index l.sectors)
