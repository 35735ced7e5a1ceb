use Rattle.std.proofs.Common.{◌≢◌, take}
use Rattle.remaster.proofs.Common.{AllPairs, Sector}
use Rattle.remaster.proofs.fit.has_distinct_keys.Given as goal

-- no two of the sectors so far have the same key
abbrev pub invariant-loop-i : goal.invariant-loop-i
invariant-loop-i l = AllPairs (λ (a b : Sector). a.key ≢ b.key) (take l.i l.sectors)
