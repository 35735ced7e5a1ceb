use Rattle.std.proofs.Common.{ℕ, ◌<◌}
use Rattle.sector_map.proofs.Common.{IsAddress}
use Rattle.sector_map.proofs.looking.has_address.Given as goal

-- no address field begins at the cells passed so far
abbrev pub invariant-loop-p : goal.invariant-loop-p
invariant-loop-p l = (k : ℕ) → k < l.p → IsAddress l.words k → ⊥
