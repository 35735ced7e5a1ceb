use Rattle.std.proofs.Common.{ℕ, ◌<◌}
use Rattle.sector_map.proofs.Common.{Chrn, IsAddressAt, IsApart}
use Rattle.sector_map.proofs.regular.stands_alone.Given as goal

-- the address fields passed so far are apart from this one
abbrev pub invariant-loop-q : goal.invariant-loop-q
invariant-loop-q l = (k : ℕ) (other : Chrn) → l.place < k → k < l.q → IsAddressAt l.words k other → IsApart l.place l.key k other
