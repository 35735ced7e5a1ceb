use Rattle.std.proofs.Common.{ℕ, ◌/◌, ◌<◌, ◌≤◌, ◌≢◌, get_or}
use Rattle.sector_map.proofs.marks.touches_no_zero.Given as goal

-- no word of the stretch so far is zero
abbrev pub invariant-loop-k : goal.invariant-loop-k
invariant-loop-k l = (k : ℕ) → l.p / 16 ≤ k → k < l.k → get_or l.words k 0 ≢ 0
