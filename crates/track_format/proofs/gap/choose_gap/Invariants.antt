use Rattle.std.proofs.Common.{◌≡◌, ℕ, ◌<◌, ◌≤◌}
use Rattle.track_format.proofs.Common.{gap_at, words_at, Suits}
use Rattle.track_format.proofs.gap.choose_gap.Given as goal

-- no larger gap suits
abbrev pub invariant-loop-gap : goal.invariant-loop-gap
invariant-loop-gap l = record {
  words : l.words ≡ words_at l.fn.rate;
  most : l.gap ≤ gap_at l.fn.rate;
  larger : (other : ℕ) → l.gap < other → other ≤ gap_at l.fn.rate → Suits l.n l.sectors l.words other → ⊥;
}

abbrev pub decreases-loop-gap : goal.decreases-loop-gap
decreases-loop-gap l = l.gap
