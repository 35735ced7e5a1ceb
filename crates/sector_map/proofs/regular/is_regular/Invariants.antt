use Rattle.std.proofs.Common.{ℕ, ◌<◌}
use Rattle.sector_map.proofs.Common.{IsPlaceRegular}
use Rattle.sector_map.proofs.regular.is_regular.Given as goal

-- the places passed so far are regular
abbrev pub invariant-loop-place : goal.invariant-loop-place
invariant-loop-place l = (k : ℕ) → k < l.place → IsPlaceRegular l.words l.c l.h k
