use Rattle.std.proofs.Common.{ℕ, ◌<◌}
use Rattle.track_separator.proofs.Common.{HasRunBits}
use Rattle.track_separator.proofs.register.run_end.Given as goal

-- no run ends at the places passed
abbrev pub invariant-loop-back : goal.invariant-loop-back
invariant-loop-back l = (k : ℕ) → k < l.back → HasRunBits l.cells k → ⊥
