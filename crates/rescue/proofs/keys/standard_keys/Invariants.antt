use Rattle.std.proofs.Common.{◌≡◌}
use Rattle.rescue.proofs.Common.{standard_keys}
use Rattle.rescue.proofs.keys.standard_keys.Given as goal

-- the cylinders so far
abbrev pub invariant-loop-c : goal.invariant-loop-c
invariant-loop-c l = l.keys.items ≡ standard_keys l.fn.rate l.c l.heads
