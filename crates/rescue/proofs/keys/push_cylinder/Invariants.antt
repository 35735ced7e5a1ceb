use Rattle.std.proofs.Common.{◌≡◌, ◌++◌}
use Rattle.rescue.proofs.Common.{cylinder_keys}
use Rattle.rescue.proofs.keys.push_cylinder.Given as goal

-- the heads so far
abbrev pub invariant-loop-h : goal.invariant-loop-h
invariant-loop-h l = l.keys.items ≡ l.fn.keys.items ++ cylinder_keys l.sectors l.h l.c
