use Rattle.std.proofs.Common.{[]}
use Rattle.sector_map.proofs.Listed.{HasAdded, keys_below}
use Rattle.sector_map.proofs.standard.failing.Given as goal

-- the cylinders so far
abbrev pub invariant-loop-c : goal.invariant-loop-c
invariant-loop-c l = HasAdded l.medium (keys_below l.sectors l.medium.heads l.c) [] l.failed.items
