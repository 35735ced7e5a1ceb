use Rattle.sector_map.proofs.Common.{cylinder_keys}
use Rattle.sector_map.proofs.Listed.{HasAdded}
use Rattle.sector_map.proofs.standard.push_cylinder.Given as goal

-- the heads so far
abbrev pub invariant-loop-h : goal.invariant-loop-h
invariant-loop-h l = HasAdded l.medium (cylinder_keys l.sectors l.h l.c) l.fn.failed.items l.failed.items
