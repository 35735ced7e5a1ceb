use Rattle.remaster.proofs.Common.{cylinder_tracks}
use Rattle.remaster.proofs.LineLists.{HasAdded}
use Rattle.remaster.proofs.lines.push_cylinder.Given as goal

-- the heads so far
abbrev pub invariant-loop-h : goal.invariant-loop-h
invariant-loop-h l = HasAdded l.medium (cylinder_tracks l.h l.c) l.fn.lines.items l.lines.items
