use Rattle.std.proofs.Common.{[]}
use Rattle.remaster.proofs.LineLists.{HasAdded, tracks_below}
use Rattle.remaster.proofs.lines.survey.Given as goal

-- the cylinders so far
abbrev pub invariant-loop-c : goal.invariant-loop-c
invariant-loop-c l = HasAdded l.medium (tracks_below l.medium.heads l.c) [] l.lines.items
