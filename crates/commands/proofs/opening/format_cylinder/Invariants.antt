use Rattle.commands.proofs.Common.{formats, IsTurning}
use Rattle.commands.proofs.opening.format_cylinder.Given as goal

abbrev pub invariant-loop-h : goal.invariant-loop-h
invariant-loop-h g l = IsTurning g.R.AnyRun.hand 0 l.fn.heads (formats l.fn.bay l.fn.c) tt l.fn.run l.h tt l.run
