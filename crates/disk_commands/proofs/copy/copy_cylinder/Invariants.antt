use Rattle.disk_commands.proofs.Common.{IsTurning, copies_track}
use Rattle.disk_commands.proofs.copy.copy_cylinder.Given as goal

abbrev pub invariant-loop-h : goal.invariant-loop-h
invariant-loop-h g l = IsTurning g.R.AnyRun.hand 0 l.fn.heads (copies_track l.fn.sectors l.fn.c) tt l.fn.run l.h tt l.run
