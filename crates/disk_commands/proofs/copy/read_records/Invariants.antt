use Rattle.disk_commands.proofs.Common.{IsTurning, no_marks, reads_record}
use Rattle.disk_commands.proofs.copy.read_records.Given as goal

abbrev pub invariant-loop-r : goal.invariant-loop-r
invariant-loop-r g l = IsTurning g.R.AnyRun.hand 1 l.fn.sectors (reads_record l.fn.c l.fn.h) no_marks l.fn.run l.r l.marks l.run
