use Rattle.disk_commands.proofs.Common.{IsTurning, writes_record}
use Rattle.disk_commands.proofs.copy.write_records.Given as goal

abbrev pub invariant-loop-r : goal.invariant-loop-r
invariant-loop-r g l = IsTurning g.R.AnyRun.hand 1 l.fn.sectors (writes_record l.fn.marks l.fn.c l.fn.h) tt l.fn.run l.r tt l.run
