use Rattle.disk_commands.proofs.Common.{IsTurning, fills_byte}
use Rattle.disk_commands.proofs.import.fill_record.Given as goal

abbrev pub invariant-loop-i : goal.invariant-loop-i
invariant-loop-i g l = IsTurning g.R.AnyRun.hand 0 512 (fills_byte l.fn.flat l.fn.place l.fn.address) tt l.fn.run l.i tt l.run
