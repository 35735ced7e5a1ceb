use Rattle.std.proofs.Common.{take}
use Rattle.fdc_core.proofs.Common.{TakesBytes}
use Rattle.fdc_core.proofs.contents.take_bytes.Given as goal

abbrev pub invariant-loop-i : goal.invariant-loop-i
invariant-loop-i l = TakesBytes (take l.i l.fn.words) l.fn.counted l.fn.stage l.stage l.fn.fifo l.fifo
