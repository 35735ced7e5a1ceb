use Rattle.std.proofs.Common.{take}
use Rattle.fdc_core.proofs.Quieting.{HasReadWords}
use Rattle.fdc_core.proofs.quiet.count_unmarked.Given as goal

-- the reading has heard the words before this one
abbrev pub invariant-loop-i : goal.invariant-loop-i
invariant-loop-i l = HasReadWords l.key (take l.i l.fn.words) l.fn.reading.stage l.stage
