use Rattle.std.proofs.Common.{take}
use Rattle.fdc_core.proofs.Quieting.{HasHeardWords}
use Rattle.fdc_core.proofs.quiet.count_searching.Given as goal

-- the search has heard the words before this one
abbrev pub invariant-loop-i : goal.invariant-loop-i
invariant-loop-i l = HasHeardWords l.wanted (take l.i l.fn.words) l.fn.search l.search
