use Rattle.fdc_core.proofs.Common.{IsContent}
use Rattle.fdc_core.proofs.Quieting.{HasGivenBytes}
use Rattle.fdc_core.proofs.quiet.count_bytes.Given as goal

-- the words before this one gave bytes
abbrev pub invariant-loop-i : goal.invariant-loop-i
invariant-loop-i l = record { given : HasGivenBytes l.i l.fn.stage l.stage; content : IsContent l.stage }
