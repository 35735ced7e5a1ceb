use Rattle.fdc_core.proofs.Laying.{CopiesLaying}
use Rattle.fdc_core.proofs.quiet.count_laying.Given as goal

-- a copy has laid the words before this one
abbrev pub invariant-loop-i : goal.invariant-loop-i
invariant-loop-i l = CopiesLaying l.i l.bytes l.left l.fn.stage l.stage
