use Rattle.floppy_driver.proofs.Common.{IsFilled}
use Rattle.floppy_driver.proofs.formatting.is_page_filled.Given as goal

abbrev pub invariant-loop-i : goal.invariant-loop-i
invariant-loop-i g l = IsFilled (g.C.Commands.rig l.machine).page l.i l.fill
