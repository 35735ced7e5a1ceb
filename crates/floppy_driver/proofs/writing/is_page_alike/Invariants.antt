use Rattle.floppy_driver.proofs.Common.{AreBytesAlike}
use Rattle.floppy_driver.proofs.writing.is_page_alike.Given as goal

-- the bytes so far are alike
abbrev pub invariant-loop-i : goal.invariant-loop-i
invariant-loop-i g l = AreBytesAlike (g.C.Commands.rig l.machine).page (g.C.Commands.rig l.machine).memory l.address l.i
