use Rattle.std.proofs.Common.{◌≡◌, ◌-◌, ◌*◌, true, Ok}
use Rattle.floppy_driver.proofs.Common.{sectors_at, in_bay, CostsFor, IsSound, track_under, IsBlankUnder, HoldsRecords, ReadsRecords}
use Rattle.floppy_driver.proofs.formatting.read_back_all.Given as goal

abbrev pub invariant-loop-r : goal.invariant-loop-r
invariant-loop-r g l = record {
  sound : IsSound (g.C.Commands.rig l.machine);
  idle : g.C.Commands.is_idle l.machine;
  spun : in_bay (g.C.Commands.rig l.machine).spun l.bay ≡ true;
  reads : ReadsRecords l.bay (l.r - 1) (IsBlankUnder (g.C.Commands.rig l.initial.machine) l.bay l.asked.rate l.asked.h)
      (HoldsRecords (track_under (g.C.Commands.rig l.initial.machine) l.bay l.asked.rate l.asked.h) l.asked.c l.asked.h (sectors_at l.asked.rate) l.asked.fill)
      (g.C.Commands.rig l.initial.machine)
      (Ok tt) (g.C.Commands.rig l.machine);
  cost : CostsFor l.bay ((l.r - 1) * 2) ((l.r - 1) * 261) ((l.r - 1) * 29) (g.C.Commands.rig l.initial.machine) (g.C.Commands.rig l.machine);
}
