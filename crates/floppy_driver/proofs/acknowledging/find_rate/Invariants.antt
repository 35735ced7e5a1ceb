use Rattle.std.proofs.Common.{◌*◌}
use Rattle.floppy_driver.proofs.Common.{CostsFor}
use Rattle.floppy_driver.proofs.Rounds.{HasFoundNone}
use Rattle.floppy_driver.proofs.acknowledging.find_rate.Given as goal

abbrev pub invariant-loop-attempt : goal.invariant-loop-attempt
invariant-loop-attempt g l = record {
  idle : g.C.Commands.is_idle l.machine;
  none : HasFoundNone l.bay l._attempt (g.C.Commands.rig l.initial.machine) (g.C.Commands.rig l.machine);
  cost : CostsFor l.bay (l._attempt * 4) (l._attempt * 522) (l._attempt * 24) (g.C.Commands.rig l.initial.machine) (g.C.Commands.rig l.machine);
}
