use Rattle.std.proofs.Common.{◌≡◌, ◌+◌, ◌*◌}
use Rattle.floppy_driver.proofs.Common.{CostsFor, IsSound}
use Rattle.floppy_driver.proofs.Rounds.{HasStayedSet}
use Rattle.floppy_driver.proofs.driver.Driver.ack.Given as goal

abbrev pub invariant-loop-attempt : goal.invariant-loop-attempt
invariant-loop-attempt g l = record {
  same : l.self ≡ l.fn.self;
  idle : g.C.Commands.is_idle l.machine;
  sound : IsSound (g.C.Commands.rig l.machine);
  stayed : HasStayedSet l.bay l._attempt (g.C.Commands.rig l.fn.machine) (g.C.Commands.rig l.machine);
  cost : CostsFor l.bay 0 (6250 + l._attempt * 405) (1 + l._attempt * 33) (g.C.Commands.rig l.fn.machine) (g.C.Commands.rig l.machine);
}
