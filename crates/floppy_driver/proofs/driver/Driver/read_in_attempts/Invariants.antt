use Rattle.std.proofs.Common.{◌≡◌, ℕ, ◌-◌, ◌*◌, List}
use Rattle.floppy_driver.proofs.Common.{DriveCounts, GoesOn, StationState, CostsFor, shown, HasAsked, CanTry}
use Rattle.floppy_driver.proofs.TriedReads.{HasTriedRead}
use Rattle.floppy_driver.proofs.driver.Driver.read_in_attempts.Given as goal

abbrev pub invariant-loop-attempt : goal.invariant-loop-attempt
invariant-loop-attempt g l = record {
  idle : g.C.Commands.is_idle l.machine;
  ready : CanTry l.self (g.C.Commands.rig l.machine) l.bay;
  tries : l.self.tries ≡ l.initial.self.tries;
  counts : GoesOn (g.C.Commands.rig l.initial.machine).counters (g.C.Commands.rig l.machine).counters;
  cost : CostsFor l.bay ((l.attempt - 1) * 2) ((l.attempt - 1) * 504) ((l.attempt - 1) * 48) (g.C.Commands.rig l.initial.machine) (g.C.Commands.rig l.machine);
  tried : (start : StationState) (spares : ℕ) (waiting : List DriveCounts) → HasAsked start (shown l.initial.self (g.C.Commands.rig l.initial.machine) spares waiting) → HasTriedRead l.bay l.key l.address (l.attempt - 1) start l.last (shown l.self (g.C.Commands.rig l.machine) spares waiting);
}
