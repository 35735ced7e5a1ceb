use Rattle.std.proofs.Common.{◌≡◌, ℕ, ◌*◌, List, Err}
use Rattle.floppy_driver.proofs.Common.{in_bay, DriveCounts, GoesOn, CostsFor, shown, CanWrite, format_once_port_accesses, format_steps, format_turns, format_of, FormatsIn, HasOnlyMedium}
use Rattle.floppy_driver.proofs.driver.Driver.format_in_attempts.Given as goal

abbrev pub invariant-loop : goal.invariant-loop
invariant-loop g l = record {
  idle : g.C.Commands.is_idle l.machine;
  can : CanWrite l.self (g.C.Commands.rig l.machine) l.bay;
  tries : l.self.tries ≡ l.initial.self.tries;
  counts : GoesOn (g.C.Commands.rig l.initial.machine).counters (g.C.Commands.rig l.machine).counters;
  cost : CostsFor l.bay (l.counter * format_turns l.asked.rate) (l.counter * format_steps l.asked.rate) (l.counter * format_once_port_accesses l.asked.rate)
      (g.C.Commands.rig l.initial.machine) (g.C.Commands.rig l.machine);
  formats : FormatsIn l.counter (format_of l.asked) l.bay (in_bay (g.C.Commands.rig l.initial.machine).media l.bay)
      (in_bay (g.C.Commands.rig l.machine).media l.bay) (g.C.Commands.rig l.initial.machine).counters
      (Err l.last) (g.C.Commands.rig l.machine).counters;
  medium : (spares : ℕ) (waiting : List DriveCounts) → HasOnlyMedium
      l.bay (in_bay (g.C.Commands.rig l.machine).media l.bay) (shown l.initial.self (g.C.Commands.rig l.initial.machine) spares waiting)
      (shown l.self (g.C.Commands.rig l.machine) spares waiting);
}
