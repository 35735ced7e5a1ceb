use Rattle.std.proofs.Common.{◌≤◌, ◌+◌, ◌*◌}
use Rattle.disk_commands.proofs.Common.{IsTurning, verifies_track}
use Rattle.disk_commands.proofs.verify.verify_cylinder.Given as goal

abbrev pub invariant-loop-h : goal.invariant-loop-h
invariant-loop-h g l = record {
  turning : IsTurning g.R.AnyRun.hand 0 l.fn.heads (verifies_track l.fn.sectors l.fn.c) l.fn.tally l.fn.run l.h l.now l.run;
  few : l.now.well ≤ l.fn.tally.well + 18 * l.h;
}
