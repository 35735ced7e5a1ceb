use Rattle.std.proofs.Common.{◌≤◌, ◌+◌}
use Rattle.disk_commands.proofs.Common.{IsTurning, verifies_record}
use Rattle.disk_commands.proofs.verify.verify_track.Given as goal

abbrev pub invariant-loop-r : goal.invariant-loop-r
invariant-loop-r g l = record {
  turning : IsTurning g.R.AnyRun.hand 1 l.fn.sectors (verifies_record l.fn.c l.fn.h) l.fn.tally l.fn.run l.r l.now l.run;
  few : l.now.well + 1 ≤ l.fn.tally.well + l.r;
}
