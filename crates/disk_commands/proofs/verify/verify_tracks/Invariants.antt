use Rattle.std.proofs.Common.{◌≤◌, ◌+◌, ◌*◌}
use Rattle.disk_commands.proofs.Common.{each, IsTurning, verifies_track}
use Rattle.disk_commands.proofs.verify.verify_tracks.Given as goal

abbrev pub invariant-loop-c : goal.invariant-loop-c
invariant-loop-c g l = record {
  turning : IsTurning g.R.AnyRun.hand 0 l.fn.cylinders (λ c. each 0 l.fn.heads (verifies_track l.fn.sectors c)) l.fn.tally l.fn.run l.c l.now l.run;
  few : l.now.well ≤ l.fn.tally.well + 4590 * l.c;
}
