use Rattle.disk_commands.proofs.Common.{each, IsTurning, copies_track}
use Rattle.disk_commands.proofs.copy.copy_tracks.Given as goal

abbrev pub invariant-loop-c : goal.invariant-loop-c
invariant-loop-c g l = IsTurning g.R.AnyRun.hand 0 l.fn.cylinders (λ c. each 0 l.fn.heads (copies_track l.fn.sectors c)) tt l.fn.run l.c tt l.run
