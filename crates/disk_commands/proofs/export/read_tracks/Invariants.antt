use Rattle.disk_commands.proofs.Common.{IsTurning, reads_track}
use Rattle.disk_commands.proofs.FlatTracks.{of_track}
use Rattle.disk_commands.proofs.export.read_tracks.Given as goal

abbrev pub invariant-loop-track : goal.invariant-loop-track
invariant-loop-track g l = IsTurning g.R.AnyRun.hand 0 160 (of_track (reads_track l.fn.sectors)) l.fn.flat.items l.fn.run l.track l.flat.items l.run
