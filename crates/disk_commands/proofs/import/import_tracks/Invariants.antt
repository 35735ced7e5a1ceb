use Rattle.disk_commands.proofs.Common.{IsTurning, imports_track}
use Rattle.disk_commands.proofs.FlatTracks.{of_track}
use Rattle.disk_commands.proofs.import.import_tracks.Given as goal

abbrev pub invariant-loop-track : goal.invariant-loop-track
invariant-loop-track g l = IsTurning g.R.AnyRun.hand 0 160 (of_track (imports_track l.fn.flat l.fn.sectors)) tt l.fn.run l.track tt l.run
