use Rattle.std.specs.Prelude.{◌≡◌, drop, find}
use Rattle.flat_files.proofs.Common.{is_track}
use Rattle.flat_files.proofs.finding.sectors_on.Given as goal

abbrev pub invariant-loop-track : goal.invariant-loop-track
invariant-loop-track l = find (is_track l.c l.h) (drop l.track-index l.tracks) ≡ find (is_track l.c l.h) l.tracks
