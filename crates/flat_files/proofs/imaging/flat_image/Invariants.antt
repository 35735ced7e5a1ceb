use Rattle.std.proofs.Common.{◌≡◌, All, map}
use Rattle.flat_files.proofs.Common.{range_with_len, IsImdTrack, flat_track}
use Rattle.flat_files.proofs.imaging.flat_image.Given as goal

abbrev pub invariant-loop-track : goal.invariant-loop-track
invariant-loop-track l = record {
  tracks : l.tracks ≡ map (flat_track l.bytes l.sectors) (range_with_len 0 l.track);
  valid : All IsImdTrack l.tracks;
}
