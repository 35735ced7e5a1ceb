use Rattle.std.proofs.Common.{◌≡◌, All, map}
use Rattle.flat_files.proofs.Common.{range_with_len, IsImdTrack, form_track}
use Rattle.flat_files.proofs.form_imaging.form_image.Given as goal

abbrev pub invariant-loop-track : goal.invariant-loop-track
invariant-loop-track l = record {
  tracks : l.tracks ≡ map (form_track l.form l.bytes) (range_with_len 0 l.track);
  valid : All IsImdTrack l.tracks;
}
