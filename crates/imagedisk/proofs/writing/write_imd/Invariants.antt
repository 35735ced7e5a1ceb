use Rattle.std.proofs.Common.{◌≡◌, ◌++◌, take}
use Rattle.imagedisk.proofs.Common.{flat_map, text, track_bytes}
use Rattle.imagedisk.proofs.writing.write_imd.Given as goal

abbrev pub invariant-loop-track : goal.invariant-loop-track
invariant-loop-track l = l.out.items ≡ text ++ flat_map (track_bytes l.image.rate) (take l.track-index l.image.tracks)
