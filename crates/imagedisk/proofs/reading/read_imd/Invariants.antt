use Rattle.std.proofs.Common.{◌≡◌, All, AllPairs, [], length, None}
use Rattle.imagedisk.proofs.Common.{IsImdTrack, AreApart, rest_of, image_of}
use Rattle.imagedisk.proofs.Loops.{ComesTo}
use Rattle.imagedisk.proofs.reading.read_imd.Given as goal

abbrev pub invariant-loop-left : goal.invariant-loop-left
invariant-loop-left l = record {
  comes : ComesTo l.rate l.tracks (rest_of l.left) (image_of l.bytes);
  each : All IsImdTrack l.tracks;
  apart : AllPairs AreApart l.tracks;
  rate : l.tracks ≡ [] → l.rate ≡ None;
}

abbrev pub decreases-loop-left : goal.decreases-loop-left
decreases-loop-left l = length l.left.bytes.now
