use Rattle.std.proofs.Common.{◌≡◌, drop}
use Rattle.imagedisk.proofs.Common.{with_sectors}
use Rattle.imagedisk.proofs.tracks.put_sectors.Given as goal

abbrev pub invariant-loop-i : goal.invariant-loop-i
invariant-loop-i l = with_sectors l.n l.gap3 l.i (drop l.i l.sectors) l.words ≡ with_sectors l.n l.gap3 0 l.sectors l.initial.words
