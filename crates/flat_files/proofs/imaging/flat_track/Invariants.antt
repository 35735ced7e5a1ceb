use Rattle.std.proofs.Common.{◌≡◌, All, map}
use Rattle.flat_files.proofs.Common.{range_with_len, IsImdSector, flat_sector}
use Rattle.flat_files.proofs.imaging.flat_track.Given as goal

abbrev pub invariant-loop-i : goal.invariant-loop-i
invariant-loop-i l = record {
  kept : l.kept ≡ map (flat_sector l.bytes l.sectors l.c l.h) (range_with_len 0 l.i);
  valid : All (IsImdSector 2) l.kept;
}
