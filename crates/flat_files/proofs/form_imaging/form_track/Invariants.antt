use Rattle.std.proofs.Common.{◌≡◌, All, map}
use Rattle.flat_files.proofs.Common.{range_with_len, IsImdSector, form_sector}
use Rattle.flat_files.proofs.form_imaging.form_track.Given as goal

abbrev pub invariant-loop-i : goal.invariant-loop-i
invariant-loop-i l = record {
  kept : l.kept ≡ map (form_sector l.form l.bytes l.track) (range_with_len 0 l.i);
  valid : All (IsImdSector l.form.n) l.kept;
}
