use Rattle.std.proofs.Common.{◌≡◌, length, All}
use Rattle.imagedisk.proofs.Common.{IsImdSector}
use Rattle.imagedisk.proofs.Held.{AreSectorsBelow}
use Rattle.imagedisk.proofs.fields.sectors_of.Given as goal

abbrev pub invariant-loop-field : goal.invariant-loop-field
invariant-loop-field l = record {
  count : length l.sectors ≡ l.field-index;
  each : AreSectorsBelow l.words l.fields l.sectors l.field-index;
  valid : All (IsImdSector l.n) l.sectors;
}
