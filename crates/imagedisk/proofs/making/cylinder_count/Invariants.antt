use Rattle.std.proofs.Common.{◌≡◌, ◌≤◌, drop}
use Rattle.std.specs.Prelude.{max}
use Rattle.imagedisk.proofs.Common.{cylinder_count}
use Rattle.imagedisk.proofs.making.cylinder_count.Given as goal

abbrev pub invariant-loop-track : goal.invariant-loop-track
invariant-loop-track l = record {
  goes_on : max l.count (cylinder_count (drop l.track-index l.tracks)) ≡ cylinder_count l.tracks;
  least : 1 ≤ l.count;
  most : l.count ≤ 80;
}
