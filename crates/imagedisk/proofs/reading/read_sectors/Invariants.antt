use Rattle.std.proofs.Common.{◌≡◌, ◌-◌, ◌≤◌, All, length}
use Rattle.imagedisk.proofs.Common.{IsImdSector, rest_of, key_at, sectors_at}
use Rattle.imagedisk.proofs.Loops.{with_front}
use Rattle.imagedisk.proofs.reading.read_sectors.Given as goal

abbrev pub invariant-loop-i : goal.invariant-loop-i
invariant-loop-i l = record {
  read : with_front l.sectors
      (sectors_at (key_at l.header l.maps.numbers.now l.maps.cylinders.now l.maps.heads.now) l.i (l.header.sectors - l.i) (rest_of l.rest))
      ≡ sectors_at (key_at l.header l.maps.numbers.now l.maps.cylinders.now l.maps.heads.now) 0 l.header.sectors (rest_of l.left);
  count : length l.sectors ≡ l.i;
  valid : All (IsImdSector l.header.n) l.sectors;
  shorter : length l.rest.bytes.now ≤ length l.left.bytes.now;
}
