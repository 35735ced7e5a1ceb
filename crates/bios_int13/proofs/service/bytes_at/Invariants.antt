use Rattle.std.proofs.Common.{◌≡◌, ◌+◌, ◌≤◌, length, take, drop}
use Rattle.bios_int13.proofs.service.bytes_at.Given as goal

abbrev pub invariant-loop-i : goal.invariant-loop-i
invariant-loop-i g l = record {
  kept : take l.i l.kept ≡ take l.i (drop l.fn.address l.fn.session.station.memory);
  long : length l.kept ≡ 512;
  room : l.fn.address + 512 ≤ length l.fn.session.station.memory;
}
