use Rattle.std.proofs.Common.{◌≡◌}
use Rattle.sector_map.proofs.Common.{bytes_at, crc, after_marks}
use Rattle.sector_map.proofs.bytes.check_over.Given as goal

-- the CRC so far is that of the bytes so far
abbrev pub invariant-loop-i : goal.invariant-loop-i
invariant-loop-i l = l.check ≡ crc (after_marks (bytes_at l.words l.p l.i))
