use Rattle.std.proofs.Common.{◌≡◌, ◌∷◌, ◌^◌, ◌<◌, drop}
use Rattle.sector_map.proofs.Common.{crc, crc_from, after_marks}
use Rattle.sector_map.proofs.writing.data_check.Given as goal

-- the CRC so far, continued over the bytes that are left, is the CRC of all bytes
abbrev pub invariant-loop-byte : goal.invariant-loop-byte
invariant-loop-byte l = record {
  goes_on : crc_from l.check (drop l.byte-index l.content) ≡ crc (after_marks (l.mark ∷ l.content));
  fits : l.check < 2 ^ 16;
}
