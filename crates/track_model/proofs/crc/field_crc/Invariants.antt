use Rattle.std.proofs.Common.{◌≡◌, ◌^◌, ◌<◌, drop}
use Rattle.track_model.proofs.Common.{crc, crc_from}
use Rattle.track_model.proofs.crc.field_crc.Given as goal

-- the CRC so far, going on over the bytes that are left, is the whole one
abbrev pub invariant-loop-byte : goal.invariant-loop-byte
invariant-loop-byte l =
    record { goes_on : crc_from l.check (drop l.byte-index l.bytes) ≡ crc l.bytes; fits : l.check < 2 ^ 16 }
