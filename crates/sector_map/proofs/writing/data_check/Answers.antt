use Rattle.std.proofs.Common.{sym, ◌∙◌, arith}
use Rattle.sector_map.proofs.Common.{at_drop_all, crc_from, crc_from_none}
use Rattle.sector_map.proofs.writing.data_check.Goals as goal

pub returns : goal.returns
returns c =
    let check = c.loop-byte.check in
    sym (at_drop_all (crc_from check) c.args.content.now c.loop-byte.byte-index (omega arith) ∙ crc_from_none check c.loop-byte.invariant.fits) ∙ c.loop-byte.invariant.goes_on
