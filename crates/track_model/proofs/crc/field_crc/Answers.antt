use Rattle.std.proofs.Common.{sym, ◌∙◌, arith}
use Rattle.track_model.proofs.Common.{at_drop_all, crc_from}
use Rattle.track_model.proofs.CrcSteps.{crc_is_from, crc_from_none}
use Rattle.track_model.proofs.crc.field_crc.Goals as goal

pub loop-byte-init : goal.loop-byte-init
loop-byte-init c = record { goes_on = sym (crc_is_from c.args.bytes.now c.requires); fits = omega arith }

pub returns : goal.returns
returns c =
    let check = c.loop-byte.check in
    sym (at_drop_all (crc_from check) c.args.bytes.now c.loop-byte.byte-index (omega arith) ∙ crc_from_none check c.loop-byte.invariant.fits) ∙ c.loop-byte.invariant.goes_on
