use Rattle.std.proofs.Common.{arith}
use Rattle.rescue.proofs.Common.{BadRequest}
use Rattle.rescue.proofs.LogLemmas.{text_upto}
use Rattle.rescue.proofs.write.write_log.Goals as goal

pub loop-line-preserved : goal.loop-line-preserved
loop-line-preserved c =
    let more = text_upto c.args.lines.now c.loop-line.line-index (record { key = record { c = 0; h = 0; r = 0; n = 0 }; code = BadRequest }) (omega arith) in
    cc (more, c.in_ok-extend_from_slice.ensures.items, c.as_bytes.ensures.value, c.in_ok-text.ensures.ok, c.loop-line.invariant)
