use Rattle.std.proofs.Common.{arith}
use Rattle.fdc_stages.proofs.Words.{mark_first}
use Rattle.fdc_stages.proofs.window.Window.give_mark.Goals as goal

pub returns : goal.returns
returns c = λ byte. record {
  words = λ rest long.
      mark_first c.args.self.now.deleted c.mark_byte-mark.result c.mark_crc-check.result c.encode_byte.result rest c.mark_byte-mark.ensures c.encode_byte.ensures c.mark_crc-check.ensures.goes_on;
  bytes = λ rest long. long;
  count = omega arith;
  lead = omega arith;
}
