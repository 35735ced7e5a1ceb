use Rattle.std.proofs.Common.{arith}
use Rattle.fdc_stages.proofs.Common.{nil_from_length}
use Rattle.fdc_stages.proofs.Words.{content_first, content_last}
use Rattle.fdc_stages.proofs.window.Window.give_byte.Goals as goal

pub returns-then-more-eq0 : goal.returns-then-more-eq0
returns-then-more-eq0 c = record {
  words = λ rest long.
      content_last c.args.self.now.last c.args.self.now.check c.crc_step-check.result c.args.byte c.encode_byte-word.result rest (nil_from_length rest long) c.crc_step-check.type_inv c.encode_byte-word.ensures c.crc_step-check.ensures.goes_on;
  bytes = λ rest long. let test = c.if-more-eq0.true in omega arith;
  count = let test = c.if-more-eq0.true in omega arith;
  lead = omega arith;
}

pub returns : goal.returns
returns c = record {
  words = λ rest long.
      content_first c.args.self.now.last c.args.self.now.check c.crc_step-check.result c.args.byte c.encode_byte-word.result rest c.encode_byte-word.ensures c.crc_step-check.ensures.goes_on;
  bytes = λ rest long. let test = c.if-more-eq0.false in omega arith;
  count = let test = c.if-more-eq0.false in omega arith;
  lead = omega arith;
}
