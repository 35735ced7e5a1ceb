use Rattle.std.proofs.Common.{arith}
use Rattle.std.proofs.Common.{[], ◌∷◌, ◌/◌, ◌%◌}
use Rattle.fdc_stages.proofs.Words.{byte_first}
use Rattle.fdc_stages.proofs.window.Window.give_high.Goals as goal

pub returns : goal.returns
returns c = λ byte. record {
  words = λ rest long. byte_first c.args.self.now.last (c.args.self.now.check / 256) c.encode_byte-word.result (c.args.self.now.check % 256 ∷ []) c.encode_byte-word.ensures;
  bytes = λ rest long. long;
  count = omega arith;
  lead = omega arith;
}
