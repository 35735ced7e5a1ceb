use Rattle.std.proofs.Common.{[], ◌∷◌, ◌++◌, arith, ◌≤◌}
use Rattle.fdc_stages.proofs.Common.{words_of_field}
use Rattle.fdc_stages.proofs.Words.{sync_first}
use Rattle.fdc_stages.proofs.window.Window.give_sync.Goals as goal

pub returns : goal.returns
returns c = λ byte. record {
  words = λ rest long.
      let several : 1 ≤ c.args.more = (let test = c.if-more-eq0.false in omega arith) in
      sync_first c.args.more c.encode_byte-word.result ((0x4489 ∷ 0x4489 ∷ 0x4489 ∷ []) ++ words_of_field c.args.self.now.deleted rest) several c.encode_byte-word.ensures;
  bytes = λ rest long. long;
  count = let test = c.if-more-eq0.false in omega arith;
  lead = let test = c.if-more-eq0.false in omega arith;
}
