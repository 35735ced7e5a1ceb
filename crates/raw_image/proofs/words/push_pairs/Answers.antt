use Rattle.std.proofs.Common.{◌≡◌, ◌∙◌, ap, map, take, List, ℕ, ◌++◌}
use Rattle.raw_image.proofs.Common.{w16, from_be_bytes, take_all}
use Rattle.raw_image.proofs.Pairs.{words_of-pairs}
use Rattle.raw_image.proofs.words.push_pairs.Goals as goal

pub returns-clause-words : goal.returns-clause-words
returns-clause-words c =
    let pairs = c.as_chunks.result.0.now in
    let whole : take c.loop-pair.pair-index pairs ≡ pairs = take_all c.loop-pair.pair-index pairs c.loop-pair-test.false in
    c.loop-pair.invariant ∙ ap (λ (ws : List ℕ). c.args.words.now.items ++ ws) (ap (map (from_be_bytes w16)) (whole ∙ c.as_chunks.ensures.front) ∙ words_of-pairs c.args.bytes.now)
