use Rattle.std.proofs.Common.{◌≡◌, ◌++◌, map, take}
use Rattle.raw_image.proofs.Common.{w16, from_be_bytes}
use Rattle.raw_image.proofs.words.push_pairs.Given as goal

abbrev pub invariant-loop-pair : goal.invariant-loop-pair
invariant-loop-pair l = l.words.items ≡ l.fn.words.items ++ map (from_be_bytes w16) (take l.pair-index l.pairs)
