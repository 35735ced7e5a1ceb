use Rattle.std.proofs.Common.{◌≡◌, ◌++◌, take}
use Rattle.raw_image.proofs.Common.{bytes_of}
use Rattle.raw_image.proofs.words.push_bytes.Given as goal

abbrev pub invariant-loop-word : goal.invariant-loop-word
invariant-loop-word l = l.bytes.items ≡ l.fn.bytes.items ++ bytes_of (take l.word-index l.words)
