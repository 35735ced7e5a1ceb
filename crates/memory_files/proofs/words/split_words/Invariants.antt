use Rattle.std.proofs.Common.{◌≡◌, take, map}
use Rattle.std.specs.Prelude.{string_bytes}
use Rattle.memory_files.proofs.words.split_words.Given as goal

-- the words so far are those that the first parts spell
abbrev pub invariant-loop-part : goal.invariant-loop-part
invariant-loop-part l = map string_bytes l.words.items ≡ map (λ part. part.now) (take l.part-index l.part-items)
