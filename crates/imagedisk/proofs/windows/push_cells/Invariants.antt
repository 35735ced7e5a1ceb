use Rattle.std.proofs.Common.{◌≡◌, ◌++◌, drop}
use Rattle.imagedisk.proofs.Common.{legal}
use Rattle.imagedisk.proofs.windows.push_cells.Given as goal

-- the words so far, continued with the bytes that are left, are the words of all bytes
abbrev pub invariant-loop-byte : goal.invariant-loop-byte
invariant-loop-byte l = l.words.items ++ legal l.after (drop l.byte-index l.bytes) ≡ l.initial.words.items ++ legal l.last l.bytes
