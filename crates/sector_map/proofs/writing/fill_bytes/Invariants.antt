use Rattle.std.proofs.Common.{◌≡◌, List, ℕ, ◌+◌, ◌++◌, take, drop}
use Rattle.sector_map.proofs.Common.{legal}
use Rattle.sector_map.proofs.writing.fill_bytes.Given as goal

-- the words so far, continued with the bytes that are left and any bytes after them, are the words of all of these
-- bytes
abbrev pub invariant-loop-i : goal.invariant-loop-i
invariant-loop-i l =
    (rest : List ℕ) → take (l.start + l.i) l.words ++ legal l.after (drop l.i l.bytes ++ rest) ≡ take l.start l.initial.words ++ legal l.last (l.bytes ++ rest)
