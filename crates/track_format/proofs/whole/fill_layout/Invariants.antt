use Rattle.std.proofs.Common.{◌≡◌, ◌-◌, ◌≤◌, Bool, List, ◌++◌, length, take, drop}
use Rattle.track_format.proofs.Common.{flat_map, Symbol, lay, recorded, key_bytes, asked_in, Gives, filled}
use Rattle.track_format.proofs.whole.fill_layout.Given as goal

-- the words so far, and the words that the stream gives next, are together the track
abbrev pub invariant-loop-i : goal.invariant-loop-i
invariant-loop-i l =
    (last : Bool) × (left : List Symbol) × Gives l.stream last left
    × (take l.i l.words ++ recorded last (filled (length l.initial.words - length (take l.i l.words)) left) ≡ lay l.keys l.n l.gap3 l.fill (length l.initial.words))
    × (asked_in left ≡ drop l.asked (flat_map key_bytes l.keys))
    × (l.asked ≤ l.i)
