-- the bits of the digital input register
use Rattle.std.specs.Prelude.{ℕ, List, [], ◌∷◌, codes}

-- the selected drive's change line
abbrev pub changed : ℕ
changed = 0x80

-- each flag's name and its bits
abbrev pub named_bits : List (List ℕ × ℕ)
named_bits =
    (codes "CHANGED", changed)
    ∷ []
