-- Words as bytes.
use Rattle.std.specs.Prelude.{ℕ, ◌+◌, ◌*◌, List, [], ◌∷◌}
use Rattle.std.specs.List.{flat_map}
use Rattle.std.specs.Int.{w16, to_be_bytes}

-- the words that bytes spell, two bytes each, high byte first; an odd last byte is left out
abbrev pub words_of : List ℕ → List ℕ
words_of [] = []
words_of (high ∷ []) = []
words_of (high ∷ low ∷ rest) = (256 * high + low) ∷ words_of rest

-- the bytes of words, two each, high byte first
abbrev pub bytes_of : List ℕ → List ℕ
bytes_of words = flat_map (to_be_bytes w16) words
