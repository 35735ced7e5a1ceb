-- Lines that are kept as bytes and lengths.
use Rattle.std.specs.Prelude.{ℕ, List, [], ◌∷◌, take, drop}

-- bytes, cut up into lines of these lengths
abbrev pub lines_in : List ℕ → List ℕ → List (List ℕ)
lines_in bytes [] = []
lines_in bytes (count ∷ counts) = take count bytes ∷ lines_in (drop count bytes) counts
