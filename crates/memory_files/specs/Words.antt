-- Arguments in one text.
use Rattle.std.specs.Prelude.{ℕ, ◌==◌, List}
use Rattle.std.specs.List.{slice_split}

-- what stands between the line feeds of a text
abbrev pub words_in : List ℕ → List (List ℕ)
words_in text = slice_split (λ b. b == 10) text
