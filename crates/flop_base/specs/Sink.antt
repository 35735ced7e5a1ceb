-- Printed lines as contracts see them: each is what one call of `put` printed.
use Rattle.std.specs.Prelude.{◌≡◌, ℕ, List, [], ◌∷◌, ◌++◌, Option, Some, None}
use Rattle.std.specs.List.{flat_map}

-- the bytes of the lines, one line after the other
abbrev pub joined : List (List ℕ) → List ℕ
joined lines = flat_map (λ line. line) lines

-- the lines so far, if they are known, with these after them
abbrev pub grown : Option (List (List ℕ)) → List (List ℕ) → Option (List (List ℕ))
grown None lines = None
grown (Some told) lines = Some (told ++ lines)

-- what is printed of the next line if it isn't printed whole: nothing, or a first part of it as one line
abbrev pub IsCutOf : List (List ℕ) → List (List ℕ) → Type 0
IsCutOf next [] = Unit {0}
IsCutOf [] (cut ∷ others) = ⊥
IsCutOf (line ∷ later) (cut ∷ others) = (rest : List ℕ) × (line ≡ cut ++ rest) × (others ≡ [])

-- the lines so far, if they are known, have grown by the first of these, and perhaps by a first part of the next one
abbrev pub GrowsByPart : Option (List (List ℕ)) → List (List ℕ) → Option (List (List ℕ)) → Type 0
GrowsByPart None lines new = new ≡ None
GrowsByPart (Some told) lines new =
    (whole : List (List ℕ)) × (next : List (List ℕ)) × (cut : List (List ℕ))
    × (lines ≡ whole ++ next) × IsCutOf next cut × (new ≡ Some (told ++ (whole ++ cut)))
