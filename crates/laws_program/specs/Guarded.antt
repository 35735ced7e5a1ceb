-- Which requests put a blank medium in, and under which name.
use Rattle.std.specs.Prelude.{◌≡◌, ℕ, List, [], ◌∷◌}
use Rattle.laws_program.specs.Common.{Request}
use Rattle.floppy_jobs.specs.declared.request.Request.TheVariants as request

-- the request puts in a blank medium under this name
abbrev pub BlanksUnder : List ℕ → Request → Type 0
BlanksUnder name (request.Blank bay other cylinders) = other ≡ name
BlanksUnder name (request.BlankDd bay other cylinders) = other ≡ name
BlanksUnder name _ = ⊥

-- none of the requests puts in a blank medium under this name
abbrev pub BlanksNone : List ℕ → List Request → Type 0
BlanksNone name [] = Unit {0}
BlanksNone name (asked ∷ later) = (BlanksUnder name asked → ⊥) × BlanksNone name later
