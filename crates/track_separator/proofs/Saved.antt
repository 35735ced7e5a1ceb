-- A separator is what its cells, its place and its stage are.
use Rattle.std.proofs.Common.{◌≡◌, ℕ, ◌<◌, ◌≤◌, refl, subst}
use Rattle.std.specs.Coded.{le_prop}
use Rattle.track_separator.proofs.Common.{size_in, since_in, Stage, Separator}

-- the separator with these parts
abbrev separator_of : (cells back : ℕ) (stage : Stage) → back < 16 → size_in stage ≤ 8192 → since_in stage < 1023 → Separator
separator_of cells back stage few small early =
    record { cells = cells; back = back; stage = stage; few = few; small = small; early = early }

-- the separator is the same, however its limits were proved
same_limits : (one : Separator) (few : one.back < 16) (small : size_in one.stage ≤ 8192) (early : since_in one.stage < 1023)
    → separator_of one.cells one.back one.stage few small early ≡ one
same_limits one few small early =
    rw (le_prop few one.few, le_prop small one.small, le_prop early one.early) refl

pub same_separator : (one : Separator) (cells back : ℕ) (stage : Stage)
    (few : back < 16) (small : size_in stage ≤ 8192) (early : since_in stage < 1023)
    → one.cells ≡ cells → one.back ≡ back → one.stage ≡ stage → separator_of cells back stage few small early ≡ one
same_separator one cells back stage few small early same_cells same_back same_stage =
    let P : ℕ → Type 0 = λ b. (few : b < 16) → separator_of cells b stage few small early ≡ one in
    let Q : Stage → Type 0 = λ s. (small : size_in s ≤ 8192) (early : since_in s < 1023) (few : one.back < 16)
    → separator_of cells one.back s few small early ≡ one in
    let R : ℕ → Type 0 = λ c. (small : size_in one.stage ≤ 8192) (early : since_in one.stage < 1023) (few : one.back < 16)
    → separator_of c one.back one.stage few small early ≡ one in
    subst P same_back (subst Q same_stage (subst R same_cells (λ s e f. same_limits one f s e)) small early) few
