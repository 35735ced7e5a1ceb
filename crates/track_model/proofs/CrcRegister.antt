-- The division as a register of sixteen bits, which is the same whatever follows.
use Rattle.std.proofs.Common.{◌≡◌, ℕ, zero, suc, ◌-◌, ◌≤◌, Bool, true, false, not, cond, List, [], ◌∷◌, ◌++◌, length, replicate, refl, sym, ◌∙◌, ap, arith, length-append, length-drop}
use Rattle.track_model.proofs.Common.{polynomial}
use Rattle.track_model.specs.Crc.{bits, invert, reduced, divided}

-- ---- patterns

twice : (f g b : Bool) → cond f (not (cond g (not b) b)) (cond g (not b) b) ≡ cond (cond f (not g) g) (not b) b
twice true true true = refl
twice true true false = refl
twice true false b = refl
twice false true b = refl
twice false false b = refl

-- to invert by one pattern and then by another is to invert by both at once
pub invert-invert : (p q row : List Bool) → length p ≡ length q → invert p (invert q row) ≡ invert (invert p q) row
unfolding invert
invert-invert [] q row e = refl
invert-invert (f ∷ p) [] row e = absurd (omega arith)
invert-invert (f ∷ p) (g ∷ q) [] e = refl
invert-invert (f ∷ p) (g ∷ q) (b ∷ row) e =
    let head = twice f g b in
    let same : length p ≡ length q = omega arith in
    let rest = invert-invert p q row same in
    cc

pub length-invert : (p row : List Bool) → length (invert p row) ≡ length row
unfolding invert
length-invert (f ∷ p) (b ∷ row) = ap suc (length-invert p row)
length-invert _ _ = refl

-- a last zero inverts nothing
invert-append_false : (p row : List Bool) → invert (p ++ false ∷ []) row ≡ invert p row
unfolding invert
invert-append_false [] [] = refl
invert-append_false [] (b ∷ row) = refl
invert-append_false (f ∷ p) [] = refl
invert-append_false (f ∷ p) (b ∷ row) = ap (λ r. cond f (not b) b ∷ r) (invert-append_false p row)

pub invert-append : (p q row tail : List Bool) → length p ≡ length row → invert (p ++ q) (row ++ tail) ≡ invert p row ++ invert q tail
unfolding invert
invert-append [] q [] tail e = refl
invert-append (f ∷ p) q (b ∷ row) tail e =
    let same : length p ≡ length row = omega arith in
    ap (λ r. cond f (not b) b ∷ r) (invert-append p q row tail same)
invert-append _ q _ tail e = absurd (omega arith)

-- a pattern no longer than a row leaves what follows the row
pub invert_front : (p row tail : List Bool) → length p ≤ length row → invert p (row ++ tail) ≡ invert p row ++ tail
unfolding invert
invert_front [] row tail h = refl
invert_front (f ∷ p) [] tail h = absurd (omega arith)
invert_front (f ∷ p) (b ∷ row) tail h =
    let within : length p ≤ length row = omega arith in
    ap (λ r. cond f (not b) b ∷ r) (invert_front p row tail within)

at_zero : (f : Bool) → cond f (not false) false ≡ f
at_zero true = refl
at_zero false = refl

-- a pattern on zeros is the pattern
pub invert-zeros : (n : ℕ) (p : List Bool) → length p ≡ n → invert p (replicate n false) ≡ p
unfolding invert
invert-zeros zero [] e = refl
invert-zeros (suc n) (f ∷ p) e =
    let head = at_zero f in
    let same : length p ≡ n = omega arith in
    let rest = invert-zeros n p same in
    cc
invert-zeros _ _ e = absurd (omega arith)

-- a pattern of zeros inverts nothing
pub zeros_invert : (n : ℕ) (row : List Bool) → invert (replicate n false) row ≡ row
unfolding invert
zeros_invert (suc n) (b ∷ row) = ap (λ r. b ∷ r) (zeros_invert n row)
zeros_invert _ _ = refl

-- ---- the register

-- the polynomial without its first bit, a 1
abbrev pub low : List Bool
low = bits 16 0x1021

-- the register after one more bit
unfoldable pub shifted : List Bool → Bool → List Bool
shifted [] bit = []
shifted (first ∷ row) bit = cond (cond first (not bit) bit) (invert low (row ++ false ∷ [])) (row ++ false ∷ [])

-- the register after more bits
unfoldable pub after : List Bool → List Bool → List Bool
after register [] = register
after register (bit ∷ row) = after (shifted register bit) row

length-low : length low ≡ 16
unfolding bits
length-low = refl

length-shifted : (register : List Bool) (bit : Bool) → length register ≡ 16 → length (shifted register bit) ≡ 16
unfolding shifted
length-shifted [] bit e = absurd (omega arith)
length-shifted (first ∷ row) bit e =
    let long : length (row ++ false ∷ []) ≡ 16 = omega (arith, length-append row (false ∷ [])) in
    elim (cond first (not bit) bit) as (λ b. length (cond b (invert low (row ++ false ∷ [])) (row ++ false ∷ [])) ≡ 16) [
      | true ↦ length-invert low (row ++ false ∷ []) ∙ long
      | false ↦ long
    ]

pub length-after : (row register : List Bool) → length register ≡ 16 → length (after register row) ≡ 16
unfolding after
length-after [] register e = e
length-after (bit ∷ row) register e = length-after row (shifted register bit) (length-shifted register bit e)

pub after-append : (a b register : List Bool) → after register (a ++ b) ≡ after (after register a) b
unfolding after
after-append [] b register = refl
after-append (bit ∷ a) b register = after-append a b (shifted register bit)

-- a step that finds a 1
one_step : (row tail : List Bool) → length row ≡ 15 → invert low (invert row tail) ≡ invert (invert low (row ++ false ∷ [])) tail
one_step row tail e =
    let long : length low ≡ length (row ++ false ∷ []) = omega (arith, length-low, length-append row (false ∷ [])) in
    ap (invert low) (sym (invert-append_false row tail)) ∙ invert-invert low (row ++ false ∷ []) tail long

-- one step of the division takes the next bit into the register
reduced_step : (register : List Bool) (bit : Bool) (tail : List Bool) → length register ≡ 16 → reduced (invert register (bit ∷ tail)) ≡ invert (shifted register bit) tail
unfolding reduced invert shifted bits
reduced_step [] bit tail e = absurd (omega arith)
reduced_step (true ∷ row) true tail e = sym (invert-append_false row tail)
reduced_step (true ∷ row) false tail e = let short : length row ≡ 15 = omega arith in one_step row tail short
reduced_step (false ∷ row) true tail e = let short : length row ≡ 15 = omega arith in one_step row tail short
reduced_step (false ∷ row) false tail e = sym (invert-append_false row tail)

pub divided_row : (row register tail : List Bool) → length register ≡ 16 → divided (length row) (invert register (row ++ tail)) ≡ invert (after register row) tail
unfolding divided after
divided_row [] register tail e = refl
divided_row (bit ∷ row) register tail e =
    ap (divided (length row)) (reduced_step register bit (row ++ tail) e) ∙ divided_row row (shifted register bit) tail (length-shifted register bit e)

abbrev pub zeros : List Bool
zeros = replicate 16 false

-- what is left of a row and sixteen zeros is the register
pub divided-zeros : (row register : List Bool) → length register ≡ 16 → divided (length row) (invert register (row ++ zeros)) ≡ after register row
divided-zeros row register e = divided_row row register zeros e ∙ invert-zeros 16 (after register row) (length-after row register e)

-- ---- what is left of a row

length-reduced : (row : List Bool) → length (reduced row) ≡ length row - 1
unfolding reduced bits
length-reduced [] = refl
length-reduced (false ∷ row) = omega arith
length-reduced (true ∷ row) =
    omega (arith, length-drop 1 (invert polynomial (true ∷ row)), length-invert polynomial (true ∷ row))

length-divided : (count : ℕ) (row : List Bool) → length (divided count row) ≡ length row - count
unfolding divided
length-divided zero row = omega arith
length-divided (suc count) row = omega (arith, length-divided count (reduced row), length-reduced row)

-- of sixteen bits and more, sixteen are left
pub sixteen_left : (row : List Bool) → 16 ≤ length row → length (divided (length row - 16) row) ≡ 16
sixteen_left row h = omega (arith, length-divided (length row - 16) row)
