-- A list is read value by value.
use Rattle.std.proofs.Common.{◌≡◌, ℕ, List, [], ◌∷◌, ◌++◌, length, refl, arith}
use Rattle.std.proofs.lemmas.Grind.{common_steps}
use Rattle.saved_state.specs.Saved.{Gives, spelled_list, spelled_each, EachFits}

-- what is left of a list of which `list` was read
abbrev pub Left : {A : Type 0} → (A → Type 0) → (A → List ℕ → List ℕ) → List A → List A → List ℕ → List ℕ → Type 0
Left {A = A} fits spelled values list here rest =
    (left : List A) × EachFits fits left × (values ≡ list ++ left) × (here ≡ spelled_list spelled left rest)

-- the byte that comes next
abbrev pub Next : List ℕ → ℕ → List ℕ → Type 0
Next here byte after = (b : ℕ) (r : List ℕ) → here ≡ b ∷ r → (byte ≡ b) × (after ≡ r)

-- after a 1 there is a value
pub next_value : {A : Type 0} (fits : A → Type 0) (spelled : A → List ℕ → List ℕ) (values list longer : List A) (read : A)
    (here behind after rest : List ℕ) (byte : ℕ)
    → Left fits spelled values list here rest → Next here byte behind → byte ≡ 1 → Gives fits spelled behind read after
    → longer ≡ list ++ read ∷ [] → Left fits spelled values longer after rest
unfolding spelled_list
next_value fits spelled values list longer read here behind after rest byte ([], f, e, h) next is gives more =
    absurd (omega (arith, is, (next 0 rest h).0))
next_value fits spelled values list longer read here behind after rest byte (x ∷ xs, f, e, h) next is gives more =
    let it = gives x (spelled_list spelled xs rest) f.0 (next 1 _ h).1 in
    (xs, f.1, (rw (more, it.0, e) grind (arith, common_steps)), it.1)

-- after any other byte there is none
pub no_value : {A : Type 0} (fits : A → Type 0) (spelled : A → List ℕ → List ℕ) (values list : List A)
    (here behind rest : List ℕ) (byte : ℕ)
    → Left fits spelled values list here rest → Next here byte behind → (byte ≡ 1 → ⊥) → (list ≡ values) × (behind ≡ rest)
unfolding spelled_list
no_value fits spelled values list here behind rest byte ([], f, e, h) next isnt = (rw e grind (arith, common_steps), (next 0 rest h).1)
no_value fits spelled values list here behind rest byte (x ∷ xs, f, e, h) next isnt = absurd (isnt (next 1 _ h).0)

-- four values, one after the other
pub four_values : {A : Type 0} (fits : A → Type 0) (spelled : A → List ℕ → List ℕ) (values : List A)
    (here behind1 behind2 behind3 behind4 rest : List ℕ) (read1 read2 read3 read4 : A)
    → length values ≡ 4 → EachFits fits values → here ≡ spelled_each spelled values rest
    → Gives fits spelled here read1 behind1 → Gives fits spelled behind1 read2 behind2
    → Gives fits spelled behind2 read3 behind3 → Gives fits spelled behind3 read4 behind4
    → (read1 ∷ read2 ∷ read3 ∷ read4 ∷ [] ≡ values) × (behind4 ≡ rest)
unfolding spelled_each
four_values fits spelled (a ∷ b ∷ c ∷ d ∷ []) here _ _ _ _ rest _ _ _ _ four f is first second third fourth =
    let one = first a _ f.0 is in
    let two = second b _ f.1.0 one.1 in
    let three = third c _ f.1.1.0 two.1 in
    let last = fourth d rest f.1.1.1.0 three.1 in
    (rw (one.0, two.0, three.0, last.0) refl, last.1)
four_values fits spelled _ _ _ _ _ _ _ _ _ _ _ four _ _ _ _ _ _ = absurd (omega (arith, four))

-- if each value of a type fits, so does each value of a list
pub each_fits : {A : Type 0} (fits : A → Type 0) → ((value : A) → fits value) → (values : List A) → EachFits fits values
each_fits fits all [] = tt
each_fits fits all (value ∷ values) = (all value, each_fits fits all values)
