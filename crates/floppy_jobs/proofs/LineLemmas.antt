-- Lines of a text, read one by one.
use Rattle.std.proofs.Common.{◌≡◌, ℕ, suc, ◌+◌, ◌<◌, ◌≤◌, Bool, true, false, eqb, cond, nat_lt, Some, None, List, [], ◌∷◌, ◌++◌, length, take, drop, Result, Ok, Err, refl, ap, arith}
use Rattle.std.proofs.lemmas.Bool.Decides.{nat_tests}
use Rattle.std.specs.List.{position_or_len, onto_first}
use Rattle.floppy_jobs.specs.Lines.{lines_of}

-- these items in front of what the further lines say
abbrev pub in_front : {T : Type 0} → List T → Result (List T) ℕ → Result (List T) ℕ
in_front items (Ok more) = Ok (items ++ more)
in_front items (Err bad) = Err bad

-- whether a byte is a line feed
abbrev pub feed : ℕ → Bool
feed b = eqb b 10

cons_taken : (b : ℕ) (bs : List ℕ) (p : ℕ)
    → (b ∷ take p bs) ∷ lines_of (drop (p + 1) bs) ≡ take (1 + p) (b ∷ bs) ∷ lines_of (drop (1 + p + 1) (b ∷ bs))
cons_taken b bs p =
    let outer : 1 + p + 1 ≡ suc (p + 1) = omega arith in
    let inner : 1 + p ≡ suc p = omega arith in
    rw (outer, inner) refl

first_step : (b : ℕ) (bs : List ℕ) (t : Bool) → eqb b 10 ≡ t
    → (position_or_len feed bs < length bs → lines_of bs ≡ take (position_or_len feed bs) bs ∷ lines_of (drop (position_or_len feed bs + 1) bs))
    → position_or_len feed (b ∷ bs) < length (b ∷ bs)
    → lines_of (b ∷ bs) ≡ take (position_or_len feed (b ∷ bs)) (b ∷ bs) ∷ lines_of (drop (position_or_len feed (b ∷ bs) + 1) (b ∷ bs))
first_step b bs true e ih h = rw e refl
first_step b bs false e ih h =
    let h' = rw e at h in
    let ih' = ih (omega (arith, h')) in
    rw (e, ih') (cons_taken b bs (position_or_len feed bs))

-- the first line ends at the first line feed
pub lines_of-first : (text : List ℕ) → position_or_len feed text < length text
    → lines_of text ≡ take (position_or_len feed text) text ∷ lines_of (drop (position_or_len feed text + 1) text)
lines_of-first [] h = absurd (omega arith)
lines_of-first (b ∷ bs) h = first_step b bs (eqb b 10) refl (lines_of-first bs) h

last_step : (b : ℕ) (bs : List ℕ) (t : Bool) → eqb b 10 ≡ t
    → (length bs ≤ position_or_len feed bs → 0 < length bs → lines_of bs ≡ bs ∷ [])
    → length (b ∷ bs) ≤ position_or_len feed (b ∷ bs) → lines_of (b ∷ bs) ≡ (b ∷ bs) ∷ []
last_step b bs true e ih h = let h' = rw e at h in absurd (omega (arith, h'))
last_step b [] false e ih h = rw e refl
last_step b (c ∷ cs) false e ih h =
    let h' = rw e at h in
    let ih' = ih (omega (arith, h')) (omega arith) in
    rw e (ap (onto_first b) ih')

-- the last line ends without a line feed
pub lines_of-last : (text : List ℕ) → length text ≤ position_or_len feed text → 0 < length text → lines_of text ≡ text ∷ []
lines_of-last [] h more = absurd (omega arith)
lines_of-last (b ∷ bs) h more = last_step b bs (eqb b 10) refl (lines_of-last bs) h

-- what an answer of `position` says
pub none_past : (p n : ℕ) → cond (nat_lt p n) (Some p) None ≡ None → n ≤ p
none_past p n h = grind (arith, nat_tests)

pub some_at : (p n i : ℕ) → cond (nat_lt p n) (Some p) None ≡ Some i → (i ≡ p) × (p < n)
some_at p n i h = grind (arith, nat_tests)
