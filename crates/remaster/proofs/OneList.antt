-- A track has only one list of address fields, and only one list of sectors.
use Rattle.std.proofs.Common.{◌≡◌, ◌⊎◌, ℕ, zero, suc, ◌<◌, List, [], ◌∷◌, length, map, drop, get_or, All, Contains, sym, ap, subst, ◌∙◌, refl, arith, inl, inr}
use Rattle.remaster.proofs.Common.{flat_map, AllPairs, Rate, Field, Look, AreAddresses, LookAt, one_look_at, LookedField, Sector, field_of, HasLook, AreLooked, found_at, AreSectors, IsFit, IsFitTrack, IsUnfitTrack}

abbrev Rising : List Field → Type 0
Rising fields = AllPairs (λ (a b : Field). a.place < b.place) fields

-- each field of the one list is in the other list
abbrev Within : List Field → List Field → Type 0
Within some all = All (λ field. Contains all field) some

first_or_later : (x z : Field) (xs : List Field) → Contains (x ∷ xs) z → (x ≡ z) ⊎ Contains xs z
first_or_later x z xs (zero, lt, is) = inl is
first_or_later x z xs (suc k, lt, is) = inr (k, omega arith, is)

rising_rest : (x : Field) (xs : List Field) → Rising (x ∷ xs) → Rising xs
rising_rest x xs rising = λ i j d lower within. rising (suc i) (suc j) d (omega arith) (omega arith)

-- the first field is at a lower place than each later one
below_later : (x z : Field) (xs : List Field) → Rising (x ∷ xs) → Contains xs z → x.place < z.place
below_later x z xs rising (k, lt, is) =
    subst (λ (field : Field). x.place < field.place) is (rising 0 (suc k) z (omega arith) (omega arith))

within_first : (x : Field) (xs all : List Field) → Within (x ∷ xs) all → Contains all x
within_first x xs all within = within 0 x (omega arith)

-- if the first fields are the same, the later fields of the one list are among the later fields of the other
within_rest : (x y : Field) (xs ys : List Field) → x ≡ y → Rising (x ∷ xs) → Within (x ∷ xs) (y ∷ ys) → Within xs ys
within_rest x y xs ys same rising within = λ k d lt.
    let z = get_or xs k d in
    let there : Contains (y ∷ ys) z = within (suc k) d (omega arith) in
    let later : x.place < z.place = rising 0 (suc k) d (omega arith) (omega arith) in
    elim (first_or_later y z ys there) [
      | inl first ↦ let e : x.place ≡ z.place = ap (λ (field : Field). field.place) (same ∙ first) in absurd (omega (arith, e, later))
      | inr rest ↦ rest
    ]

same_first : (x y : Field) (xs ys : List Field) → Rising (x ∷ xs) → Rising (y ∷ ys) → Within (x ∷ xs) (y ∷ ys) → Within (y ∷ ys) (x ∷ xs) → x ≡ y
same_first x y xs ys rising other within back =
    elim (first_or_later y x ys (within_first x xs (y ∷ ys) within)) [
      | inl first ↦ sym first
      | inr x_later ↦
          elim (first_or_later x y xs (within_first y ys (x ∷ xs) back)) [
            | inl first ↦ first
            | inr y_later ↦ absurd (omega (arith, below_later y x ys other x_later, below_later x y xs rising y_later))
          ]
    ]

-- two rising lists with the same fields are the same list
pub one_rising : (xs ys : List Field) → Rising xs → Rising ys → Within xs ys → Within ys xs → xs ≡ ys
one_rising [] [] rising other within back = refl
one_rising [] (y ∷ ys) rising other within back = let found = back 0 y (omega arith) in absurd (omega (arith, found.1))
one_rising (x ∷ xs) [] rising other within back = let found = within 0 x (omega arith) in absurd (omega (arith, found.1))
one_rising (x ∷ xs) (y ∷ ys) rising other within back =
    let same = same_first x y xs ys rising other within back in
    let rest : xs ≡ ys = one_rising xs ys (rising_rest x xs rising) (rising_rest y ys other) (within_rest x y xs ys same rising within) (within_rest y x ys xs (sym same) other back) in
    ap (λ (f : Field). f ∷ xs) same ∙ ap (λ fs. y ∷ fs) rest

one_fields : (track : List ℕ) (xs ys : List Field) → AreAddresses track xs → AreAddresses track ys → xs ≡ ys
one_fields track xs ys a b =
    one_rising xs ys a.ordered b.ordered (λ k d lt. b.all (get_or xs k d) (a.each k d lt)) (λ k d lt. a.all (get_or ys k d) (b.each k d lt))

-- lists with the same fields and the looks at them are the same list
one_looks : (track : List ℕ) (xs ys : List LookedField) → map field_of xs ≡ map field_of ys → All (HasLook track) xs → All (HasLook track) ys → xs ≡ ys
one_looks track [] [] e a b = refl
one_looks track [] (y ∷ ys) e a b = let long : 0 ≡ length (map field_of (y ∷ ys)) = ap length e in absurd (omega (arith, long))
one_looks track (x ∷ xs) [] e a b = let long : length (map field_of (x ∷ xs)) ≡ 0 = ap length e in absurd (omega (arith, long))
one_looks track (x ∷ xs) (y ∷ ys) e a b =
    let same : x.field ≡ y.field = ap (λ fields. get_or fields 0 x.field) e in
    let rest : map field_of xs ≡ map field_of ys = ap (λ fields. drop 1 fields) e in
    let here = subst (λ (field : Field). LookAt track field.place field.key.n x.look) same (a 0 x (omega arith)) in
    let look : x.look ≡ y.look = one_look_at track y.field.place y.field.key.n x.look y.look here (b 0 y (omega arith)) in
    let looked : Field → Look → LookedField = λ field seen. record { field = field; look = seen } in
    ap (λ (f : Field). looked f x.look ∷ xs) same ∙ ap (λ (l : Look). looked y.field l ∷ xs) look
    ∙ ap (λ fs. y ∷ fs) (one_looks track xs ys rest (λ k d lt. a (suc k) d (omega arith)) (λ k d lt. b (suc k) d (omega arith)))

pub one_looked : (track : List ℕ) (xs ys : List LookedField) → AreLooked track xs → AreLooked track ys → xs ≡ ys
one_looked track xs ys a b = one_looks track xs ys (one_fields track (map field_of xs) (map field_of ys) a.fields b.fields) a.looks b.looks

pub one_sectors : (track : List ℕ) (xs ys : List Sector) → AreSectors track xs → AreSectors track ys → xs ≡ ys
one_sectors track xs ys a b =
    a.found ∙ ap (flat_map (found_at track)) (one_looked track a.looked b.looked a.exact b.exact) ∙ sym b.found

pub not_both : (rate : Rate) (c h : ℕ) (track : List ℕ) → IsFitTrack rate c h track → IsUnfitTrack rate c h track → ⊥
not_both rate c h track fit unfit = unfit.2 (subst (IsFit rate c h) (one_sectors track fit.0 unfit.0 fit.1 unfit.1) fit.2)
