-- The records of the standard format are in rising order.
use Rattle.std.proofs.Common.{◌≡◌, ℕ, zero, suc, ◌+◌, ◌<◌, ◌≤◌, inl, inr, List, [], ◌∷◌, ◌++◌, length, get_or, map, refl, sym, ap, ◌∙◌, subst, arith}
use Rattle.rescue.proofs.Common.{flat_map_more, get_or-map, length-map, All-from_recursion, map-range_with_len_more, AllByRecursion, AllPairs, range_with_len, flat_map, Chrn, Rate, sectors_at, key_of, BadRequest, logged_keys, IsBefore, IsLog, LogLine}
use Rattle.std.proofs.lemmas.List.Kept.{AllPairs-cons}
use Rattle.std.specs.Prelude.{⊤}
use Rattle.sector_map.specs.Standard.{track_keys, cylinder_keys}
use Rattle.rescue.proofs.KeyLemmas.{range_suc}
use Rattle.rescue.specs.Course.{standard_keys}

-- each record is before all later ones
abbrev Rises : List Chrn → Type 0
Rises [] = ⊤
Rises (k ∷ ks) = AllByRecursion (IsBefore k) ks × Rises ks

pairs_rise : (ks : List Chrn) → Rises ks → AllPairs IsBefore ks
pairs_rise [] h = λ i j d order inside. absurd (omega arith)
pairs_rise (k ∷ ks) h = AllPairs-cons IsBefore k ks (All-from_recursion (IsBefore k) ks h.0) (pairs_rise ks h.1)

all-append : (P : Chrn → Type 0) (xs ys : List Chrn) → AllByRecursion P xs → AllByRecursion P ys → AllByRecursion P (xs ++ ys)
all-append P [] ys h k = k
all-append P (x ∷ xs) ys h k = (h.0, all-append P xs ys h.1 k)

all_weaker : (P Q : Chrn → Type 0) (xs : List Chrn) → ((x : Chrn) → P x → Q x) → AllByRecursion P xs → AllByRecursion Q xs
all_weaker P Q [] f h = tt
all_weaker P Q (x ∷ xs) f h = (f x h.0, all_weaker P Q xs f h.1)

rises-append : (xs ys : List Chrn) → Rises xs → Rises ys → AllByRecursion (λ x. AllByRecursion (IsBefore x) ys) xs → Rises (xs ++ ys)
rises-append [] ys h k c = k
rises-append (x ∷ xs) ys h k c = (all-append (IsBefore x) xs ys h.0 c.0, rises-append xs ys h.1 k c.1)

-- a list of records for each number, which is one part of their sector IDs; the parts above it are the same in all
record IsLevel (f : ℕ → List Chrn) (part : Chrn → ℕ) (Above : Chrn → Type 0) : Type 0 where
  pub rising : (n : ℕ) → Rises (f n)
  pub placed : (n : ℕ) → AllByRecursion (λ k. (part k ≡ n) × Above k) (f n)
  pub ordered : (a b : Chrn) → Above a → Above b → part a < part b → IsBefore a b

flat_suc : (f : ℕ → List Chrn) (n : ℕ) → flat_map f (range_with_len 0 (suc n)) ≡ flat_map f (range_with_len 0 n) ++ f n
flat_suc f n =
    let last : 0 + n ≡ n = omega arith in
    ap (flat_map f) (range_suc 0 n)
    ∙ sym (flat_map_more f [] (range_with_len 0 n) (0 + n))
    ∙ ap (λ m. flat_map f (range_with_len 0 n) ++ f m) last

below : (f : ℕ → List Chrn) (part : Chrn → ℕ) (Above : Chrn → Type 0) (n : ℕ) → IsLevel f part Above
    → AllByRecursion (λ k. (part k < n) × Above k) (flat_map f (range_with_len 0 n))
below f part Above zero level = tt
below f part Above (suc n) level =
    let P : Chrn → Type 0 = λ k. (part k < suc n) × Above k in
    let before : AllByRecursion P (flat_map f (range_with_len 0 n)) =
    all_weaker (λ k. (part k < n) × Above k) P _ (λ k h. let low = h.0 in (omega arith, h.1)) (below f part Above n level) in
    let here : AllByRecursion P (f n) = all_weaker (λ k. (part k ≡ n) × Above k) P _ (λ k h. let same = h.0 in (omega arith, h.1)) (level.placed n) in
    subst (AllByRecursion P) (sym (flat_suc f n)) (all-append P (flat_map f (range_with_len 0 n)) (f n) before here)

across : (f : ℕ → List Chrn) (part : Chrn → ℕ) (Above : Chrn → Type 0) (n : ℕ) → IsLevel f part Above
    → AllByRecursion (λ x. AllByRecursion (IsBefore x) (f n)) (flat_map f (range_with_len 0 n))
across f part Above n level =
    all_weaker (λ k. (part k < n) × Above k) (λ x. AllByRecursion (IsBefore x) (f n)) (flat_map f (range_with_len 0 n))
    (λ x h. all_weaker (λ k. (part k ≡ n) × Above k) (IsBefore x) (f n)
    (λ y k. let low = h.0 in let same = k.0 in level.ordered x y h.1 k.1 (omega arith)) (level.placed n))
    (below f part Above n level)

level_rises : (f : ℕ → List Chrn) (part : Chrn → ℕ) (Above : Chrn → Type 0) (n : ℕ) → IsLevel f part Above → Rises (flat_map f (range_with_len 0 n))
level_rises f part Above zero level = tt
level_rises f part Above (suc n) level =
    subst Rises (sym (flat_suc f n))
    (rises-append (flat_map f (range_with_len 0 n)) (f n) (level_rises f part Above n level) (level.rising n) (across f part Above n level))

-- tracks

track_more : (c h n : ℕ) → map (key_of c h) (range_with_len 1 (suc n)) ≡ map (key_of c h) (range_with_len 1 n) ++ key_of c h (suc n) ∷ []
track_more c h n =
    let count : suc n ≡ n + 1 = omega arith in
    ap (λ m. map (key_of c h) (range_with_len 1 m)) count ∙ map-range_with_len_more (key_of c h) 1 n (suc n) (omega arith)

abbrev OnTrack : ℕ → ℕ → ℕ → Chrn → Type 0
OnTrack c h n k = (k.h ≡ h) × ((k.c ≡ c) × (k.r ≤ n))

track_on : (c h n : ℕ) → AllByRecursion (OnTrack c h n) (map (key_of c h) (range_with_len 1 n))
track_on c h zero = tt
track_on c h (suc n) =
    subst (AllByRecursion (OnTrack c h (suc n))) (sym (track_more c h n))
    (all-append (OnTrack c h (suc n)) (map (key_of c h) (range_with_len 1 n)) (key_of c h (suc n) ∷ [])
    (all_weaker (OnTrack c h n) (OnTrack c h (suc n)) (map (key_of c h) (range_with_len 1 n)) (λ k on. let low = on.1.1 in (on.0, (on.1.0, omega arith))) (track_on c h n))
    ((refl, (refl, omega arith)), tt))

track_rises : (c h n : ℕ) → Rises (map (key_of c h) (range_with_len 1 n))
track_rises c h zero = tt
track_rises c h (suc n) =
    subst Rises (sym (track_more c h n))
    (rises-append (map (key_of c h) (range_with_len 1 n)) (key_of c h (suc n) ∷ []) (track_rises c h n) (tt, tt)
    (all_weaker (OnTrack c h n) (λ x. AllByRecursion (IsBefore x) (key_of c h (suc n) ∷ [])) (map (key_of c h) (range_with_len 1 n))
    (λ x on. let low = on.1.1 in (inr (on.1.0, inr (on.0, omega arith)), tt)) (track_on c h n)))

-- the heads of a cylinder
head_level : (sectors c : ℕ) → IsLevel (track_keys sectors c) (λ k. k.h) (λ k. k.c ≡ c)
unfolding track_keys
head_level sectors c = record {
  rising = λ h. track_rises c h sectors;
  placed = λ h. all_weaker (OnTrack c h sectors) (λ k. (k.h ≡ h) × (k.c ≡ c)) _ (λ k on. (on.0, on.1.0)) (track_on c h sectors);
  ordered = λ a b above above' less. inr (above ∙ sym above', inl less);
}

cylinder_rises : (sectors heads c : ℕ) → Rises (cylinder_keys sectors heads c)
unfolding cylinder_keys
cylinder_rises sectors heads c = level_rises (track_keys sectors c) (λ k. k.h) (λ k. k.c ≡ c) heads (head_level sectors c)

cylinder_on : (sectors heads c : ℕ) → AllByRecursion (λ k. (k.c ≡ c) × ⊤) (cylinder_keys sectors heads c)
unfolding cylinder_keys
cylinder_on sectors heads c =
    all_weaker (λ k. (k.h < heads) × (k.c ≡ c)) (λ k. (k.c ≡ c) × ⊤) _ (λ k on. (on.1, tt))
    (below (track_keys sectors c) (λ k. k.h) (λ k. k.c ≡ c) heads (head_level sectors c))

cylinder_level : (sectors heads : ℕ) → IsLevel (cylinder_keys sectors heads) (λ k. k.c) (λ k. ⊤)
cylinder_level sectors heads = record {
  rising = λ c. cylinder_rises sectors heads c;
  placed = λ c. cylinder_on sectors heads c;
  ordered = λ a b above above' less. inl less;
}

-- the records of a diskette are in rising order
pub standard_rises : (rate : Rate) (cylinders heads : ℕ) → AllPairs IsBefore (standard_keys rate cylinders heads)
unfolding standard_keys
standard_rises rate cylinders heads =
    pairs_rise _ (level_rises (cylinder_keys (sectors_at rate) heads) (λ k. k.c) (λ k. ⊤) cylinders (cylinder_level (sectors_at rate) heads))

-- the records of a log are in rising order
pub logged_rises : (sectors : ℕ) (lines : List LogLine) → IsLog sectors lines → AllPairs IsBefore (logged_keys lines)
logged_rises sectors lines log i j d order inside =
    let none : LogLine = record { key = d; code = BadRequest } in
    let count : length (logged_keys lines) ≡ length lines = length-map lines (λ (line : LogLine). line.key) in
    let low : get_or (logged_keys lines) i d ≡ (get_or lines i none).key = get_or-map (λ (line : LogLine). line.key) lines i none d (omega arith) in
    let high : get_or (logged_keys lines) j d ≡ (get_or lines j none).key = get_or-map (λ (line : LogLine). line.key) lines j none d (omega arith) in
    subst (λ (a : Chrn). IsBefore a (get_or (logged_keys lines) j d)) (sym low)
    (subst (λ (b : Chrn). IsBefore (get_or lines i none).key b) (sym high) (log.rising i j none order (omega arith)))
