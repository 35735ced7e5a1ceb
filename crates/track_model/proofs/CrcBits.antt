-- Numbers and the rows of their bits.
use Rattle.std.proofs.Common.{◌≡◌, ℕ, zero, suc, ◌+◌, ◌-◌, ◌*◌, ◌/◌, ◌%◌, ◌^◌, ◌<◌, ◌≤◌, Bool, true, false, not, cond, eqb, List, [], ◌∷◌, ◌++◌, length, refl, sym, ◌∙◌, ap, arith}
use Rattle.track_model.proofs.Common.{mod-eq_of_lt, bit_at, bit_xor, pow-add, mod-pow-add, shr-shr, bit_at_xor, bit_at_cat_low, bit_at_cat_high, bit_at-lt, bit_at_lowest}
use Rattle.track_model.specs.Crc.{bits, number_in, invert}

-- ---- numbers and their bits

pub length-bits : (n x : ℕ) → length (bits n x) ≡ n
unfolding bits
length-bits zero x = refl
length-bits (suc n) x = ap suc (length-bits n x)

-- the low bits of a number don't depend on what stands above them
pub bits_low : (k n a r : ℕ) → k ≤ n → bits k (a * 2 ^ n + r) ≡ bits k r
unfolding bits
bits_low zero n a r h = refl
bits_low (suc k) n a r h =
    let within : k < n = omega arith in
    let before : k ≤ n = omega arith in
    let head = bit_at_cat_low a n r k within in
    let rest = bits_low k n a r before in
    cc

-- a digit before n bits
bits-cat : (n a r : ℕ) → a < 2 → r < 2 ^ n → bits (suc n) (a * 2 ^ n + r) ≡ eqb a 1 ∷ bits n r
unfolding bits
bits-cat n a r small h =
    let lowest : n - n ≡ 0 = omega arith in
    let digit_is : a % 2 ≡ a = omega arith in
    let here : bit_at (a * 2 ^ n + r) n ≡ a = bit_at_cat_high a n r n h (omega arith) ∙ ap (bit_at a) lowest ∙ bit_at_lowest a ∙ digit_is in
    let rest = bits_low n n a r (omega arith) in
    cc

twice_pow : (n : ℕ) → 2 ^ suc n ≡ 2 * 2 ^ n
twice_pow n = let e : suc n ≡ 1 + n = omega arith in ap (λ k. 2 ^ k) e ∙ pow-add 2 1 n

pub number_in_below : (row : List Bool) → number_in row < 2 ^ length row
unfolding number_in
number_in_below [] = omega arith
number_in_below (true ∷ row) = omega (arith, number_in_below row, twice_pow (length row))
number_in_below (false ∷ row) = omega (arith, number_in_below row, twice_pow (length row))

no_bits : (x : ℕ) → bits 0 x ≡ []
unfolding bits
no_bits x = refl

pub bits-number_in : (row : List Bool) → bits (length row) (number_in row) ≡ row
unfolding number_in
bits-number_in [] = no_bits 0
bits-number_in (true ∷ row) =
    let e : 2 ^ length row + number_in row ≡ 1 * 2 ^ length row + number_in row = omega arith in
    ap (bits (suc (length row))) e ∙ bits-cat (length row) 1 (number_in row) (omega arith) (number_in_below row) ∙ ap (λ r. true ∷ r) (bits-number_in row)
bits-number_in (false ∷ row) =
    let e : 0 + number_in row ≡ 0 * 2 ^ length row + number_in row = omega arith in
    ap (bits (suc (length row))) e ∙ bits-cat (length row) 0 (number_in row) (omega arith) (number_in_below row) ∙ ap (λ r. false ∷ r) (bits-number_in row)

digit : (d p : ℕ) → d < 2 → cond (eqb d 1) p 0 ≡ d * p
digit (suc (suc d)) p h = absurd (omega arith)
digit _ p h = omega arith

number_in-bits : (n x : ℕ) → number_in (bits n x) ≡ x % 2 ^ n
unfolding bits number_in
number_in-bits zero x = omega arith
number_in-bits (suc n) x =
    let here = digit (bit_at x n) (2 ^ length (bits n x)) (bit_at-lt x n) in
    let long = ap (λ k. 2 ^ k) (length-bits n x) in
    let one : 1 + n ≡ suc n = omega arith in
    let split = mod-pow-add x 1 n in
    let goal_side = ap (λ k. x % 2 ^ k) one in
    let rest = number_in-bits n x in
    let head : cond (eqb (bit_at x n) 1) (2 ^ length (bits n x)) 0 ≡ bit_at x n * 2 ^ n = here ∙ ap (λ p. bit_at x n * p) long in
    ap (λ h. h + number_in (bits n x)) head ∙ ap (λ r. bit_at x n * 2 ^ n + r) rest ∙ sym split ∙ goal_side

-- a number below 2 ^ n is what its n bits write
pub number_in-bits_below : (n x : ℕ) → x < 2 ^ n → number_in (bits n x) ≡ x
number_in-bits_below n x h = number_in-bits n x ∙ mod-eq_of_lt h

-- the upper and the lower bits
pub bits-append : (k n m x : ℕ) → m ≡ k + n → bits m x ≡ bits k (x / 2 ^ n) ++ bits n x
unfolding bits
bits-append zero n m x e = let same : m ≡ n = omega arith in ap (λ i. bits i x) same
bits-append (suc k) n zero x e = absurd (omega arith)
bits-append (suc k) n (suc m) x e =
    let less : m ≡ k + n = omega arith in
    let place : n + k ≡ m = omega arith in
    let head : bit_at (x / 2 ^ n) k ≡ bit_at x m = ap (λ q. q % 2) (shr-shr x n k) ∙ ap (bit_at x) place in
    let rest = bits-append k n m x less in
    cc

odd : (d e : ℕ) → d < 2 → e < 2 → cond (eqb d 1) (not (eqb e 1)) (eqb e 1) ≡ eqb ((d + e) % 2) 1
odd (suc (suc d)) e p q = absurd (omega arith)
odd d (suc (suc e)) p q = absurd (omega arith)
odd _ _ p q = refl

-- one number's bits inverted by another's are those of their exclusive or
pub invert-bits : (n a b : ℕ) → invert (bits n a) (bits n b) ≡ bits n (bit_xor a b)
unfolding bits invert
invert-bits zero a b = refl
invert-bits (suc n) a b =
    let here = odd (bit_at a n) (bit_at b n) (bit_at-lt a n) (bit_at-lt b n) ∙ ap (λ d. eqb d 1) (sym (bit_at_xor a b n)) in
    let rest = invert-bits n a b in
    cc
