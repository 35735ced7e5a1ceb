-- Digits of a number, read one by one.
use Rattle.std.proofs.Common.{◌≡◌, ℕ, ◌+◌, ◌*◌, ◌<◌, ◌≤◌, ◌&&◌, List, [], ◌∷◌, length, nat_le, cond, Option, Some, None, refl, lt-ltb, arith}
use Rattle.std.proofs.Math.Nat.{mul-le-mul_left}
use Rattle.std.proofs.lemmas.Bool.Decides.{nat_tests}
use Rattle.std.specs.Char.{digit_value}
use Rattle.std.specs.Str.Parse.{digits_value_after}
use Rattle.floppy_jobs.specs.Numbers.{all_digits, number_of}

-- what is read if the digits so far spell n
abbrev pub read_on : ℕ → ℕ → ℕ → ℕ → List ℕ → Option ℕ
read_on base least greatest n rest =
    cond (all_digits base rest && nat_le least (digits_value_after base n rest) && nat_le (digits_value_after base n rest) greatest)
    (Some (digits_value_after base n rest)) None

-- each further digit multiplies, so a number doesn't fall
pub after_not_less : (base n : ℕ) (rest : List ℕ) → 1 ≤ base → n ≤ digits_value_after base n rest
after_not_less base n [] h = omega arith
after_not_less base n (c ∷ cs) h =
    let next = after_not_less base (n * base + digit_value c) cs h in
    omega (arith, mul-le-mul_left n h, next)

-- a number that is already too great stays too great
pub read_on-over : (base least greatest n : ℕ) (rest : List ℕ) → 1 ≤ base → greatest < n → read_on base least greatest n rest ≡ None
read_on-over base least greatest n rest h over =
    let more = after_not_less base n rest h in
    grind (arith, nat_tests)

-- a byte that is no digit ends the reading
pub read_on-stop : (base least greatest n c : ℕ) (cs : List ℕ) → base ≤ digit_value c → read_on base least greatest n (c ∷ cs) ≡ None
read_on-stop base least greatest n c cs h = grind (arith, nat_tests)

-- a digit is added to those before it
pub read_on-digit : (base least greatest n c : ℕ) (cs : List ℕ) → digit_value c < base
    → read_on base least greatest n (c ∷ cs) ≡ read_on base least greatest (n * base + digit_value c) cs
read_on-digit base least greatest n c cs h = rw (lt-ltb (digit_value c) base h) refl

-- at the end, the least value decides whether the number is allowed
pub read_on-low : (base least greatest n : ℕ) → n < least → read_on base least greatest n [] ≡ None
read_on-low base least greatest n h = grind (arith, nat_tests)

pub read_on-end : (base least greatest n : ℕ) → least ≤ n → n ≤ greatest → read_on base least greatest n [] ≡ Some n
read_on-end base least greatest n low h = grind (arith, nat_tests)

pub not_below : (x y : ℕ) → (x < y → ⊥) → y ≤ x
not_below x y h = omega (arith, h)

-- the word has too few or too many digits
pub number_of-short : (base fewest most least greatest : ℕ) (word : List ℕ) → length word < fewest → number_of base fewest most least greatest word ≡ None
unfolding number_of
number_of-short base fewest most least greatest word h = grind (arith, nat_tests)

pub number_of-long : (base fewest most least greatest : ℕ) (word : List ℕ) → most < length word → number_of base fewest most least greatest word ≡ None
unfolding number_of
number_of-long base fewest most least greatest word h = grind (arith, nat_tests)

-- the word has an allowed number of digits
pub number_of-read : (base fewest most least greatest : ℕ) (word : List ℕ) → fewest ≤ length word → length word ≤ most → number_of base fewest most least greatest word ≡ read_on base least greatest 0 word
unfolding number_of
number_of-read base fewest most least greatest word h k = grind (arith, nat_tests)
