-- A number and its binary digits.
use Rattle.std.proofs.Common.{◌≡◌, ℕ, zero, suc, ◌+◌, ◌-◌, ◌*◌, ◌/◌, ◌%◌, ◌^◌, ◌<◌, ap, ◌∙◌, refl, arith}
use Rattle.track_model.proofs.Common.{pow-suc, bit_at-suc, bit_at_lowest, bit_at-lt, same_from_bits_below, bit_at}
use Rattle.track_model.specs.Cells.{number}

-- the digits are 0 or 1
abbrev pub AreDigits : (ℕ → ℕ) → ℕ → Type 0
AreDigits digit count = (k : ℕ) → k < count → digit k < 2

fewer : (digit : ℕ → ℕ) (count : ℕ) → AreDigits digit (suc count) → AreDigits digit count
fewer digit count h k l = h k (omega arith)

pub number_below : (digit : ℕ → ℕ) (count : ℕ) → AreDigits digit count → number digit count < 2 ^ count
unfolding number
number_below digit zero h = omega arith
number_below digit (suc count) h =
    omega (arith, number_below digit count (fewer digit count h), h count (omega arith), pow-suc 2 count)

pub number_ext : (f g : ℕ → ℕ) (count : ℕ) → ((k : ℕ) → k < count → f k ≡ g k) → number f count ≡ number g count
unfolding number
number_ext f g zero h = refl
number_ext f g (suc count) h =
    omega (arith, number_ext f g count (λ k l. h k (omega arith)), h count (omega arith))

half : (a d : ℕ) → d < 2 → (2 * a + d) / 2 ≡ a
half a d h = omega arith

lowest : (a d : ℕ) → d < 2 → bit_at (2 * a + d) 0 ≡ d
lowest a d h = let e : (2 * a + d) % 2 ≡ d = omega arith in bit_at_lowest (2 * a + d) ∙ e

pub bit_at-number : (digit : ℕ → ℕ) (count i : ℕ) → AreDigits digit count → i < count → bit_at (number digit count) i ≡ digit (count - 1 - i)
unfolding number
bit_at-number digit zero i h l = absurd (omega arith)
bit_at-number digit (suc count) zero h l =
    let e : count ≡ suc count - 1 - 0 = omega arith in
    lowest (number digit count) (digit count) (h count (omega arith)) ∙ ap digit e
bit_at-number digit (suc count) (suc i) h l =
    let within : i < count = omega arith in
    let e : count - 1 - i ≡ suc count - 1 - suc i = omega arith in
    bit_at-suc (2 * number digit count + digit count) i
    ∙ ap (λ n. bit_at n i) (half (number digit count) (digit count) (h count (omega arith)))
    ∙ bit_at-number digit count i (fewer digit count h) within
    ∙ ap digit e

-- the number whose digits are the bits of a value
pub number_from_bits : (digit : ℕ → ℕ) (count value : ℕ) → value < 2 ^ count → ((i : ℕ) → i < count → digit i ≡ bit_at value (count - 1 - i)) → number digit count ≡ value
number_from_bits digit count value fits h =
    let small : AreDigits digit count = λ k l. omega (arith, h k l, bit_at-lt value (count - 1 - k)) in
    same_from_bits_below count (number digit count) value (number_below digit count small) fits
    (λ i l.
    let back : count - 1 - (count - 1 - i) ≡ i = omega arith in
    bit_at-number digit count i small l ∙ h (count - 1 - i) (omega arith) ∙ ap (bit_at value) back)
