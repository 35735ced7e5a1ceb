-- The register's bits.
use Rattle.std.proofs.Common.{◌≡◌, ℕ, ◌+◌, ◌-◌, ◌*◌, ◌/◌, ◌%◌, ◌^◌, ◌<◌, [], ◌∷◌, min, sym, ap, subst, ◌∙◌, lit<, arith, inl, inr}
use Rattle.track_separator.proofs.Common.{cases_lt, bit_at, and_mask, or_shifted, shr-shr, bit_at_cat_low, bit_at_cat_high, same_from_bits_below, bit_at_ones, bit_at_and, bit_at-zero, cell, byte_at, number_ext, cell_in, IsShifted, IsNext, IsBlank, HasRunBits, register_byte, register_check}
use Rattle.std.specs.Int.Bits.{bit_and, bit_or}

-- the low bits of a number
pub bit_at-mod : (n w i : ℕ) → n / 2 ^ w * 2 ^ w + n % 2 ^ w ≡ n → i < w → bit_at (n % 2 ^ w) i ≡ bit_at n i
bit_at-mod n w i split h = sym (bit_at_cat_low (n / 2 ^ w) w (n % 2 ^ w) i h) ∙ ap (λ m. bit_at m i) split

pub bit_at-div : (n b i : ℕ) → bit_at (n / 2 ^ b) i ≡ bit_at n (b + i)
bit_at-div n b i = ap (λ m. m % 2) (shr-shr n b i)

pub shifted_is : (cells word : ℕ) → word < 2 ^ 16 → IsShifted cells word (bit_or (cells * 65536 % 340282366920938463463374607431768211456) word)
shifted_is cells word fits =
    let low = cells % 2 ^ 112 in
    let whole : cells * 65536 % 340282366920938463463374607431768211456 ≡ low * 2 ^ 16 = omega arith in
    let joined : bit_or (cells * 65536 % 340282366920938463463374607431768211456) word ≡ low * 2 ^ 16 + word = ap (λ h. bit_or h word) whole ∙ or_shifted low 16 word fits in
    let split : cells / 2 ^ 112 * 2 ^ 112 + cells % 2 ^ 112 ≡ cells = omega arith in
    record {
      last = λ i h. ap (λ n. bit_at n i) joined ∙ bit_at_cat_low low 16 word i h;
      before = λ i low_end high_end.
          ap (λ n. bit_at n i) joined ∙ bit_at_cat_high low 16 word i fits low_end ∙ bit_at-mod cells 112 (i - 16) split (omega arith);
    }

pub blank_is : IsBlank 340282366920938463463374607431768211455
blank_is i h = bit_at_ones 128 i h

pub next_blank : (cells word : ℕ) → word ≡ 0 → IsNext cells word 340282366920938463463374607431768211455
next_blank cells word none = record { shifted = λ h. absurd (h none); blank = λ e. blank_is }

-- the byte of sixteen bits of the register
pub byte_is : (cells back : ℕ) → byte_at (bit_and (cells / 2 ^ back) 65535 ∷ []) 0 ≡ register_byte cells back
byte_is cells back =
    let word = bit_and (cells / 2 ^ back) 65535 in
    let shown : word ≡ cells / 2 ^ back % 2 ^ 16 = and_mask (cells / 2 ^ back) 16 in
    let split : cells / 2 ^ back / 2 ^ 16 * 2 ^ 16 + cells / 2 ^ back % 2 ^ 16 ≡ cells / 2 ^ back = omega arith in
    number_ext (λ i. cell (word ∷ []) (0 + (2 * i + 1))) (λ i. bit_at cells (back + (14 - 2 * i))) 8
    (λ i h.
    let place : 0 + (2 * i + 1) ≡ 16 * 0 + (2 * i + 1) = omega arith in
    let bit : 15 - (2 * i + 1) ≡ 14 - 2 * i = omega arith in
    cell_in (word ∷ []) (0 + (2 * i + 1)) 0 (2 * i + 1) place (omega arith)
    ∙ ap (bit_at word) bit
    ∙ ap (λ n. bit_at n (14 - 2 * i)) shown
    ∙ bit_at-mod (cells / 2 ^ back) 16 (14 - 2 * i) split (omega arith)
    ∙ bit_at-div cells back (14 - 2 * i))

-- the lowest 32 bits have the byte in the last word too
pub last_byte_is : (cells back : ℕ) → back < 16 → byte_at (bit_and (bit_and cells 4294967295 / 2 ^ back) 65535 ∷ []) 0 ≡ register_byte cells back
last_byte_is cells back h =
    let recent = bit_and cells 4294967295 in
    let shown : recent ≡ cells % 2 ^ 32 = and_mask cells 32 in
    let one : recent / 2 ^ back / 2 ^ 16 * 2 ^ 16 + recent / 2 ^ back % 2 ^ 16 ≡ recent / 2 ^ back = omega arith in
    let two : cells / 2 ^ 32 * 2 ^ 32 + cells % 2 ^ 32 ≡ cells = omega arith in
    let three : cells / 2 ^ back / 2 ^ 16 * 2 ^ 16 + cells / 2 ^ back % 2 ^ 16 ≡ cells / 2 ^ back = omega arith in
    let same : bit_and (recent / 2 ^ back) 65535 ≡ bit_and (cells / 2 ^ back) 65535 =
    and_mask (recent / 2 ^ back) 16
    ∙ same_from_bits_below 16 (recent / 2 ^ back % 2 ^ 16) (cells / 2 ^ back % 2 ^ 16) (omega arith) (omega arith)
    (λ i l.
    bit_at-mod (recent / 2 ^ back) 16 i one l
    ∙ bit_at-div recent back i
    ∙ ap (λ n. bit_at n (back + i)) shown
    ∙ bit_at-mod cells 32 (back + i) two (omega arith)
    ∙ sym (bit_at-div cells back i)
    ∙ sym (bit_at-mod (cells / 2 ^ back) 16 i three l))
    ∙ sym (and_mask (cells / 2 ^ back) 16) in
    ap (λ word. byte_at (word ∷ []) 0) same ∙ byte_is cells back

pub check_is : (cells back high low : ℕ) → high ≡ register_byte cells (back + 16) → low ≡ register_byte cells back → high < 2 ^ 8 → low < 2 ^ 8 → bit_or (high * 256 % 65536) low ≡ register_check cells back
check_is cells back high low e f fits small =
    let whole : high * 256 % 65536 ≡ high * 2 ^ 8 = omega arith in
    let joined : bit_or (high * 256 % 65536) low ≡ high * 2 ^ 8 + low = ap (λ h. bit_or h low) whole ∙ or_shifted high 8 low small in
    joined
    ∙ ap (λ h. h * 2 ^ 8 + low) e
    ∙ ap (λ l. register_byte cells (back + 16) * 2 ^ 8 + l) f
    ∙ omega arith

-- the test for a run
pub run_bits : (cells b : ℕ) → b < 16 → bit_and (bit_and cells 18446744073709551615 / 2 ^ b) 281474976710655 ≡ cells / 2 ^ b % 2 ^ 48
run_bits cells b h =
    let recent = bit_and cells 18446744073709551615 in
    let shown : recent ≡ cells % 2 ^ 64 = and_mask cells 64 in
    let masked : bit_and (recent / 2 ^ b) 281474976710655 ≡ recent / 2 ^ b % 2 ^ 48 = and_mask (recent / 2 ^ b) 48 in
    let one : recent / 2 ^ b / 2 ^ 48 * 2 ^ 48 + recent / 2 ^ b % 2 ^ 48 ≡ recent / 2 ^ b = omega arith in
    let two : cells / 2 ^ 64 * 2 ^ 64 + cells % 2 ^ 64 ≡ cells = omega arith in
    let three : cells / 2 ^ b / 2 ^ 48 * 2 ^ 48 + cells / 2 ^ b % 2 ^ 48 ≡ cells / 2 ^ b = omega arith in
    masked
    ∙ same_from_bits_below 48 (recent / 2 ^ b % 2 ^ 48) (cells / 2 ^ b % 2 ^ 48) (omega arith) (omega arith)
    (λ i l.
    bit_at-mod (recent / 2 ^ b) 48 i one l
    ∙ bit_at-div recent b i
    ∙ ap (λ n. bit_at n (b + i)) shown
    ∙ bit_at-mod cells 64 (b + i) two (omega arith)
    ∙ sym (bit_at-div cells b i)
    ∙ sym (bit_at-mod (cells / 2 ^ b) 48 i three l))

-- the bits of a run
pub run_bit : (cells b i : ℕ) → HasRunBits cells b → i < 48 → bit_at cells (b + i) ≡ bit_at 0x448944894489 i
run_bit cells b i run h =
    let split : cells / 2 ^ b / 2 ^ 48 * 2 ^ 48 + cells / 2 ^ b % 2 ^ 48 ≡ cells / 2 ^ b = omega arith in
    sym (bit_at-div cells b i) ∙ sym (bit_at-mod (cells / 2 ^ b) 48 i split h) ∙ ap (λ n. bit_at n i) run

pub run_from_bits : (cells b : ℕ) → ((i : ℕ) → i < 48 → bit_at cells (b + i) ≡ bit_at 0x448944894489 i) → HasRunBits cells b
run_from_bits cells b bits =
    let split : cells / 2 ^ b / 2 ^ 48 * 2 ^ 48 + cells / 2 ^ b % 2 ^ 48 ≡ cells / 2 ^ b = omega arith in
    same_from_bits_below 48 (cells / 2 ^ b % 2 ^ 48) 0x448944894489 (omega arith) (omega arith)
    (λ i l. bit_at-mod (cells / 2 ^ b) 48 i split l ∙ bit_at-div cells b i ∙ bits i l)

pub run_more : (cells b : ℕ) → ((k : ℕ) → k < b → HasRunBits cells k → ⊥) → (HasRunBits cells b → ⊥) → (k : ℕ) → k < b + 1 → HasRunBits cells k → ⊥
run_more cells b below here k h run =
    elim (cases_lt k b) [
      | inl l ↦ below k l run
      | inr l ↦ let e : k ≡ b = omega arith in here (subst (HasRunBits cells) e run)
    ]

-- the lowest 64 bits have the run too
pub recent_run : (cells b : ℕ) → b < 16 → HasRunBits cells b → HasRunBits (bit_and cells 18446744073709551615) b
recent_run cells b h run = sym (and_mask (bit_and cells 18446744073709551615 / 2 ^ b) 48) ∙ run_bits cells b h ∙ run

-- the ones of a mark, as the code finds them
pub mark_ones : (recent b : ℕ) → b < 16 → HasRunBits recent b → bit_and (bit_and (bit_and (bit_and recent (recent / 8)) (bit_and recent (recent / 8) / 128)) (recent / 16384)) 65535 ≡ 0 → ⊥
mark_ones recent b h run none =
    let one = λ (k : ℕ) (l : k < 48). run_bit recent b k run l in
    let first : bit_at recent b ≡ 1 = (let e : b + 0 ≡ b = omega arith in ap (bit_at recent) (sym e) ∙ one 0 (lit< tt)) in
    let by_3 : bit_at (recent / 8) b ≡ 1 = (let e : 3 + b ≡ b + 3 = omega arith in bit_at-div recent 3 b ∙ ap (bit_at recent) e ∙ one 3 (lit< tt)) in
    let seventh : bit_at recent (7 + b) ≡ 1 = (let e : 7 + b ≡ b + 7 = omega arith in ap (bit_at recent) e ∙ one 7 (lit< tt)) in
    let tenth : bit_at (recent / 8) (7 + b) ≡ 1 = (let e : 3 + (7 + b) ≡ b + 10 = omega arith in bit_at-div recent 3 (7 + b) ∙ ap (bit_at recent) e ∙ one 10 (lit< tt)) in
    let by_14 : bit_at (recent / 16384) b ≡ 1 = (let e : 14 + b ≡ b + 14 = omega arith in bit_at-div recent 14 b ∙ ap (bit_at recent) e ∙ one 14 (lit< tt)) in
    let pairs = bit_and recent (recent / 8) in
    let fours = bit_and pairs (pairs / 128) in
    let fives = bit_and fours (recent / 16384) in
    let has_pair : bit_at pairs b ≡ 1 = both recent (recent / 8) b first by_3 in
    let next_pair : bit_at (pairs / 128) b ≡ 1 = bit_at-div pairs 7 b ∙ both recent (recent / 8) (7 + b) seventh tenth in
    let has_four : bit_at fours b ≡ 1 = both pairs (pairs / 128) b has_pair next_pair in
    let has_five : bit_at fives b ≡ 1 = both fours (recent / 16384) b has_four by_14 in
    let all : bit_at (bit_and fives 65535) b ≡ 1 = both fives 65535 b has_five (bit_at_ones 16 b h) in
    let nothing : bit_at 0 b ≡ 1 = ap (λ n. bit_at n b) (sym none) ∙ all in
    omega (arith, nothing, bit_at-zero b)
  where
    both : (m n i : ℕ) → bit_at m i ≡ 1 → bit_at n i ≡ 1 → bit_at (bit_and m n) i ≡ 1
    both m n i x y = bit_at_and m n i ∙ ap (λ u. min u (bit_at n i)) x ∙ ap (λ u. min 1 u) y
