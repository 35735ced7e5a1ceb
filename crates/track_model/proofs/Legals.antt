-- The words of legal cells.
use Rattle.std.proofs.Common.{◌≡◌, ℕ, zero, suc, ◌+◌, ◌-◌, ◌*◌, ◌/◌, ◌%◌, ◌^◌, ◌<◌, ◌≤◌, Bool, true, false, cond, eqb, List, [], ◌∷◌, ◌++◌, length, get_or, refl, sym, ap, ◌∙◌, lit<, arith, inl, inr}
use Rattle.track_model.proofs.Common.{eq-eqb, ne_eqb, cond-true, cond-false, cases_eq, ext_get_or, get_or_append_left, get_or-append_right, length-append, length-map-range_with_len, get_or-map-range_with_len, bit_at-lt, bit_at_lowest, bit_at, cell, cells_at, number, byte_at, bit_of, bit_before, last_bit, clock_between, legal_cell}
use Rattle.track_model.specs.Bytes.{legal}
use Rattle.track_model.proofs.Numbers.{number_ext, number_from_bits, bit_at-number}
use Rattle.track_model.proofs.Places.{cell_in, bit_at-cells_at}

pub length-legal : (last : Bool) (bytes : List ℕ) → length (legal last bytes) ≡ length bytes
unfolding legal
length-legal last bytes = length-map-range_with_len (λ k. number (λ i. legal_cell last bytes (16 * k + i)) 16) 0 (length bytes)

pub get_or-legal : (last : Bool) (bytes : List ℕ) (k : ℕ) → k < length bytes → get_or (legal last bytes) k 0 ≡ number (λ i. legal_cell last bytes (16 * k + i)) 16
unfolding legal
get_or-legal last bytes k h =
    get_or-map-range_with_len (λ j. number (λ i. legal_cell last bytes (16 * j + i)) 16) 0 (length bytes) k k 0 h (omega arith)

-- the data cell of a bit
pub legal_cell-data : (last : Bool) (bytes : List ℕ) (c i : ℕ) → c ≡ 2 * i + 1 → legal_cell last bytes c ≡ bit_of bytes i
legal_cell-data last bytes c i e =
    let odd : eqb (c % 2) 0 ≡ false = ne_eqb (c % 2) 0 (λ z. omega arith) in
    let place : c / 2 ≡ i = omega arith in
    cond-false (eqb (c % 2) 0) _ _ odd ∙ ap (bit_of bytes) place

-- the clock cell before it
pub legal_cell-clock : (last : Bool) (bytes : List ℕ) (c i : ℕ) → c ≡ 2 * i → legal_cell last bytes c ≡ clock_between (bit_before last bytes i) (bit_of bytes i)
legal_cell-clock last bytes c i e =
    let even : eqb (c % 2) 0 ≡ true = eq-eqb (c % 2) 0 (omega arith) in
    let place : c / 2 ≡ i = omega arith in
    cond-true (eqb (c % 2) 0) _ _ even ∙ ap (λ j. clock_between (bit_before last bytes j) (bit_of bytes j)) place

pub bit_before-suc : (last : Bool) (bytes : List ℕ) (i j : ℕ) → i ≡ j + 1 → bit_before last bytes i ≡ bit_of bytes j
bit_before-suc last bytes i j e =
    let later : eqb i 0 ≡ false = ne_eqb i 0 (λ z. omega arith) in
    let place : i - 1 ≡ j = omega arith in
    cond-false (eqb i 0) _ _ later ∙ ap (bit_of bytes) place

bit_of-lt : (bytes : List ℕ) (i : ℕ) → bit_of bytes i < 2
bit_of-lt bytes i = bit_at-lt (get_or bytes (i / 8) 0) (7 - i % 8)

pub legal_cell-lt : (last : Bool) (bytes : List ℕ) (c : ℕ) → legal_cell last bytes c < 2
legal_cell-lt last bytes c =
    elim (cases_eq (c % 2) 0) [
      | inl e ↦
          let place : c ≡ 2 * (c / 2) = omega arith in
          omega (arith, legal_cell-clock last bytes c (c / 2) place)
      | inr e ↦
          let place : c ≡ 2 * (c / 2) + 1 = omega arith in
          omega (arith, legal_cell-data last bytes c (c / 2) place, bit_of-lt bytes (c / 2))
    ]

-- the cells of the words are the legal cells
pub cell-legal : (last : Bool) (bytes : List ℕ) (c : ℕ) → c < 16 * length bytes → cell (legal last bytes) c ≡ legal_cell last bytes c
cell-legal last bytes c h =
    let k = c / 16 in
    let i = c % 16 in
    let place : c ≡ 16 * k + i = omega arith in
    let back : 16 - 1 - (15 - i) ≡ i = omega arith in
    cell_in (legal last bytes) c k i place (omega arith)
    ∙ ap (λ w. bit_at w (15 - i)) (get_or-legal last bytes k (omega arith))
    ∙ bit_at-number (λ j. legal_cell last bytes (16 * k + j)) 16 (15 - i) (λ j l. legal_cell-lt last bytes (16 * k + j)) (omega arith)
    ∙ ap (λ j. legal_cell last bytes (16 * k + j)) back
    ∙ ap (legal_cell last bytes) (sym place)

-- two data cells 0 one after the other have a clock 1 between them
pub no_gap : (last : Bool) (bytes : List ℕ) (c : ℕ) → c % 2 ≡ 1 → c + 2 < 16 * length bytes → cell (legal last bytes) c ≡ 0 → cell (legal last bytes) (c + 2) ≡ 0 → cell (legal last bytes) (c + 1) ≡ 1
no_gap last bytes c odd inside before after =
    let i = c / 2 in
    let first = cell-legal last bytes c (omega arith) ∙ legal_cell-data last bytes c i (omega arith) in
    let second = cell-legal last bytes (c + 2) inside ∙ legal_cell-data last bytes (c + 2) (i + 1) (omega arith) in
    let between = cell-legal last bytes (c + 1) (omega arith) ∙ legal_cell-clock last bytes (c + 1) (i + 1) (omega arith) in
    let shifted = bit_before-suc last bytes (i + 1) i refl in
    omega (arith, first, second, between, shifted)

-- the mark A1 lacks a clock. It is between the cells 9 and 11 from an even place, and between the cells 2 and 4 from an
-- odd one
pub no_mark : (last : Bool) (bytes : List ℕ) (p : ℕ) → p + 16 ≤ 16 * length bytes → cells_at (legal last bytes) p ≡ 0x4489 → ⊥
no_mark last bytes p inside e =
    let track = legal last bytes in
    let bit = λ (i : ℕ) (h : i < 16). sym (bit_at-cells_at track p i h) ∙ ap (λ w. bit_at w (15 - i)) e in
    elim (cases_eq (p % 2) 0) [
      | inl even ↦
          let before : cell track (p + 9) ≡ 0 = bit 9 (lit< tt) in
          let after : cell track (p + 9 + 2) ≡ 0 = ap (cell track) (let f : p + 9 + 2 ≡ p + 11 = omega arith in f) ∙ bit 11 (lit< tt) in
          let clock : cell track (p + 9 + 1) ≡ 0 = ap (cell track) (let f : p + 9 + 1 ≡ p + 10 = omega arith in f) ∙ bit 10 (lit< tt) in
          omega (arith, clock, no_gap last bytes (p + 9) (omega arith) (omega arith) before after)
      | inr odd ↦
          let before : cell track (p + 2) ≡ 0 = bit 2 (lit< tt) in
          let after : cell track (p + 2 + 2) ≡ 0 = ap (cell track) (let f : p + 2 + 2 ≡ p + 4 = omega arith in f) ∙ bit 4 (lit< tt) in
          let clock : cell track (p + 2 + 1) ≡ 0 = ap (cell track) (let f : p + 2 + 1 ≡ p + 3 = omega arith in f) ∙ bit 3 (lit< tt) in
          omega (arith, clock, no_gap last bytes (p + 2) (omega arith) (omega arith) before after)
    ]

-- ---- one byte more in front

bit_of-front : (byte : ℕ) (rest other : List ℕ) (i : ℕ) → i < 8 → bit_of (byte ∷ rest) i ≡ bit_of (byte ∷ other) i
bit_of-front byte rest other i h =
    let first : i / 8 ≡ 0 = omega arith in
    ap (λ k. bit_at (get_or (byte ∷ rest) k 0) (7 - i % 8)) first ∙ sym (ap (λ k. bit_at (get_or (byte ∷ other) k 0) (7 - i % 8)) first)

bit_of-back : (byte : ℕ) (rest : List ℕ) (i m : ℕ) → i ≡ 8 + m → bit_of (byte ∷ rest) i ≡ bit_of rest m
bit_of-back byte rest i m e =
    let place : i / 8 ≡ suc (m / 8) = omega arith in
    let index : i % 8 ≡ m % 8 = omega arith in
    ap (λ k. bit_at (get_or (byte ∷ rest) k 0) (7 - i % 8)) place ∙ ap (λ k. bit_at (get_or rest (m / 8) 0) (7 - k)) index

bit_before-front : (last : Bool) (byte : ℕ) (rest other : List ℕ) (i : ℕ) → i < 8 → bit_before last (byte ∷ rest) i ≡ bit_before last (byte ∷ other) i
bit_before-front last byte rest other i h =
    ap (λ b. cond (eqb i 0) (cond last 1 0) b) (bit_of-front byte rest other (i - 1) (omega arith))

as_digit : (b : ℕ) → b < 2 → b ≡ cond (eqb b 1) 1 0
as_digit (suc (suc b)) h = absurd (omega arith)
as_digit _ h = refl

bit_before-back : (last : Bool) (byte : ℕ) (rest : List ℕ) (i m : ℕ) → i ≡ 8 + m → bit_before last (byte ∷ rest) i ≡ bit_before (last_bit byte) rest m
bit_before-back last byte rest i zero e =
    let place : i - 1 ≡ 7 = omega arith in
    bit_before-suc last (byte ∷ rest) i (i - 1) (omega arith)
    ∙ ap (bit_of (byte ∷ rest)) place
    ∙ bit_at_lowest byte
    ∙ as_digit (byte % 2) (omega arith)
bit_before-back last byte rest i (suc m) e =
    bit_before-suc last (byte ∷ rest) i (i - 1) (omega arith)
    ∙ bit_of-back byte rest (i - 1) m (omega arith)
    ∙ sym (bit_before-suc (last_bit byte) rest (suc m) m (omega arith))

legal_cell-front : (last : Bool) (byte : ℕ) (rest other : List ℕ) (c : ℕ) → c < 16 → legal_cell last (byte ∷ rest) c ≡ legal_cell last (byte ∷ other) c
legal_cell-front last byte rest other c h =
    let i = c / 2 in
    let before = bit_before-front last byte rest other i (omega arith) in
    let bit = bit_of-front byte rest other i (omega arith) in
    elim (cases_eq (c % 2) 0) [
      | inl e ↦
          let place : c ≡ 2 * i = omega arith in
          let first = legal_cell-clock last (byte ∷ rest) c i place in
          let second = legal_cell-clock last (byte ∷ other) c i place in
          omega (arith, first, second, before, bit)
      | inr e ↦
          let place : c ≡ 2 * i + 1 = omega arith in
          legal_cell-data last (byte ∷ rest) c i place ∙ bit ∙ sym (legal_cell-data last (byte ∷ other) c i place)
    ]

legal_cell-back : (last : Bool) (byte : ℕ) (rest : List ℕ) (c d : ℕ) → c ≡ 16 + d → legal_cell last (byte ∷ rest) c ≡ legal_cell (last_bit byte) rest d
legal_cell-back last byte rest c d h =
    let i = c / 2 in
    let m = d / 2 in
    let before = bit_before-back last byte rest i m (omega arith) in
    let bit = bit_of-back byte rest i m (omega arith) in
    elim (cases_eq (d % 2) 0) [
      | inl e ↦
          let place : c ≡ 2 * i = omega arith in
          let behind : d ≡ 2 * m = omega arith in
          let first = legal_cell-clock last (byte ∷ rest) c i place in
          let second = legal_cell-clock (last_bit byte) rest d m behind in
          omega (arith, first, second, before, bit)
      | inr e ↦
          let place : c ≡ 2 * i + 1 = omega arith in
          let behind : d ≡ 2 * m + 1 = omega arith in
          legal_cell-data last (byte ∷ rest) c i place ∙ bit ∙ sym (legal_cell-data (last_bit byte) rest d m behind)
    ]

-- the words of bytes are the word of the first byte, and those of the rest after its last bit
pub legal-cons : (last : Bool) (byte : ℕ) (rest : List ℕ) → legal last (byte ∷ rest) ≡ legal last (byte ∷ []) ++ legal (last_bit byte) rest
legal-cons last byte rest =
    let one = length-legal last (byte ∷ []) in
    let others = length-legal (last_bit byte) rest in
    let whole = length-legal last (byte ∷ rest) in
    let parts = length-append (legal last (byte ∷ [])) (legal (last_bit byte) rest) in
    ext_get_or 0 (legal last (byte ∷ rest)) (legal last (byte ∷ []) ++ legal (last_bit byte) rest) (omega arith)
    (λ k h. word_of last byte rest k (omega arith))
  where
    word_of : (last : Bool) (byte : ℕ) (rest : List ℕ) (k : ℕ) → k < suc (length rest) → get_or (legal last (byte ∷ rest)) k 0 ≡ get_or (legal last (byte ∷ []) ++ legal (last_bit byte) rest) k 0
    word_of last byte rest zero h =
        let one = length-legal last (byte ∷ []) in
        let first : 0 < length (legal last (byte ∷ [])) = omega arith in
        get_or-legal last (byte ∷ rest) 0 h
        ∙ number_ext _ _ 16 (λ i l. legal_cell-front last byte rest [] (16 * 0 + i) (omega arith))
        ∙ sym (get_or-legal last (byte ∷ []) 0 (lit< tt))
        ∙ sym (get_or_append_left (legal last (byte ∷ [])) (legal (last_bit byte) rest) 0 0 first)
    word_of last byte rest (suc k) h =
        let one = length-legal last (byte ∷ []) in
        let place : suc k - 1 ≡ k = omega arith in
        get_or-legal last (byte ∷ rest) (suc k) h
        ∙ number_ext _ _ 16 (λ i l. legal_cell-back last byte rest (16 * suc k + i) (16 * k + i) (omega arith))
        ∙ sym (get_or-legal (last_bit byte) rest k (omega arith))
        ∙ ap (λ j. get_or (legal (last_bit byte) rest) j 0) (sym place)
        ∙ sym (get_or-append_right (legal last (byte ∷ [])) (legal (last_bit byte) rest) 1 (suc k) 0 one (omega arith))

pub legal-nil : (last : Bool) → legal last [] ≡ []
unfolding legal
legal-nil last = refl

-- a byte's cells have its bits
pub byte_at-legal : (last : Bool) (bytes : List ℕ) (p k : ℕ) → p ≡ 16 * k → k < length bytes → get_or bytes k 0 < 2 ^ 8 → byte_at (legal last bytes) p ≡ get_or bytes k 0
byte_at-legal last bytes p k e h fits =
    number_from_bits (λ i. cell (legal last bytes) (p + (2 * i + 1))) 8 (get_or bytes k 0) fits
    (λ i l.
    let word : (8 * k + i) / 8 ≡ k = omega arith in
    let place : (8 * k + i) % 8 ≡ i = omega arith in
    cell-legal last bytes (p + (2 * i + 1)) (omega arith)
    ∙ legal_cell-data last bytes (p + (2 * i + 1)) (8 * k + i) (omega arith)
    ∙ ap (λ w. bit_at (get_or bytes w 0) (7 - (8 * k + i) % 8)) word
    ∙ ap (λ j. bit_at (get_or bytes k 0) (7 - j)) place)

-- the last bit of bytes, or the bit before them if there are none
unfoldable pub last_of : Bool → List ℕ → Bool
last_of last [] = last
last_of last (byte ∷ rest) = last_of (last_bit byte) rest
