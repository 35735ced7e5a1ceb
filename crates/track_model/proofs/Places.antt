-- Cells and bytes of a track, by the words that they stand in.
use Rattle.std.proofs.Common.{◌≡◌, ℕ, zero, suc, ◌+◌, ◌-◌, ◌*◌, ◌/◌, ◌%◌, ◌^◌, ◌<◌, ◌≤◌, List, [], ◌∷◌, ◌++◌, get_or, sym, ap, ◌∙◌, arith, inl, inr}
use Rattle.track_model.proofs.Common.{cases_lt, map-range_with_len_more, length-map-range_with_len, get_or-map-range_with_len, fill_by_all, shr-shr, bit_at-lt, bit_at_cat_low, bit_at_cat_high, bit_at, cell, cells_at, byte_at, bytes_at, TouchesNoZero}
use Rattle.track_model.proofs.Numbers.{number_ext, number_from_bits, bit_at-number}

-- the cells of word k
pub cell_in : (track : List ℕ) (p k i : ℕ) → p ≡ 16 * k + i → i < 16 → cell track p ≡ bit_at (get_or track k 0) (15 - i)
cell_in track p k i e h =
    let word : p / 16 ≡ k = omega arith in
    let place : p % 16 ≡ i = omega arith in
    ap (λ w. bit_at (get_or track w 0) (15 - p % 16)) word ∙ ap (λ j. bit_at (get_or track k 0) (15 - j)) place

pub cell-lt : (track : List ℕ) (p : ℕ) → cell track p < 2
cell-lt track p = bit_at-lt (get_or track (p / 16) 0) (15 - p % 16)

pub bit_at-cells_at : (track : List ℕ) (p i : ℕ) → i < 16 → bit_at (cells_at track p) (15 - i) ≡ cell track (p + i)
bit_at-cells_at track p i h =
    let back : 16 - 1 - (15 - i) ≡ i = omega arith in
    bit_at-number (λ j. cell track (p + j)) 16 (15 - i) (λ k l. cell-lt track (p + k)) (omega arith) ∙ ap (λ j. cell track (p + j)) back

-- at a word boundary sixteen cells are the word
pub cells_at-word : (track : List ℕ) (p k : ℕ) → p ≡ 16 * k → get_or track k 0 < 2 ^ 16 → cells_at track p ≡ get_or track k 0
cells_at-word track p k e fits =
    number_from_bits (λ i. cell track (p + i)) 16 (get_or track k 0) fits
    (λ i l. let place : p + i ≡ 16 * k + i = omega arith in cell_in track (p + i) k i place l)

-- the bits of sixteen cells out of two words
bit_at-between : (a b s i : ℕ) → i < 16 → bit_at ((a * 2 ^ 16 + b) / 2 ^ s % 2 ^ 16) i ≡ bit_at (a * 2 ^ 16 + b) (s + i)
bit_at-between a b s i h =
    let n = (a * 2 ^ 16 + b) / 2 ^ s in
    let split : n / 2 ^ 16 * 2 ^ 16 + n % 2 ^ 16 ≡ n = omega arith in
    sym (bit_at_cat_low (n / 2 ^ 16) 16 (n % 2 ^ 16) i h)
    ∙ ap (λ m. bit_at m i) split
    ∙ ap (λ m. m % 2) (shr-shr (a * 2 ^ 16 + b) s i)

digit_between : (track : List ℕ) (p k o i : ℕ) → p ≡ 16 * k + o → o ≤ 16 → get_or track (k + 1) 0 < 2 ^ 16 → i < 16 → cell track (p + i) ≡ bit_at ((get_or track k 0 * 2 ^ 16 + get_or track (k + 1) 0) / 2 ^ (16 - o) % 2 ^ 16) (15 - i)
digit_between track p k o i e small fits l =
    let a = get_or track k 0 in
    let b = get_or track (k + 1) 0 in
    let back = sym (bit_at-between a b (16 - o) (15 - i) (omega arith)) in
    elim (cases_lt (o + i) 16) [
      | inl h ↦
          let place : p + i ≡ 16 * k + (o + i) = omega arith in
          let index : 16 - o + (15 - i) - 16 ≡ 15 - (o + i) = omega arith in
          cell_in track (p + i) k (o + i) place h
          ∙ ap (bit_at a) (sym index)
          ∙ sym (bit_at_cat_high a 16 b (16 - o + (15 - i)) fits (omega arith))
          ∙ back
      | inr h ↦
          let place : p + i ≡ 16 * (k + 1) + (o + i - 16) = omega arith in
          let index : 16 - o + (15 - i) ≡ 15 - (o + i - 16) = omega arith in
          cell_in track (p + i) (k + 1) (o + i - 16) place (omega arith)
          ∙ ap (bit_at b) (sym index)
          ∙ sym (bit_at_cat_low a 16 b (16 - o + (15 - i)) (omega arith))
          ∙ back
    ]

-- at any other phase they stand in two words
pub cells_at-pair : (track : List ℕ) (p k o : ℕ) → p ≡ 16 * k + o → o ≤ 16 → get_or track (k + 1) 0 < 2 ^ 16 → (get_or track k 0 * 2 ^ 16 + get_or track (k + 1) 0) / 2 ^ (16 - o) % 2 ^ 16 ≡ cells_at track p
cells_at-pair track p k o e small fits =
    let value = (get_or track k 0 * 2 ^ 16 + get_or track (k + 1) 0) / 2 ^ (16 - o) % 2 ^ 16 in
    let below : value < 2 ^ 16 = omega arith in
    sym (number_from_bits (λ i. cell track (p + i)) 16 value below (λ i l. digit_between track p k o i e small fits l))

-- the byte at a place is that of the word that its cells make
pub byte_at-cells_at : (track : List ℕ) (p : ℕ) → byte_at (cells_at track p ∷ []) 0 ≡ byte_at track p
byte_at-cells_at track p =
    number_ext (λ i. cell (cells_at track p ∷ []) (0 + (2 * i + 1))) (λ i. cell track (p + (2 * i + 1))) 8
    (λ i l.
    let place : 0 + (2 * i + 1) ≡ 16 * 0 + (2 * i + 1) = omega arith in
    cell_in (cells_at track p ∷ []) (0 + (2 * i + 1)) 0 (2 * i + 1) place (omega arith)
    ∙ bit_at-cells_at track p (2 * i + 1) (omega arith))

-- a stretch has a cell in each of its words
pub zero_word_touched : (track : List ℕ) (p count k : ℕ) → 0 < count → p / 16 ≤ k → k ≤ (p + count - 1) / 16 → get_or track k 0 ≡ 0 → TouchesNoZero track p count → ⊥
zero_word_touched track p count k some low high e h =
    elim (cases_lt p (16 * k)) [
      | inl before ↦
          let word : 16 * k / 16 ≡ k = omega arith in
          h (16 * k) (omega arith) (omega arith) (ap (λ w. get_or track w 0) word ∙ e)
      | inr after ↦
          let word : p / 16 ≡ k = omega arith in
          h p (omega arith) (omega arith) (ap (λ w. get_or track w 0) word ∙ e)
    ]

-- one byte more at the end
pub bytes_at-more : (track : List ℕ) (p i : ℕ) → bytes_at track p (i + 1) ≡ bytes_at track p i ++ byte_at track (p + 16 * i) ∷ []
bytes_at-more track p i = map-range_with_len_more (λ j. byte_at track (p + 16 * j)) 0 i i (omega arith)

-- the first byte and the others
pub bytes_at-cons : (track : List ℕ) (p m : ℕ) → byte_at track p ∷ bytes_at track (p + 16) m ≡ bytes_at track p (m + 1)
bytes_at-cons track p m =
    fill_by_all (λ i. byte_at track (p + 16 * i)) (byte_at track p ∷ bytes_at track (p + 16) m) (m + 1) 0
    (omega (arith, length-map-range_with_len (λ i. byte_at track (p + 16 + 16 * i)) 0 m))
    (λ k h. byte_of track p m k (omega arith))
  where
    byte_of : (track : List ℕ) (p m k : ℕ) → k < suc m → get_or (byte_at track p ∷ bytes_at track (p + 16) m) k 0 ≡ byte_at track (p + 16 * k)
    byte_of track p m zero h = let place : p ≡ p + 16 * 0 = omega arith in ap (byte_at track) place
    byte_of track p m (suc k) h =
        let place : p + 16 + 16 * k ≡ p + 16 * suc k = omega arith in
        get_or-map-range_with_len (λ i. byte_at track (p + 16 + 16 * i)) 0 m k k 0 (omega arith) (omega arith) ∙ ap (byte_at track) place
