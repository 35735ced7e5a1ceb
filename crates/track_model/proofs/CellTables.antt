-- The two tables against the rule of cells, entry by entry.
use Rattle.std.proofs.Common.{◌≡◌, ℕ, ◌+◌, ◌*◌, ◌/◌, ◌%◌, ◌^◌, ◌<◌, Bool, true, false, eqb, [], ◌∷◌, get_or, refl, sym, ap, ◌∙◌, arith}
use Rattle.track_model.proofs.Common.{bit_and, bit_or, agree_below_at, eqb-true, and_mask, or_shifted, byte_at, legal_cell}
use Rattle.track_model.specs.Cells.{number}
use Rattle.track_model.specs.Bytes.{legal}
use Rattle.track_model.specs.declared.tables.TheConstants.{CELLS, DATA_CELLS}

-- the word of a byte after a bit
abbrev word_of : Bool → ℕ → ℕ
word_of last byte = number (λ i. legal_cell last (byte ∷ []) (16 * 0 + i)) 16

legal-single : (last : Bool) (byte : ℕ) → legal last (byte ∷ []) ≡ word_of last byte ∷ []
unfolding legal
legal-single last byte = refl

is_word_after_0 : ℕ → Bool
is_word_after_0 byte = eqb (get_or CELLS byte 0) (word_of false byte)

is_word_after_1 : ℕ → Bool
is_word_after_1 byte = eqb (bit_and (get_or CELLS byte 0) 32767) (word_of true byte)

pub after_0 : (byte : ℕ) → byte < 256 → get_or CELLS byte 0 ∷ [] ≡ legal false (byte ∷ [])
unfolding is_word_after_0 number
after_0 byte below =
    ap (λ w. w ∷ []) (eqb-true (get_or CELLS byte 0) (word_of false byte) (agree_below_at is_word_after_0 (λ _. true) 256 byte refl below))
    ∙ sym (legal-single false byte)

pub after_1 : (byte : ℕ) → byte < 256 → bit_and (get_or CELLS byte 0) 32767 ∷ [] ≡ legal true (byte ∷ [])
unfolding is_word_after_1 number
after_1 byte below =
    ap (λ w. w ∷ []) (eqb-true (bit_and (get_or CELLS byte 0) 32767) (word_of true byte) (agree_below_at is_word_after_1 (λ _. true) 256 byte refl below))
    ∙ sym (legal-single true byte)

-- the data cells of eight cells
abbrev data_of : ℕ → ℕ
data_of cells = cells / 64 % 2 * 8 + cells / 16 % 2 * 4 + cells / 4 % 2 * 2 + cells % 2

is_data : ℕ → Bool
is_data cells = eqb (get_or DATA_CELLS cells 0) (data_of cells)

data_is : (cells : ℕ) → cells < 256 → get_or DATA_CELLS cells 0 ≡ data_of cells
unfolding is_data
data_is cells below = eqb-true (get_or DATA_CELLS cells 0) (data_of cells) (agree_below_at is_data (λ _. true) 256 cells refl below)

-- the byte of a word by its two halves
byte-halves : (word : ℕ) → byte_at (word ∷ []) 0 ≡ data_of (word / 256) * 16 + data_of (word % 256)
unfolding number
byte-halves word = omega arith

pub decoded : (word : ℕ) → word < 2 ^ 16 → bit_or (get_or DATA_CELLS (word / 256) 0 * 16 % 256) (get_or DATA_CELLS (bit_and word 255) 0) ≡ byte_at (word ∷ []) 0
decoded word fits =
    let mask : bit_and word 255 ≡ word % 256 = and_mask word 8 in
    let high = data_is (word / 256) (omega arith) in
    let low = data_is (word % 256) (omega arith) in
    let small : get_or DATA_CELLS (word % 256) 0 < 2 ^ 4 = omega arith in
    let whole : get_or DATA_CELLS (word / 256) 0 * 16 % 256 ≡ get_or DATA_CELLS (word / 256) 0 * 16 = omega arith in
    ap (λ k. bit_or (get_or DATA_CELLS (word / 256) 0 * 16 % 256) (get_or DATA_CELLS k 0)) mask
    ∙ ap (λ h. bit_or h (get_or DATA_CELLS (word % 256) 0)) whole
    ∙ or_shifted (get_or DATA_CELLS (word / 256) 0) 4 (get_or DATA_CELLS (word % 256) 0) small
    ∙ ap (λ h. h * 16 + get_or DATA_CELLS (word % 256) 0) high
    ∙ ap (λ l. data_of (word / 256) * 16 + l) low
    ∙ sym (byte-halves word)
