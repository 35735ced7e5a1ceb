-- A run of marks ends only after two words that are alike. Each of them is a rotated mark, which has five ones.
use Rattle.std.proofs.Common.{◌≡◌, ℕ, ◌+◌, ◌-◌, ◌*◌, ◌/◌, ◌%◌, ◌^◌, ◌<◌, Bool, true, eqb, List, [], length, get_or, take, bit_and, bit_or, refl, sym, ap, subst, ◌∙◌, lit<, arith, inl, inr}
use Rattle.track_separator.proofs.Common.{agree_below_at, eqb-true, cases_eq, bit_at, and_mask, or_shifted, bit_at_ones, same_from_bits_below, IsBlank, IsShifted, IsNext, HasRunBits, EndsNoRun, BringsNoRun}
use Rattle.std.specs.Int.RustNames.{count_ones}
use Rattle.track_separator.proofs.Bits.{bit_at-mod, bit_at-div, run_bit, shifted_is, next_blank}
use Rattle.track_separator.proofs.NoRun.{brings_none, brings_more}

-- the sixteen cells of the register that have so many cells behind them
part : ℕ → ℕ → ℕ
part cells behind = cells / 2 ^ behind % 2 ^ 16

part_bit : (cells behind i : ℕ) → i < 16 → bit_at (part cells behind) i ≡ bit_at cells (behind + i)
unfolding part
part_bit cells behind i h =
    let split : cells / 2 ^ behind / 2 ^ 16 * 2 ^ 16 + cells / 2 ^ behind % 2 ^ 16 ≡ cells / 2 ^ behind = omega arith in
    bit_at-mod (cells / 2 ^ behind) 16 i split h ∙ bit_at-div cells behind i

part_fits : (cells behind : ℕ) → part cells behind < 2 ^ 16
unfolding part
part_fits cells behind = omega arith

part_is : (cells behind word : ℕ) → word < 2 ^ 16 → ((i : ℕ) → i < 16 → bit_at cells (behind + i) ≡ bit_at word i) → part cells behind ≡ word
part_is cells behind word fits bits =
    same_from_bits_below 16 (part cells behind) word (part_fits cells behind) fits (λ i l. part_bit cells behind i l ∙ bits i l)

last_is : (cells : ℕ) → bit_and cells 65535 ≡ part cells 0
unfolding part
last_is cells = let whole : cells / 2 ^ 0 ≡ cells = omega arith in and_mask cells 16 ∙ ap (λ n. n % 2 ^ 16) (sym whole)

-- ---- the words of a run

-- a mark, rotated as in a run that has `back` cells behind it
turned : ℕ → ℕ
turned back = part 0x448944894489 (16 - back)

has_five : ℕ → Bool
has_five back = eqb (count_ones (turned back)) 5

five_ones : (back : ℕ) → back < 16 → count_ones (turned back) ≡ 5
unfolding has_five turned part count_ones
five_ones back h = eqb-true (count_ones (turned back)) 5 (agree_below_at has_five (λ _. true) 16 back refl h)

comes_again : ℕ → Bool
comes_again k = eqb (bit_at 0x448944894489 (16 + k)) (bit_at 0x448944894489 k)

again : (k : ℕ) → k < 32 → bit_at 0x448944894489 (16 + k) ≡ bit_at 0x448944894489 k
unfolding comes_again
again k h = eqb-true (bit_at 0x448944894489 (16 + k)) (bit_at 0x448944894489 k) (agree_below_at comes_again (λ _. true) 32 k refl h)

module _ (cells back : ℕ) (small : back < 16) (run : HasRunBits cells back) where
  run_second : part cells 16 ≡ turned back
  unfolding turned
  run_second =
      part_is cells 16 (part 0x448944894489 (16 - back)) (part_fits 0x448944894489 (16 - back))
      (λ i l.
      let bit : 16 + i ≡ back + (16 - back + i) = omega arith in
      ap (bit_at cells) bit ∙ run_bit cells back (16 - back + i) run (omega arith) ∙ sym (part_bit 0x448944894489 (16 - back) i l))

  run_third : part cells 32 ≡ turned back
  unfolding turned
  run_third =
      part_is cells 32 (part 0x448944894489 (16 - back)) (part_fits 0x448944894489 (16 - back))
      (λ i l.
      let bit : 32 + i ≡ back + (16 + (16 - back + i)) = omega arith in
      ap (bit_at cells) bit
      ∙ run_bit cells back (16 + (16 - back + i)) run (omega arith)
      ∙ again (16 - back + i) (omega arith)
      ∙ sym (part_bit 0x448944894489 (16 - back) i l))

-- ---- the register after a word

blank_last : (after : ℕ) → IsBlank after → part after 0 ≡ 65535
blank_last after blank = part_is after 0 65535 (lit< tt) (λ i l. blank (0 + i) (omega arith) ∙ sym (bit_at_ones 16 i l))

all_ones : count_ones 65535 ≡ 16
unfolding count_ones
all_ones = refl

blank_ones : (after : ℕ) → IsBlank after → count_ones (part after 0) ≡ 5 → ⊥
blank_ones after blank five = omega (arith, all_ones, ap count_ones (sym (blank_last after blank)) ∙ five)

blank_no_run : (after : ℕ) → IsBlank after → EndsNoRun after
blank_no_run after blank back small run =
    let zero_bit : bit_at after (back + 1) ≡ 0 = run_bit after back 1 run (lit< tt) in
    let one_bit : bit_at after (back + 1) ≡ 1 = blank (back + 1) (omega arith) in
    omega arith

module _ (cells word after : ℕ) (shifted : IsShifted cells word after) where
  new_last : word < 2 ^ 16 → part after 0 ≡ word
  new_last fits = part_is after 0 word fits (λ i l. let bit : 0 + i ≡ i = omega arith in ap (bit_at after) bit ∙ shifted.last i l)

  new_second : part after 16 ≡ part cells 0
  new_second =
      part_is after 16 (part cells 0) (part_fits cells 0)
      (λ i l.
      let bit : 16 + i - 16 ≡ 0 + i = omega arith in
      shifted.before (16 + i) (omega arith) (omega arith) ∙ ap (bit_at cells) bit ∙ sym (part_bit cells 0 i l))

  new_third : part after 32 ≡ part cells 16
  new_third =
      part_is after 32 (part cells 16) (part_fits cells 16)
      (λ i l.
      let bit : 32 + i - 16 ≡ 16 + i = omega arith in
      shifted.before (32 + i) (omega arith) (omega arith) ∙ ap (bit_at cells) bit ∙ sym (part_bit cells 16 i l))

-- the last two words aren't both the same rotated mark
NoTwins : ℕ → Type 0
NoTwins cells = part cells 16 ≡ part cells 0 → count_ones (part cells 0) ≡ 5 → ⊥

-- the last word is `word`, if it may be a rotated mark
Shows : ℕ → ℕ → Type 0
Shows word cells = count_ones (part cells 0) ≡ 5 → part cells 0 ≡ word

module _ (cells word after : ℕ) (next : IsNext cells word after) where
  no_run_next : NoTwins cells → EndsNoRun after
  unfolding NoTwins
  no_run_next apart back small run =
      elim (cases_eq word 0) [
        | inl none ↦ blank_no_run after (next.blank none) back small run
        | inr some ↦
            let shifted = next.shifted some in
            let second = sym (new_second cells word after shifted) ∙ run_second after back small run in
            let third = sym (new_third cells word after shifted) ∙ run_third after back small run in
            apart (third ∙ sym second) (ap count_ones second ∙ five_ones back small)
      ]

  shows_next : word < 2 ^ 16 → Shows word after
  unfolding Shows
  shows_next fits five =
      elim (cases_eq word 0) [
        | inl none ↦ absurd (blank_ones after (next.blank none) five)
        | inr some ↦ new_last cells word after (next.shifted some) fits
      ]

  no_twins_next : (before : ℕ) → word < 2 ^ 16 → Shows before cells → (word ≡ before → count_ones word ≡ 5 → ⊥) → NoTwins after
  unfolding NoTwins Shows
  no_twins_next before fits shows differ twins five =
      elim (cases_eq word 0) [
        | inl none ↦ blank_ones after (next.blank none) five
        | inr some ↦
            let shifted = next.shifted some in
            let is = new_last cells word after shifted fits in
            let old_is = sym (new_second cells word after shifted) ∙ twins ∙ is in
            let five_here = ap count_ones (sym is) ∙ five in
            differ (sym old_is ∙ shows (ap count_ones old_is ∙ five_here)) five_here
      ]

-- there is a register after each word
next_of : (cells word : ℕ) → word < 2 ^ 16 → (after : ℕ) × (after < 2 ^ 128) × IsNext cells word after
next_of cells word fits =
    elim (cases_eq word 0) [
      | inl none ↦ (340282366920938463463374607431768211455, lit< tt, next_blank cells word none)
      | inr some ↦
          let low = cells % 2 ^ 112 in
          let whole : cells * 65536 % 340282366920938463463374607431768211456 ≡ low * 2 ^ 16 = omega arith in
          let joined : bit_or (cells * 65536 % 340282366920938463463374607431768211456) word ≡ low * 2 ^ 16 + word = ap (λ h. bit_or h word) whole ∙ or_shifted low 16 word fits in (
            bit_or (cells * 65536 % 340282366920938463463374607431768211456) word,
            omega (arith, joined),
            record { shifted = λ h. shifted_is cells word fits; blank = λ e. absurd (some e) },
          )
    ]

-- ---- words that are scanned

-- these words brought no run, the next word brings none either, and `before` is the last of these words
pub record IsScanned (words : List ℕ) (cells before : ℕ) : Type 0 where
  register : ℕ
  brings : BringsNoRun words cells register
  shows : Shows before register
  apart : NoTwins register

pub scan_none : (cells : ℕ) → (count_ones (bit_and cells 65535) ≡ 5 → ⊥) → IsScanned [] cells (bit_and cells 65535)
unfolding NoTwins Shows
scan_none cells other = record {
  register = cells;
  brings = brings_none cells;
  shows = λ five. sym (last_is cells);
  apart = λ twins five. other (ap count_ones (last_is cells) ∙ five);
}

pub scan_all : (words : List ℕ) (i count cells before : ℕ) → i ≡ count → IsScanned (take i words) cells before → (after : ℕ) × BringsNoRun (take count words) cells after
scan_all words i count cells before is scanned =
    (scanned.register, subst (λ n. BringsNoRun (take n words) cells scanned.register) is scanned.brings)

module _ (words : List ℕ) (i cells before : ℕ) (inside : i < length words) (fits : get_or words i 0 < 2 ^ 16) (scanned : IsScanned (take i words) cells before) where
  word : ℕ
  word = get_or words i 0

  next : (after : ℕ) × (after < 2 ^ 128) × IsNext scanned.register word after
  unfolding word
  next = next_of scanned.register word fits

  more : BringsNoRun (take (i + 1) words) cells next.0
  unfolding word
  more = brings_more words i cells scanned.register next.0 inside scanned.brings next.2 next.1 (no_run_next scanned.register word next.0 next.2 scanned.apart)

  -- the next word brings no run
  pub scan_last : (after : ℕ) × BringsNoRun (take (i + 1) words) cells after
  scan_last = (next.0, more)

  -- if the next word isn't the second of two equal rotated marks, the word after it brings no run either
  pub scan_more : (last : ℕ) → last ≡ get_or words i 0 → (get_or words i 0 ≡ before → count_ones (get_or words i 0) ≡ 5 → ⊥) → IsScanned (take (i + 1) words) cells last
  unfolding word Shows
  scan_more last is differ = record {
    register = next.0;
    brings = more;
    shows = λ five. shows_next scanned.register word next.0 next.2 fits five ∙ sym is;
    apart = no_twins_next scanned.register word next.0 next.2 before fits scanned.shows differ;
  }
