-- One word more.
use Rattle.std.proofs.Common.{◌≡◌, ◌≢◌, ℕ, ◌+◌, ◌-◌, ◌*◌, ◌/◌, ◌%◌, ◌<◌, ◌≤◌, List, [], ◌∷◌, ◌++◌, length, get_or, length-append, refl, sym, ap, ◌∙◌, lit<, arith, inl, inr}
use Rattle.track_separator.proofs.Common.{cases_lt, cases_eq, get_or_append_left, get_or-append_right, bit_at, cell, cells_at, byte_at, IsRun, number_ext, number_from_bits, cell_in, HasNoZeroFrom, KeepsFrom, IsTail, HasTail, IsFull, IsBlank, IsShifted, IsNext, HasRunBits, register_byte, with_word}
use Rattle.track_separator.proofs.Bits.{run_bit, run_from_bits}
use Rattle.track_separator.proofs.Shared.{AreAlike}
use Rattle.track_separator.proofs.Runs.{run_cell, first_bits, second_bits, third_bits}

-- `whole` is `fed` and one word more
pub record IsMore (fed : List ℕ) (word : ℕ) (whole : List ℕ) : Type 0 where
  pub size : length whole ≡ length fed + 1
  pub alike : AreAlike fed whole (16 * length fed)
  pub last : get_or whole (length fed) 0 ≡ word

pub more_of : (fed : List ℕ) (word : ℕ) → IsMore fed word (with_word fed word)
more_of fed word =
    let size : length (fed ++ word ∷ []) ≡ length fed + 1 = length-append fed (word ∷ []) in
    let none : length fed - length fed ≡ 0 = omega arith in
    record {
      size = size;
      alike = record { low = omega arith; high = omega arith; words = λ k h. sym (get_or_append_left fed (word ∷ []) 0 k (omega arith)) };
      last = get_or-append_right fed (word ∷ []) (length fed) (length fed) 0 refl (omega arith) ∙ ap (λ i. get_or (word ∷ []) i 0) none;
    }

module _ (fed : List ℕ) (word : ℕ) (whole : List ℕ) (more : IsMore fed word whole) where
  -- the words of the revolution so far
  same_word : (q : ℕ) → q < 16 * length fed → get_or fed (q / 16) 0 ≡ get_or whole (q / 16) 0
  same_word q h = more.alike.words (q / 16) (omega arith)

  last_word : (q : ℕ) → 16 * length fed ≤ q → q < 16 * length fed + 16 → get_or whole (q / 16) 0 ≡ word
  last_word q low high = let k : q / 16 ≡ length fed = omega arith in ap (λ i. get_or whole i 0) k ∙ more.last

  last_cell : (q : ℕ) → 16 * length fed ≤ q → q < 16 * length fed + 16 → cell whole q ≡ bit_at word (15 - (q - 16 * length fed))
  last_cell q low high =
      let place : q ≡ 16 * length fed + (q - 16 * length fed) = omega arith in
      cell_in whole q (length fed) (q - 16 * length fed) place (omega arith) ∙ ap (λ w. bit_at w (15 - (q - 16 * length fed))) more.last

  same_cell : (q : ℕ) → q < 16 * length fed → cell fed q ≡ cell whole q
  same_cell q h = ap (λ w. bit_at w (15 - q % 16)) (same_word q h)

  pub no_zero_up : (s : ℕ) → word ≢ 0 → HasNoZeroFrom fed s → HasNoZeroFrom whole s
  no_zero_up s some none q low high zero_word =
      let size = more.size in
      elim (cases_lt q (16 * length fed)) [
        | inl h ↦ none q low h (same_word q h ∙ zero_word)
        | inr h ↦ some (sym (last_word q h (omega arith)) ∙ zero_word)
      ]

  pub no_zero_down : (s : ℕ) → HasNoZeroFrom whole s → HasNoZeroFrom fed s
  no_zero_down s none q low high zero_word = let size = more.size in none q low (omega arith) (sym (same_word q high) ∙ zero_word)

  -- if there is no word 0000 from a cell on, the last word isn't 0000
  pub last_some : (s : ℕ) → s < 16 * length whole → HasNoZeroFrom whole s → word ≢ 0
  last_some s low none e =
      let size = more.size in
      let q = 16 * length fed + 15 in
      none q (omega arith) (omega arith) (last_word q (omega arith) (omega arith) ∙ e)

  pub keeps_next : (cells after s : ℕ) → IsShifted cells word after → KeepsFrom fed cells s → 16 * length whole ≤ s + 128 → KeepsFrom whole after s
  keeps_next cells after s shifted kept near q low high =
      let size = more.size in
      let n = length fed in
      let index : 16 * length whole - 1 - q ≡ 16 * n + 15 - q = omega arith in
      elim (cases_lt q (16 * n)) [
        | inl h ↦
            let bit : 16 * length whole - 1 - q - 16 ≡ 16 * n - 1 - q = omega arith in
            shifted.before (16 * length whole - 1 - q) (omega arith) (omega arith) ∙ ap (bit_at cells) bit ∙ kept q low h ∙ same_cell q h
        | inr h ↦
            let bit : 16 * length whole - 1 - q ≡ 15 - (q - 16 * n) = omega arith in
            shifted.last (16 * length whole - 1 - q) (omega arith) ∙ ap (bit_at word) bit ∙ sym (last_cell q h (omega arith))
      ]

  -- the register keeps the cells of the last word
  pub keeps_last : (cells after s : ℕ) → IsShifted cells word after → 16 * length fed ≤ s → KeepsFrom whole after s
  keeps_last cells after s shifted low_end q low high =
      let size = more.size in
      let bit : 16 * length whole - 1 - q ≡ 15 - (q - 16 * length fed) = omega arith in
      shifted.last (16 * length whole - 1 - q) (omega arith) ∙ ap (bit_at word) bit ∙ sym (last_cell q (omega arith) (omega arith))

  tail_shifted : (cells after start : ℕ) → word ≢ 0 → IsShifted cells word after → IsTail fed cells start → HasTail whole after
  tail_shifted cells after start some shifted tail =
      let size = more.size in
      let within = tail.within in
      let near = tail.near in
      elim (cases_lt (start + 128) (16 * length whole)) [
        | inr h ↦ (
          start,
          record {
            within = omega arith;
            near = h;
            no_zero = no_zero_up start some tail.no_zero;
            kept = keeps_next cells after start shifted tail.kept h;
            ones = λ i low high.
                shifted.before i (omega arith) high ∙ tail.ones (i - 16) (omega arith) (omega arith);
          },
        )
        | inl h ↦
            let later = 16 * length whole - 128 in
            let none : HasNoZeroFrom fed later = λ q low high. tail.no_zero q (omega arith) high in
            let kept : KeepsFrom fed cells later = λ q low high. tail.kept q (omega arith) high in (
              later,
              record {
                within = omega arith;
                near = omega arith;
                no_zero = no_zero_up later some none;
                kept = keeps_next cells after later shifted kept (omega arith);
                ones = λ i low high. absurd (omega arith);
              },
            )
      ]

  tail_blank : (after : ℕ) → IsBlank after → HasTail whole after
  tail_blank after blank = (
    16 * length whole,
    record {
      within = omega arith;
      near = omega arith;
      no_zero = λ q low high. absurd (omega arith);
      kept = λ q low high. absurd (omega arith);
      ones = λ i low high. blank i high;
    },
  )

  pub tail_next : (cells after : ℕ) → IsNext cells word after → HasTail fed cells → HasTail whole after
  tail_next cells after next tail =
      elim (cases_eq word 0) [
        | inl none ↦ tail_blank after (next.blank none)
        | inr some ↦ tail_shifted cells after tail.0 some (next.shifted some) tail.1
      ]

  pub full_next : (cells after from : ℕ) → IsNext cells word after → IsFull fed cells from → IsFull whole after from
  full_next cells after from next full s low near none =
      let size = more.size in
      elim (cases_lt s (16 * length whole)) [
        | inr past ↦ λ q l h. absurd (omega arith)
        | inl inside ↦
            let some = last_some s inside none in
            let shifted = next.shifted some in
            elim (cases_lt s (16 * length fed)) [
              | inl h ↦ keeps_next cells after s shifted (full s low (omega arith) (no_zero_down s none)) near
              | inr h ↦ keeps_last cells after s shifted h
            ]
      ]

-- ---- what the register shows

-- the byte that has so many cells behind it
pub byte_kept : (fed : List ℕ) (cells s r b : ℕ) → KeepsFrom fed cells s → s ≤ r → r + 16 + b ≡ 16 * length fed → register_byte cells b ≡ byte_at fed r
byte_kept fed cells s r b kept low place =
    number_ext (λ i. bit_at cells (b + (14 - 2 * i))) (λ i. cell fed (r + (2 * i + 1))) 8
    (λ i h.
    let bit : b + (14 - 2 * i) ≡ 16 * length fed - 1 - (r + (2 * i + 1)) = omega arith in
    ap (bit_at cells) bit ∙ kept (r + (2 * i + 1)) (omega arith) (omega arith))

-- a run in the words shows in the register
pub run_shown : (fed : List ℕ) (cells p b : ℕ) → KeepsFrom fed cells p → IsRun fed p → p + 48 + b ≡ 16 * length fed → HasRunBits cells b
run_shown fed cells p b kept run place =
    run_from_bits cells b
    (λ i h.
    let q : p + (47 - i) ≡ p + 47 - i = omega arith in
    let bit : b + i ≡ 16 * length fed - 1 - (p + (47 - i)) = omega arith in
    let index : 47 - (47 - i) ≡ i = omega arith in
    ap (bit_at cells) bit ∙ kept (p + (47 - i)) (omega arith) (omega arith) ∙ run_cell fed p (47 - i) run (omega arith) ∙ ap (bit_at 0x448944894489) index)

-- a run that the register shows
pub record IsFound (fed : List ℕ) (cells b p : ℕ) : Type 0 where
  pub place : p + 48 + b ≡ 16 * length fed
  pub run : IsRun fed p
  pub no_zero : HasNoZeroFrom fed p
  pub full : IsFull fed cells p

shown_cell : (fed : List ℕ) (cells p b m : ℕ) → KeepsFrom fed cells p → HasRunBits cells b → p + 48 + b ≡ 16 * length fed → m < 48 → cell fed (p + m) ≡ bit_at 0x448944894489 (47 - m)
shown_cell fed cells p b m kept run place h =
    let bit : 16 * length fed - 1 - (p + m) ≡ b + (47 - m) = omega arith in
    sym (kept (p + m) (omega arith) (omega arith)) ∙ ap (bit_at cells) bit ∙ run_bit cells b (47 - m) run (omega arith)

shown_mark : (fed : List ℕ) (cells p b o r : ℕ) → KeepsFrom fed cells p → HasRunBits cells b → p + 48 + b ≡ 16 * length fed → o + r ≡ 32 → ((k : ℕ) → k < 16 → bit_at 0x4489 k ≡ bit_at 0x448944894489 (r + k)) → cells_at fed (p + o) ≡ 0x4489
shown_mark fed cells p b o r kept run place sum bits =
    number_from_bits (λ i. cell fed (p + o + i)) 16 0x4489 (lit< tt)
    (λ i h.
    let at : p + o + i ≡ p + (o + i) = omega arith in
    let bit : 47 - (o + i) ≡ r + (16 - 1 - i) = omega arith in
    ap (cell fed) at ∙ shown_cell fed cells p b (o + i) kept run place (omega arith) ∙ ap (bit_at 0x448944894489) bit ∙ sym (bits (16 - 1 - i) (omega arith)))

pub run_found : (fed : List ℕ) (cells b : ℕ) → HasTail fed cells → b < 16 → HasRunBits cells b → (p : ℕ) × IsFound fed cells b p
run_found fed cells b (start, tail) small run =
    let highest : bit_at cells (b + 47) ≡ 0 = run_bit cells b 47 run (lit< tt) in
    let near = tail.near in
    let within = tail.within in
    elim (cases_lt (start + (b + 47)) (16 * length fed)) [
      | inr h ↦ let one : bit_at cells (b + 47) ≡ 1 = tail.ones (b + 47) h (omega arith) in absurd (omega arith)
      | inl h ↦
          let p = 16 * length fed - 48 - b in
          let place : p + 48 + b ≡ 16 * length fed = omega arith in
          let kept : KeepsFrom fed cells p = λ q low high. tail.kept q (omega arith) high in
          let here : p + 0 ≡ p = omega arith in (
            p,
            record {
              place = place;
              run = record {
                first = ap (cells_at fed) (sym here) ∙ shown_mark fed cells p b 0 32 kept run place refl first_bits;
                second = shown_mark fed cells p b 16 16 kept run place refl second_bits;
                third = shown_mark fed cells p b 32 0 kept run place refl third_bits;
              };
              no_zero = λ q low high. tail.no_zero q (omega arith) high;
              full = λ s low near none q l hh. tail.kept q (omega arith) hh;
            },
          )
    ]
