-- On a recorded track, every run of marks A1 is three words 4489 at word boundaries.
-- A word may be a seam: its byte was recorded after another bit than the one that now stands before it.
use Rattle.std.proofs.Common.{◌≡◌, ℕ, zero, suc, ◌+◌, ◌-◌, ◌*◌, ◌/◌, ◌%◌, ◌^◌, ◌<◌, ◌≤◌, Bool, true, false, cond, eqb, List, [], ◌∷◌, length, get_or, refl, sym, ap, ◌∙◌, ◌⊎◌, lit<, lit≤, arith, inl, inr}
use Rattle.track_model.proofs.Common.{agree_below_at, eq-eqb, eqb-true, ne_eqb, cond-true, cases_eq, cases_lt, get_or_past, bit_at_lowest, bit_at-zero, bit_at, cell, cells_at, byte_at, bit_before, last_bit, legal, IsRun}
use Rattle.track_model.specs.declared.symbol.Symbol.{Symbol}
use Rattle.track_model.specs.declared.symbol.Symbol.TheVariants.{Byte, Key, Mark}
use Rattle.track_model.specs.Layouts.{word_after, symbol_bit, symbol_byte, recorded}
use Rattle.track_model.proofs.Numbers.{number_ext, number_from_bits}
use Rattle.track_model.proofs.Places.{cell_in, cells_at-word, bit_at-cells_at}
use Rattle.track_model.proofs.Legals.{cell-legal, legal_cell-data, legal_cell-clock, no_gap, no_mark}

-- the word of a byte after a bit
abbrev pub byte_word : Bool → ℕ → ℕ
byte_word last byte = get_or (legal last (byte ∷ [])) 0 0

-- the last bit before word k, `first` before the first
unfoldable pub bit_behind : Bool → List ℕ → ℕ → Bool
bit_behind first track zero = first
bit_behind first track (suc k) = eqb (get_or track k 0 % 2) 1

-- the word of a byte after the last bit of the word before, at a seam after any bit
pub record IsByteWord (Seam : ℕ → Type 0) (first : Bool) (track : List ℕ) (k : ℕ) : Type 0 where
  pub last : Bool
  pub byte : ℕ
  pub is : get_or track k 0 ≡ byte_word last byte
  pub in_line : (last ≡ bit_behind first track k) ⊎ Seam k

-- a word of a recorded track: a mark or a byte
abbrev pub IsWord : (ℕ → Type 0) → Bool → List ℕ → ℕ → Type 0
IsWord Seam first track k = (get_or track k 0 ≡ 0x4489) ⊎ ((get_or track k 0 ≡ 0x5224) ⊎ IsByteWord Seam first track k)

abbrev pub AreWords : (ℕ → Type 0) → Bool → List ℕ → Type 0
AreWords Seam first track = (k : ℕ) → k < length track → IsWord Seam first track k

-- no word is a seam
abbrev pub Nowhere : ℕ → Type 0
Nowhere k = ⊥

-- of three words one after the other, one is no seam, or the second bit of the third isn't the one that a run needs
-- there
abbrev pub AreSparse : (ℕ → Type 0) → List ℕ → Type 0
AreSparse Seam track = (k : ℕ) → Seam k → Seam (k + 1) → Seam (k + 2) → cell track (16 * (k + 2) + 3) ≡ 0 → ⊥

-- ---- three cells 0 about a clock cell

-- in one word, about cell c
is_lost : ℕ → ℕ → Bool
is_lost word c =
    cond (eqb (c % 2) 0) (cond (eqb (bit_at word (16 - c)) 0) (cond (eqb (bit_at word (15 - c)) 0) (eqb (bit_at word (14 - c)) 0) false) false) false

lost_in_A1 : (c : ℕ) → c < 16 → is_lost 0x4489 c ≡ eqb c 10
unfolding is_lost
lost_in_A1 c h = agree_below_at (is_lost 0x4489) (λ k. eqb k 10) 16 c refl h

lost_in_C2 : (c : ℕ) → c < 16 → is_lost 0x5224 c ≡ eqb c 8
unfolding is_lost
lost_in_C2 c h = agree_below_at (is_lost 0x5224) (λ k. eqb k 8) 16 c refl h

is_lost_from : (word c : ℕ) → c % 2 ≡ 0 → bit_at word (16 - c) ≡ 0 → bit_at word (15 - c) ≡ 0 → bit_at word (14 - c) ≡ 0 → is_lost word c ≡ true
unfolding is_lost
is_lost_from word c even a b d =
    cond-true (eqb (c % 2) 0) _ false (eq-eqb (c % 2) 0 even)
    ∙ cond-true (eqb (bit_at word (16 - c)) 0) _ false (eq-eqb (bit_at word (16 - c)) 0 a)
    ∙ cond-true (eqb (bit_at word (15 - c)) 0) _ false (eq-eqb (bit_at word (15 - c)) 0 b)
    ∙ eq-eqb (bit_at word (14 - c)) 0 d

-- a clock cell 0 between two data cells 0
pub record IsLost (track : List ℕ) (e : ℕ) : Type 0 where
  pub even : e % 2 ≡ 0
  pub later : 1 ≤ e
  pub before : cell track (e - 1) ≡ 0
  pub here : cell track e ≡ 0
  pub after : cell track (e + 1) ≡ 0

-- in a mark that isn't the first cell
lost_within : (track : List ℕ) (e k c : ℕ) → e ≡ 16 * k + c → c < 16 → 1 ≤ c → IsLost track e → is_lost (get_or track k 0) c ≡ true
lost_within track e k c place small some lost =
    let even : c % 2 ≡ 0 = (let h = lost.even in omega arith) in
    let low : e - 1 ≡ 16 * k + (c - 1) = omega arith in
    let high : e + 1 ≡ 16 * k + (c + 1) = omega arith in
    let a : 15 - (c - 1) ≡ 16 - c = omega arith in
    let d : 15 - (c + 1) ≡ 14 - c = omega arith in
    is_lost_from (get_or track k 0) c even
    (ap (bit_at (get_or track k 0)) (sym a) ∙ sym (cell_in track (e - 1) k (c - 1) low (omega arith)) ∙ lost.before)
    (sym (cell_in track e k c place small) ∙ lost.here)
    (ap (bit_at (get_or track k 0)) (sym d) ∙ sym (cell_in track (e + 1) k (c + 1) high (omega arith)) ∙ lost.after)

-- the first cells of a word
first_cell : (track : List ℕ) (e k word : ℕ) → e ≡ 16 * k → get_or track k 0 ≡ word → cell track (e + 1) ≡ bit_at word 14
first_cell track e k word place is =
    let high : e + 1 ≡ 16 * k + 1 = omega arith in
    cell_in track (e + 1) k 1 high (lit< tt) ∙ ap (λ w. bit_at w 14) is

-- no clock is lost in the word of a byte
not_lost_in_byte : (track : List ℕ) (e k c byte : ℕ) (last : Bool) → e ≡ 16 * k + c → c < 16 → get_or track k 0 ≡ byte_word last byte → (c ≡ 0 → cell track (e - 1) ≡ 0 → last ≡ false) → IsLost track e → ⊥
not_lost_in_byte track e k c byte last place small is before lost =
    let bytes = byte ∷ [] in
    let words = legal last bytes in
    let here = λ (i : ℕ) (j : ℕ) (f : i ≡ 16 * k + j) (h : j < 16).
    cell_in track i k j f h ∙ ap (λ w. bit_at w (15 - j)) is ∙ sym (cell_in words j 0 j (omega arith) h) in
    let even = lost.even in
    let high : e + 1 ≡ 16 * k + (c + 1) = omega arith in
    let at = sym (here e c place small) ∙ lost.here in
    let after = sym (here (e + 1) (c + 1) high (omega arith)) ∙ lost.after in
    elim (cases_eq c 0) [
      | inl first ↦
          let none : last ≡ false = before first lost.before in
          let clock = cell-legal last bytes c (omega arith) ∙ legal_cell-clock last bytes c 0 (omega arith) in
          let bit = cell-legal last bytes (c + 1) (omega arith) ∙ legal_cell-data last bytes (c + 1) 0 (omega arith) in
          let shown : bit_before last bytes 0 ≡ 0 = ap (λ b. cond b 1 0) none in
          omega (arith, clock, bit, shown, at, after)
      | inr later ↦
          let low : e - 1 ≡ 16 * k + (c - 1) = omega arith in
          let one = sym (here (e - 1) (c - 1) low (omega arith)) ∙ lost.before in
          let f : c - 1 + 2 ≡ c + 1 = omega arith in
          let g : c - 1 + 1 ≡ c = omega arith in
          let gap = no_gap last bytes (c - 1) (omega arith) (omega arith) one (ap (cell words) f ∙ after) in
          omega (arith, gap, ap (cell words) g, at)
    ]

behind_zero : (first : Bool) (track : List ℕ) (e k : ℕ) → e ≡ 16 * k → 1 ≤ e → cell track (e - 1) ≡ 0 → bit_behind first track k ≡ false
unfolding bit_behind
behind_zero first track e zero place later before = absurd (omega arith)
behind_zero first track e (suc j) place later before =
    let low : e - 1 ≡ 16 * j + 15 = omega arith in
    let bit = sym (cell_in track (e - 1) j 15 low (lit< tt) ∙ bit_at_lowest (get_or track j 0)) ∙ before in
    ne_eqb (get_or track j 0 % 2) 1 (λ z. omega (arith, bit, z))

-- a lost clock determines the mark that it stands in, or it is the first cell of a seam
pub lost_mark : (Seam : ℕ → Type 0) (first : Bool) (track : List ℕ) (e k c : ℕ) → AreWords Seam first track → k < length track → e ≡ 16 * k + c → c < 16 → IsLost track e → ((c ≡ 10) × (get_or track k 0 ≡ 0x4489)) ⊎ (((c ≡ 8) × (get_or track k 0 ≡ 0x5224)) ⊎ ((c ≡ 0) × Seam k))
lost_mark Seam first track e k c words within place small lost =
    elim (words k within) [
      | inl mark ↦
          elim (cases_eq c 0) [
            | inl none ↦
                let bit : cell track (e + 1) ≡ 1 = first_cell track e k 0x4489 (omega arith) mark in
                let zero_bit = lost.after in absurd (omega arith)
            | inr some ↦
                let found = sym (lost_in_A1 c small) ∙ ap (λ w. is_lost w c) (sym mark) ∙ lost_within track e k c place small (omega arith) lost in
                inl (eqb-true c 10 found, mark)
          ]
      | inr (inl mark) ↦
          elim (cases_eq c 0) [
            | inl none ↦
                let bit : cell track (e + 1) ≡ 1 = first_cell track e k 0x5224 (omega arith) mark in
                let zero_bit = lost.after in absurd (omega arith)
            | inr some ↦
                let found = sym (lost_in_C2 c small) ∙ ap (λ w. is_lost w c) (sym mark) ∙ lost_within track e k c place small (omega arith) lost in
                inr (inl (eqb-true c 8 found, mark))
          ]
      | inr (inr word) ↦
          elim word.in_line [
            | inl same ↦
                absurd (not_lost_in_byte track e k c word.byte word.last place small word.is (λ none before. same ∙ behind_zero first track e k (omega arith) lost.later before) lost)
            | inr seam ↦
                elim (cases_eq c 0) [
                  | inl none ↦ inr (inr (none, seam))
                  | inr some ↦
                      absurd (not_lost_in_byte track e k c word.byte word.last place small word.is (λ none before. absurd (some none)) lost)
                ]
          ]
    ]

-- ---- runs

-- the cells of sixteen that are 4489
mark_cell : (track : List ℕ) (p i : ℕ) → cells_at track p ≡ 0x4489 → i < 16 → cell track (p + i) ≡ bit_at 0x4489 (15 - i)
mark_cell track p i e h = sym (bit_at-cells_at track p i h) ∙ ap (λ w. bit_at w (15 - i)) e

lost_even : (track : List ℕ) (p e : ℕ) → p % 2 ≡ 0 → e ≡ p + 10 → cells_at track p ≡ 0x4489 → IsLost track e
lost_even track p e even place mark =
    let low : e - 1 ≡ p + 9 = omega arith in
    let high : e + 1 ≡ p + 11 = omega arith in
    record {
      even = omega arith;
      later = omega arith;
      before = ap (cell track) low ∙ mark_cell track p 9 mark (lit< tt);
      here = ap (cell track) place ∙ mark_cell track p 10 mark (lit< tt);
      after = ap (cell track) high ∙ mark_cell track p 11 mark (lit< tt);
    }

lost_odd : (track : List ℕ) (p e : ℕ) → p % 2 ≡ 1 → e ≡ p + 3 → cells_at track p ≡ 0x4489 → IsLost track e
lost_odd track p e odd place mark =
    let low : e - 1 ≡ p + 2 = omega arith in
    let high : e + 1 ≡ p + 4 = omega arith in
    record {
      even = omega arith;
      later = omega arith;
      before = ap (cell track) low ∙ mark_cell track p 2 mark (lit< tt);
      here = ap (cell track) place ∙ mark_cell track p 3 mark (lit< tt);
      after = ap (cell track) high ∙ mark_cell track p 4 mark (lit< tt);
    }

-- a run is inside the track
run_inside : (track : List ℕ) (p : ℕ) → IsRun track p → p + 47 < 16 * length track
run_inside track p run =
    let one : cell track (p + 32 + 15) ≡ 1 = mark_cell track (p + 32) 15 run.third (lit< tt) in
    elim (cases_lt (p + 47) (16 * length track)) [
      | inl h ↦ h
      | inr h ↦
          let past : length track ≤ (p + 32 + 15) / 16 = omega arith in
          let none : cell track (p + 32 + 15) ≡ bit_at 0 (15 - (p + 32 + 15) % 16) = ap (λ w. bit_at w (15 - (p + 32 + 15) % 16)) (get_or_past track ((p + 32 + 15) / 16) 0 past) in
          absurd (omega (arith, one, none, bit_at-zero (15 - (p + 32 + 15) % 16)))
    ]

-- the places of a run on a recorded track
pub record IsRunAtWord (track : List ℕ) (p k : ℕ) : Type 0 where
  pub place : p ≡ 16 * k
  pub first : get_or track k 0 ≡ 0x4489
  pub second : get_or track (k + 1) 0 ≡ 0x4489
  pub third : get_or track (k + 2) 0 ≡ 0x4489

module _ (Seam : ℕ → Type 0) (first : Bool) (track : List ℕ) (words : AreWords Seam first track) where
  the_mark : (e k : ℕ) → k < length track → e ≡ 16 * k + 10 → IsLost track e → get_or track k 0 ≡ 0x4489
  the_mark e k within place lost =
      elim (lost_mark Seam first track e k 10 words within place (lit< tt) lost) [
        | inl found ↦ found.1
        | inr (inl found) ↦ absurd (let f = found.0 in omega (arith, f))
        | inr (inr found) ↦ absurd (let f = found.0 in omega (arith, f))
      ]

  the_seam : (e k : ℕ) → k < length track → e ≡ 16 * k → IsLost track e → Seam k
  the_seam e k within place lost =
      elim (lost_mark Seam first track e k 0 words within (omega arith) (lit< tt) lost) [
        | inl found ↦ absurd (let f = found.0 in omega (arith, f))
        | inr (inl found) ↦ absurd (let f = found.0 in omega (arith, f))
        | inr (inr found) ↦ found.1
      ]

  module _ (sparse : AreSparse Seam track) where
    -- no run has its lost clocks in seams
    no_seams : (e k : ℕ) → k + 2 < length track → e ≡ 16 * k → IsLost track e → IsLost track (e + 16) → IsLost track (e + 32) → cell track (e + 35) ≡ 0 → ⊥
    no_seams e k within place one two three bit =
        let there : 16 * (k + 2) + 3 ≡ e + 35 = omega arith in
        sparse k (the_seam e k (omega arith) place one) (the_seam (e + 16) (k + 1) (omega arith) (omega arith) two)
        (the_seam (e + 32) (k + 2) within (omega arith) three)
        (ap (cell track) there ∙ bit)

    even_run : (p : ℕ) → IsRun track p → p % 2 ≡ 0 → (k : ℕ) × IsRunAtWord track p k
    even_run p run even =
        let k = (p + 10) / 16 in
        let c = (p + 10) % 16 in
        let inside = run_inside track p run in
        let place : p + 10 ≡ 16 * k + c = omega arith in
        let one = lost_even track p (p + 10) even refl run.first in
        let two = lost_even track (p + 16) (p + 10 + 16) (omega arith) (omega arith) run.second in
        let three = lost_even track (p + 32) (p + 10 + 32) (omega arith) (omega arith) run.third in
        elim (lost_mark Seam first track (p + 10) k c words (omega arith) place (omega arith) one) [
          | inl found ↦
              let at_ten = found.0 in
              let start : p ≡ 16 * k = omega (arith, at_ten) in
              let to : p + 10 + 16 ≡ 16 * (k + 1) + 10 = omega arith in
              let further : p + 10 + 32 ≡ 16 * (k + 2) + 10 = omega arith in (
                k,
                record {
                  place = start;
                  first = found.1;
                  second = the_mark (p + 10 + 16) (k + 1) (omega arith) to two;
                  third = the_mark (p + 10 + 32) (k + 2) (omega arith) further three;
                },
              )
          | inr (inl found) ↦
              let at_eight = found.0 in
              let here : p + 3 ≡ 16 * k + 1 = omega (arith, at_eight) in
              let bit = cell_in track (p + 3) k 1 here (lit< tt) ∙ ap (λ w. bit_at w 14) found.1 in
              let none = mark_cell track p 3 run.first (lit< tt) in
              absurd (let f : 0 ≡ 1 = sym none ∙ bit in omega (arith, f))
          | inr (inr found) ↦
              let at_zero = found.0 in
              let start : p + 10 ≡ 16 * k = omega (arith, at_zero) in
              let there : p + 10 + 35 ≡ p + 32 + 13 = omega arith in
              let bit : cell track (p + 10 + 35) ≡ 0 = ap (cell track) there ∙ mark_cell track (p + 32) 13 run.third (lit< tt) in
              absurd (no_seams (p + 10) k (omega arith) start one two three bit)
        ]

    odd_run : (p : ℕ) → IsRun track p → p % 2 ≡ 1 → ⊥
    odd_run p run odd =
        let k = (p + 3) / 16 in
        let c = (p + 3) % 16 in
        let inside = run_inside track p run in
        let place : p + 3 ≡ 16 * k + c = omega arith in
        let one = lost_odd track p (p + 3) odd refl run.first in
        let two = lost_odd track (p + 16) (p + 3 + 16) (omega arith) (omega arith) run.second in
        let three = lost_odd track (p + 32) (p + 3 + 32) (omega arith) (omega arith) run.third in
        elim (lost_mark Seam first track (p + 3) k c words (omega arith) place (omega arith) one) [
          | inl found ↦
              let at_ten = found.0 in
              let to : p + 3 + 16 ≡ 16 * (k + 1) + 10 = omega (arith, at_ten) in
              let mark = the_mark (p + 3 + 16) (k + 1) (omega arith) to two in
              let here : p + 10 ≡ 16 * (k + 1) + 1 = omega arith in
              let bit = cell_in track (p + 10) (k + 1) 1 here (lit< tt) ∙ ap (λ w. bit_at w 14) mark in
              let none = mark_cell track p 10 run.first (lit< tt) in
              let f : 0 ≡ 1 = sym none ∙ bit in omega (arith, f)
          | inr (inl found) ↦
              let at_eight = found.0 in
              let to : p + 3 + 16 ≡ 16 * (k + 1) + 8 = omega (arith, at_eight) in
              elim (lost_mark Seam first track (p + 3 + 16) (k + 1) 8 words (omega arith) to (lit< tt) two) [
                | inl other ↦ let f = other.0 in omega (arith, f)
                | inr (inl other) ↦
                    let here : p + 15 ≡ 16 * (k + 1) + 4 = omega arith in
                    let none = cell_in track (p + 15) (k + 1) 4 here (lit< tt) ∙ ap (λ w. bit_at w 11) other.1 in
                    let bit = mark_cell track p 15 run.first (lit< tt) in
                    let f : 1 ≡ 0 = sym bit ∙ none in omega (arith, f)
                | inr (inr other) ↦ let f = other.0 in omega (arith, f)
              ]
          | inr (inr found) ↦
              let at_zero = found.0 in
              let start : p + 3 ≡ 16 * k = omega (arith, at_zero) in
              let there : p + 3 + 35 ≡ p + 32 + 6 = omega arith in
              let bit : cell track (p + 3 + 35) ≡ 0 = ap (cell track) there ∙ mark_cell track (p + 32) 6 run.third (lit< tt) in
              no_seams (p + 3) k (omega arith) start one two three bit
        ]

    -- every run on a recorded track is three marks at a word boundary
    pub run_at_word : (p : ℕ) → IsRun track p → (k : ℕ) × IsRunAtWord track p k
    run_at_word p run =
        elim (cases_eq (p % 2) 0) [
          | inl even ↦ even_run p run even
          | inr odd ↦ absurd (odd_run p run (omega arith))
        ]

-- ---- the words of symbols

-- marks are A1 or C2
abbrev pub AreMarks : List Symbol → Type 0
AreMarks symbols = (k cells : ℕ) → get_or symbols k (Byte 0) ≡ Mark cells → (cells ≡ 0x4489) ⊎ (cells ≡ 0x5224)

pub length-recorded : (last : Bool) (symbols : List Symbol) → length (recorded last symbols) ≡ length symbols
unfolding recorded
length-recorded last [] = refl
length-recorded last (symbol ∷ rest) = ap suc (length-recorded (symbol_bit symbol) rest)

-- the last bit before a symbol
pub symbol_behind : Bool → List Symbol → ℕ → Bool
symbol_behind first symbols zero = first
symbol_behind first symbols (suc k) = symbol_bit (get_or symbols k (Byte 0))

pub get_or-recorded : (first : Bool) (symbols : List Symbol) (k : ℕ) → k < length symbols → get_or (recorded first symbols) k 0 ≡ word_after (symbol_behind first symbols k) (get_or symbols k (Byte 0))
unfolding recorded symbol_behind
get_or-recorded first [] k h = absurd (omega arith)
get_or-recorded first (symbol ∷ rest) zero h = refl
get_or-recorded first (symbol ∷ rest) (suc zero) h = get_or-recorded (symbol_bit symbol) rest zero (omega arith)
get_or-recorded first (symbol ∷ rest) (suc (suc k)) h = get_or-recorded (symbol_bit symbol) rest (suc k) (omega arith)

-- the last bit of a word is that of its symbol
pub byte_word_bit : (last : Bool) (byte : ℕ) → eqb (byte_word last byte % 2) 1 ≡ last_bit byte
byte_word_bit last byte =
    let bytes = byte ∷ [] in
    let words = legal last bytes in
    let fifteen : 15 ≡ 16 * 0 + 15 = refl in
    let bit = sym (cell_in words 15 0 15 fifteen (lit< tt) ∙ bit_at_lowest (byte_word last byte)) ∙ cell-legal last bytes 15 (lit< tt) ∙ legal_cell-data last bytes 15 7 refl ∙ bit_at_lowest byte in
    ap (λ b. eqb b 1) bit

word_bit : (last : Bool) (symbol : Symbol) → eqb (word_after last symbol % 2) 1 ≡ symbol_bit symbol
word_bit last (Byte byte) = byte_word_bit last byte
word_bit last (Key byte) = byte_word_bit last byte
word_bit last (Mark cells) = refl

pub bit_behind-recorded : (first : Bool) (symbols : List Symbol) (k : ℕ) → k < length symbols → bit_behind first (recorded first symbols) k ≡ symbol_behind first symbols k
unfolding bit_behind symbol_behind
bit_behind-recorded first symbols zero h = refl
bit_behind-recorded first symbols (suc k) h =
    ap (λ w. eqb (w % 2) 1) (get_or-recorded first symbols k (omega arith)) ∙ word_bit (symbol_behind first symbols k) (get_or symbols k (Byte 0))

symbol_word : (last : Bool) (symbol : Symbol) → ((cells : ℕ) → symbol ≡ Mark cells → (cells ≡ 0x4489) ⊎ (cells ≡ 0x5224)) → (word_after last symbol ≡ 0x4489) ⊎ ((word_after last symbol ≡ 0x5224) ⊎ ((byte : ℕ) × (word_after last symbol ≡ byte_word last byte)))
symbol_word last (Byte byte) marks = inr (inr (byte, refl))
symbol_word last (Key byte) marks = inr (inr (byte, refl))
symbol_word last (Mark cells) marks = elim (marks cells refl) [ inl e ↦ inl e | inr e ↦ inr (inl e) ]

pub recorded_words : (Seam : ℕ → Type 0) (first : Bool) (symbols : List Symbol) → AreMarks symbols → AreWords Seam first (recorded first symbols)
recorded_words Seam first symbols marks k h =
    let within : k < length symbols = omega (arith, length-recorded first symbols) in
    let last = symbol_behind first symbols k in
    let is = get_or-recorded first symbols k within in
    elim (symbol_word last (get_or symbols k (Byte 0)) (marks k)) [
      | inl e ↦ inl (is ∙ e)
      | inr (inl e) ↦ inr (inl (is ∙ e))
      | inr (inr (byte, e)) ↦
          inr (inr (record {
            last = last;
            byte = byte;
            is = is ∙ e;
            in_line = inl (sym (bit_behind-recorded first symbols k within));
          }))
    ]

-- the byte of a symbol's word
abbrev IsByteSized : Symbol → Type 0
IsByteSized symbol = symbol_byte symbol < 256

byte_word_byte : (last : Bool) (byte : ℕ) → byte < 256 → byte_at (byte_word last byte ∷ []) 0 ≡ byte
byte_word_byte last byte small =
    let bytes = byte ∷ [] in
    let words = legal last bytes in
    number_from_bits (λ i. cell (byte_word last byte ∷ []) (0 + (2 * i + 1))) 8 byte small
    (λ i l.
    let place : 0 + (2 * i + 1) ≡ 16 * 0 + (2 * i + 1) = omega arith in
    let data_place : 2 * i + 1 ≡ 16 * 0 + (2 * i + 1) = omega arith in
    let eighth : i / 8 ≡ 0 = omega arith in
    let rest : 7 - i % 8 ≡ 8 - 1 - i = omega arith in
    cell_in (byte_word last byte ∷ []) (0 + (2 * i + 1)) 0 (2 * i + 1) place (omega arith)
    ∙ sym (cell_in words (2 * i + 1) 0 (2 * i + 1) data_place (omega arith))
    ∙ cell-legal last bytes (2 * i + 1) (omega arith)
    ∙ legal_cell-data last bytes (2 * i + 1) i refl
    ∙ ap (λ k. bit_at (get_or bytes k 0) (7 - i % 8)) eighth
    ∙ ap (bit_at byte) rest)

word_byte : (last : Bool) (symbol : Symbol) → IsByteSized symbol → byte_at (word_after last symbol ∷ []) 0 ≡ symbol_byte symbol
word_byte last (Byte byte) small = byte_word_byte last byte small
word_byte last (Key byte) small = byte_word_byte last byte small
word_byte last (Mark cells) small = refl

-- the byte at a word boundary
pub byte_at_word : (track : List ℕ) (p k : ℕ) → p ≡ 16 * k → byte_at track p ≡ byte_at (get_or track k 0 ∷ []) 0
byte_at_word track p k e =
    number_ext (λ i. cell track (p + (2 * i + 1))) (λ i. cell (get_or track k 0 ∷ []) (0 + (2 * i + 1))) 8
    (λ i l.
    let here : p + (2 * i + 1) ≡ 16 * k + (2 * i + 1) = omega arith in
    let alone : 0 + (2 * i + 1) ≡ 16 * 0 + (2 * i + 1) = omega arith in
    cell_in track (p + (2 * i + 1)) k (2 * i + 1) here (omega arith)
    ∙ sym (cell_in (get_or track k 0 ∷ []) (0 + (2 * i + 1)) 0 (2 * i + 1) alone (omega arith)))

pub byte_at-recorded : (first : Bool) (symbols : List Symbol) (p k : ℕ) → p ≡ 16 * k → k < length symbols → symbol_byte (get_or symbols k (Byte 0)) < 256 → byte_at (recorded first symbols) p ≡ symbol_byte (get_or symbols k (Byte 0))
byte_at-recorded first symbols p k e h small =
    byte_at_word (recorded first symbols) p k e
    ∙ ap (λ w. byte_at (w ∷ []) 0) (get_or-recorded first symbols k h)
    ∙ word_byte (symbol_behind first symbols k) (get_or symbols k (Byte 0)) small

-- the word of a byte is no mark A1
byte_word_no_mark : (last : Bool) (byte : ℕ) → byte_word last byte ≡ 0x4489 → ⊥
byte_word_no_mark last byte e =
    let bytes = byte ∷ [] in
    let fits : get_or (legal last bytes) 0 0 < 2 ^ 16 = omega (arith, e) in
    no_mark last bytes 0 (lit≤ tt) (cells_at-word (legal last bytes) 0 0 refl fits ∙ e)

-- and it is no zero word: a bit and its clock, or the clock behind it, hold a 1
byte_word_some : (last : Bool) (byte : ℕ) → byte_word last byte ≡ 0 → ⊥
byte_word_some last byte e =
    let bytes = byte ∷ [] in
    let words = legal last bytes in
    let cell_zero = λ (i : ℕ) (h : i < 16) (f : i ≡ 16 * 0 + i). cell_in words i 0 i f h ∙ ap (λ w. bit_at w (15 - i)) e ∙ bit_at-zero (15 - i) in
    let gap = no_gap last bytes 1 refl (lit< tt) (cell_zero 1 (lit< tt) refl) (cell_zero 3 (lit< tt) refl) in
    omega (arith, gap, cell_zero 2 (lit< tt) refl)

pub mark_symbol : (last : Bool) (symbol : Symbol) → word_after last symbol ≡ 0x4489 → symbol ≡ Mark 0x4489
mark_symbol last (Byte byte) e = absurd (byte_word_no_mark last byte e)
mark_symbol last (Key byte) e = absurd (byte_word_no_mark last byte e)
mark_symbol last (Mark cells) e = ap (λ c. Mark c) e

pub word_some : (last : Bool) (symbol : Symbol) → ((cells : ℕ) → symbol ≡ Mark cells → (cells ≡ 0x4489) ⊎ (cells ≡ 0x5224)) → word_after last symbol ≡ 0 → ⊥
word_some last (Byte byte) marks e = byte_word_some last byte e
word_some last (Key byte) marks e = byte_word_some last byte e
word_some last (Mark cells) marks e = elim (marks cells refl) [ inl f ↦ (let g : 0 ≡ 0x4489 = sym e ∙ f in omega (arith, g)) | inr f ↦ (let g : 0 ≡ 0x5224 = sym e ∙ f in omega (arith, g)) ]

-- no mark A1 stands where only bytes are recorded
pub no_mark_in_bytes : (first : Bool) (symbols : List Symbol) (q : ℕ) → ((k : ℕ) → q / 16 ≤ k → k ≤ (q + 15) / 16 → (byte : ℕ) × (k < length symbols) × (get_or symbols k (Byte 0) ≡ Byte byte)) → cells_at (recorded first symbols) q ≡ 0x4489 → ⊥
no_mark_in_bytes first symbols q bytes mark =
    let track = recorded first symbols in
    let clean = λ (e : ℕ) (low : q ≤ e) (high : e ≤ q + 15) (lost : IsLost track e).
    let k = e / 16 in
    let c = e % 16 in
    let place : e ≡ 16 * k + c = omega arith in
    let symbol = bytes k (omega arith) (omega arith) in
    let is = get_or-recorded first symbols k symbol.1 ∙ ap (word_after (symbol_behind first symbols k)) symbol.2 ∙ ap (λ b. byte_word b symbol.0) (sym (bit_behind-recorded first symbols k symbol.1)) in
    not_lost_in_byte track e k c symbol.0 (bit_behind first track k) place (omega arith) is (λ none before. behind_zero first track e k (omega arith) lost.later before) lost in
    elim (cases_eq (q % 2) 0) [
      | inl even ↦ clean (q + 10) (omega arith) (omega arith) (lost_even track q (q + 10) even refl mark)
      | inr odd ↦ clean (q + 3) (omega arith) (omega arith) (lost_odd track q (q + 3) (omega arith) refl mark)
    ]
