-- Where marks A1 stand in the words of a field: in the three words of its run, and nowhere between or beside them.
use Rattle.std.proofs.Common.{◌≡◌, ℕ, ◌+◌, ◌-◌, ◌*◌, ◌/◌, ◌%◌, ◌^◌, ◌<◌, ◌≤◌, Bool, true, false, eqb, List, [], ◌∷◌, ◌++◌, length, get_or, replicate, refl, sym, ap, ◌∙◌, lit<, arith, inl, inr}
use Rattle.track_model.proofs.Common.{cases_lt, agree_below_at, eq-eqb, false≢true, get_or_append_left, get_or-append-add, length-append, bit_at, cell, cells_at, byte_at, data_byte, sync_and_marks}
use Rattle.track_model.specs.Cells.{number}
use Rattle.track_model.specs.Bytes.{legal}
use Rattle.track_model.proofs.Numbers.{number_ext}
use Rattle.track_model.proofs.Places.{cells_at-pair, cells_at-word}
use Rattle.track_model.proofs.Legals.{length-legal, legal-cons, no_mark, byte_at-legal}
use Rattle.track_model.proofs.Written.{length-sync_and_marks}

-- ---- cells of words one after the other

module _ (words more : List ℕ) where
  cell-left : (p : ℕ) → p < 16 * length words → cell (words ++ more) p ≡ cell words p
  cell-left p h = ap (λ w. bit_at w (15 - p % 16)) (get_or_append_left words more 0 (p / 16) (omega arith))

  cell-right : (p q : ℕ) → p ≡ 16 * length words + q → cell (words ++ more) p ≡ cell more q
  cell-right p q e =
      let word : p / 16 ≡ length words + q / 16 = omega arith in
      let place : p % 16 ≡ q % 16 = omega arith in
      ap (λ w. bit_at (get_or (words ++ more) w 0) (15 - p % 16)) word
      ∙ ap (λ w. bit_at w (15 - p % 16)) (get_or-append-add words more (q / 16) 0)
      ∙ ap (λ j. bit_at (get_or more (q / 16) 0) (15 - j)) place

  pub cells_at-left : (p : ℕ) → p + 16 ≤ 16 * length words → cells_at (words ++ more) p ≡ cells_at words p
  cells_at-left p h = number_ext (λ i. cell (words ++ more) (p + i)) (λ i. cell words (p + i)) 16 (λ i l. cell-left (p + i) (omega arith))

  pub cells_at-right : (p q : ℕ) → p ≡ 16 * length words + q → cells_at (words ++ more) p ≡ cells_at more q
  cells_at-right p q e =
      number_ext (λ i. cell (words ++ more) (p + i)) (λ i. cell more (q + i)) 16 (λ i l. cell-right (p + i) (q + i) (omega arith))

  pub byte_at-left : (p : ℕ) → p + 16 ≤ 16 * length words → byte_at (words ++ more) p ≡ byte_at words p
  byte_at-left p h =
      number_ext (λ i. cell (words ++ more) (p + (2 * i + 1))) (λ i. cell words (p + (2 * i + 1))) 8 (λ i l. cell-left (p + (2 * i + 1)) (omega arith))

  pub byte_at-right : (p q : ℕ) → p ≡ 16 * length words + q → byte_at (words ++ more) p ≡ byte_at more q
  byte_at-right p q e =
      number_ext (λ i. cell (words ++ more) (p + (2 * i + 1))) (λ i. cell more (q + (2 * i + 1))) 8
      (λ i l. cell-right (p + (2 * i + 1)) (q + (2 * i + 1)) (omega arith))

-- ---- no mark leans over from one word to the next

leans : ℕ → ℕ → ℕ → Bool
leans a b o = eqb ((a * 2 ^ 16 + b) / 2 ^ (16 - o) % 2 ^ 16) 0x4489

-- at an offset past the word's beginning
from_sync : (o : ℕ) → o < 15 → leans 0xAAAA 0x4489 (o + 1) ≡ false
unfolding leans
from_sync o h = agree_below_at (λ i. leans 0xAAAA 0x4489 (i + 1)) (λ _. false) 15 o refl h

to_normal : (o : ℕ) → o < 15 → leans 0x4489 0x5545 (o + 1) ≡ false
unfolding leans
to_normal o h = agree_below_at (λ i. leans 0x4489 0x5545 (i + 1)) (λ _. false) 15 o refl h

to_deleted : (o : ℕ) → o < 15 → leans 0x4489 0x554A (o + 1) ≡ false
unfolding leans
to_deleted o h = agree_below_at (λ i. leans 0x4489 0x554A (i + 1)) (λ _. false) 15 o refl h

no_lean : (words : List ℕ) (a b p k o : ℕ) → get_or words k 0 ≡ a → get_or words (k + 1) 0 ≡ b → b < 2 ^ 16 → p ≡ 16 * k + (o + 1) → o < 15 → leans a b (o + 1) ≡ false → cells_at words p ≡ 0x4489 → ⊥
unfolding leans
no_lean words a b p k o first second fits e h none mark =
    let pair = cells_at-pair words p k (o + 1) e (omega arith) (omega (arith, second)) in
    let value : (a * 2 ^ 16 + b) / 2 ^ (16 - (o + 1)) % 2 ^ 16 ≡ 0x4489 =
    ap (λ w. (w * 2 ^ 16 + b) / 2 ^ (16 - (o + 1)) % 2 ^ 16) (sym first)
    ∙ ap (λ w. (get_or words k 0 * 2 ^ 16 + w) / 2 ^ (16 - (o + 1)) % 2 ^ 16) (sym second)
    ∙ pair
    ∙ mark in
    absurd (false≢true (sym none ∙ eq-eqb ((a * 2 ^ 16 + b) / 2 ^ (16 - (o + 1)) % 2 ^ 16) 0x4489 value))

-- ---- the words of a data field

-- sync, marks, and bytes of which the first is that of a data field
abbrev pub marked : List ℕ → List ℕ
marked bytes = sync_and_marks ++ legal true bytes

module _ (deleted : Bool) (rest : List ℕ) where
  word_11 : get_or (marked (data_byte deleted ∷ rest)) 11 0 ≡ 0xAAAA
  unfolding legal number
  word_11 = refl

  pub word_12 : get_or (marked (data_byte deleted ∷ rest)) 12 0 ≡ 0x4489
  unfolding legal number
  word_12 = refl

  pub word_13 : get_or (marked (data_byte deleted ∷ rest)) 13 0 ≡ 0x4489
  unfolding legal number
  word_13 = refl

  pub word_14 : get_or (marked (data_byte deleted ∷ rest)) 14 0 ≡ 0x4489
  unfolding legal number
  word_14 = refl

-- the word behind the marks
word_15 : (byte : ℕ) (rest : List ℕ) → get_or (marked (byte ∷ rest)) 15 0 ≡ get_or (legal true (byte ∷ [])) 0 0
word_15 byte rest =
    let place : 15 ≡ length sync_and_marks + 0 = omega (arith, length-sync_and_marks) in
    let first : 0 < length (legal true (byte ∷ [])) = omega (arith, length-legal true (byte ∷ [])) in
    ap (λ k. get_or (marked (byte ∷ rest)) k 0) place
    ∙ get_or-append-add sync_and_marks (legal true (byte ∷ rest)) 0 0
    ∙ ap (λ words. get_or words 0 0) (legal-cons true byte rest)
    ∙ get_or_append_left (legal true (byte ∷ [])) _ 0 0 first

normal_word : get_or (legal true (0xFB ∷ [])) 0 0 ≡ 0x5545
unfolding legal number
normal_word = refl

deleted_word : get_or (legal true (0xF8 ∷ [])) 0 0 ≡ 0x554A
unfolding legal number
deleted_word = refl

-- no mark leans over from the third mark
no_lean_behind : (deleted : Bool) (rest : List ℕ) (p o : ℕ) → p ≡ 16 * 14 + (o + 1) → o < 15 → cells_at (marked (data_byte deleted ∷ rest)) p ≡ 0x4489 → ⊥
no_lean_behind false rest p o e h =
    no_lean (marked (0xFB ∷ rest)) 0x4489 0x5545 p 14 o (word_14 false rest) (word_15 0xFB rest ∙ normal_word) (lit< tt) e h (to_normal o h)
no_lean_behind true rest p o e h =
    no_lean (marked (0xF8 ∷ rest)) 0x4489 0x554A p 14 o (word_14 true rest) (word_15 0xF8 rest ∙ deleted_word) (lit< tt) e h (to_deleted o h)

-- none stands in the sync, or leans over from it
no_mark_before : (deleted : Bool) (rest : List ℕ) (p : ℕ) → p < 192 → cells_at (marked (data_byte deleted ∷ rest)) p ≡ 0x4489 → ⊥
no_mark_before deleted rest p h mark =
    let sync : List ℕ = legal false (replicate 12 0) in
    let marks : List ℕ = 0x4489 ∷ 0x4489 ∷ 0x4489 ∷ [] in
    let bytes : List ℕ = data_byte deleted ∷ rest in
    let long = length-legal false (replicate 12 0) in
    elim (cases_lt 176 p) [
      | inl over ↦
          let place : p ≡ 16 * 11 + (p - 177 + 1) = omega arith in
          no_lean (marked bytes) 0xAAAA 0x4489 p 11 (p - 177) (word_11 deleted rest) (word_12 deleted rest) (lit< tt) place (omega arith) (from_sync (p - 177) (omega arith)) mark
      | inr within ↦
          let left = cells_at-left sync_and_marks (legal true bytes) p (omega (arith, length-sync_and_marks)) in
          let lower = cells_at-left sync marks p (omega (arith, long)) in
          no_mark false (replicate 12 0) p (omega arith) (sym lower ∙ sym left ∙ mark)
    ]

-- none stands behind the three, or leans over from the last
no_mark_behind : (deleted : Bool) (rest : List ℕ) (p : ℕ) → 224 < p → p + 16 ≤ 16 * length (marked (data_byte deleted ∷ rest)) → cells_at (marked (data_byte deleted ∷ rest)) p ≡ 0x4489 → ⊥
no_mark_behind deleted rest p h inside mark =
    let bytes : List ℕ = data_byte deleted ∷ rest in
    let long = length-append sync_and_marks (legal true bytes) in
    elim (cases_lt p 240) [
      | inl over ↦
          let place : p ≡ 16 * 14 + (p - 225 + 1) = omega arith in
          no_lean_behind deleted rest p (p - 225) place (omega arith) mark
      | inr within ↦
          let place : p ≡ 16 * length sync_and_marks + (p - 240) = omega (arith, length-sync_and_marks) in
          no_mark true bytes (p - 240) (omega (arith, long, length-sync_and_marks, length-legal true bytes))
          (sym (cells_at-right sync_and_marks (legal true bytes) p (p - 240) place) ∙ mark)
    ]

-- a mark in these words begins from the first of the three to the last
pub marks_in : (deleted : Bool) (rest : List ℕ) (p : ℕ) → p + 16 ≤ 16 * length (marked (data_byte deleted ∷ rest)) → cells_at (marked (data_byte deleted ∷ rest)) p ≡ 0x4489 → (192 ≤ p) × (p ≤ 224)
marks_in deleted rest p inside mark = (
  elim (cases_lt p 192) [ inl h ↦ absurd (no_mark_before deleted rest p h mark) | inr h ↦ h ],
  elim (cases_lt 224 p) [ inl h ↦ absurd (no_mark_behind deleted rest p h inside mark) | inr h ↦ h ],
)

pub length-marked : (bytes : List ℕ) → length (marked bytes) ≡ 15 + length bytes
length-marked bytes = omega (arith, length-append sync_and_marks (legal true bytes), length-sync_and_marks, length-legal true bytes)

-- the bytes behind the marks are the bytes
pub byte_in : (bytes : List ℕ) (p k : ℕ) → p ≡ 240 + 16 * k → k < length bytes → get_or bytes k 0 < 2 ^ 8 → byte_at (marked bytes) p ≡ get_or bytes k 0
byte_in bytes p k e h fits =
    let place : p ≡ 16 * length sync_and_marks + 16 * k = omega (arith, length-sync_and_marks) in
    byte_at-right sync_and_marks (legal true bytes) p (16 * k) place ∙ byte_at-legal true bytes (16 * k) k refl h fits

data_byte_fits : (deleted : Bool) → data_byte deleted < 2 ^ 8
data_byte_fits false = lit< tt
data_byte_fits true = lit< tt

pub byte_behind : (deleted : Bool) (rest : List ℕ) → byte_at (marked (data_byte deleted ∷ rest)) 240 ≡ data_byte deleted
byte_behind deleted rest = byte_in (data_byte deleted ∷ rest) 240 0 refl (omega arith) (data_byte_fits deleted)

-- the run of the field
pub run_in : (deleted : Bool) (rest : List ℕ) → (cells_at (marked (data_byte deleted ∷ rest)) 192 ≡ 0x4489) × (cells_at (marked (data_byte deleted ∷ rest)) 208 ≡ 0x4489) × (cells_at (marked (data_byte deleted ∷ rest)) 224 ≡ 0x4489)
run_in deleted rest =
    let words : List ℕ = marked (data_byte deleted ∷ rest) in
    let a = word_12 deleted rest in
    let b = word_13 deleted rest in
    let c = word_14 deleted rest in (
      cells_at-word words 192 12 refl (omega (arith, a)) ∙ a,
      cells_at-word words 208 13 refl (omega (arith, b)) ∙ b,
      cells_at-word words 224 14 refl (omega (arith, c)) ∙ c,
    )
