-- The words of a window are recorded words. A track with a cut of a window has recorded words, apart from a seam behind
-- the cut.
use Rattle.std.proofs.Common.{◌≡◌, ℕ, zero, suc, ◌+◌, ◌-◌, ◌%◌, ◌<◌, ◌≤◌, Bool, true, false, eqb, List, [], ◌∷◌, ◌++◌, length, get_or, take, replicate, refl, sym, ap, subst, ◌∙◌, ◌⊎◌, append_assoc, arith, inl, inr}
use Rattle.track_model.proofs.Common.{cases_lt, cases_eq, append-nil, length-take, get_or-take, last_bit}
use Rattle.track_model.specs.Bytes.{legal}
use Rattle.flop_base.specs.Lists.{with_items}
use Rattle.track_model.proofs.Legals.{legal-cons, legal-nil, last_of}
use Rattle.track_model.proofs.Recorded.{byte_word, bit_behind, IsWord, AreWords, Nowhere, byte_word_bit}
use Rattle.track_model.proofs.Splices.{length-with_items, with_items_before, with_items_at, with_items_behind}
use Rattle.track_model.proofs.WindowMarks.{marked}

-- a recorded word stays one if the bit before it stays, or if the word becomes a seam
pub moved_word : (Seam Other : ℕ → Type 0) (first start : Bool) (track after : List ℕ) (i j : ℕ) → get_or after j 0 ≡ get_or track i 0 → (bit_behind first track i ≡ bit_behind start after j) ⊎ Other j → (Seam i → Other j) → IsWord Seam first track i → IsWord Other start after j
moved_word Seam Other first start track after i j same bit seam (inl e) = inl (same ∙ e)
moved_word Seam Other first start track after i j same bit seam (inr (inl e)) = inr (inl (same ∙ e))
moved_word Seam Other first start track after i j same bit seam (inr (inr word)) =
    inr (inr (record {
      last = word.last;
      byte = word.byte;
      is = same ∙ word.is;
      in_line = elim word.in_line [
        | inl e ↦ elim bit [ inl f ↦ inl (e ∙ f) | inr other ↦ inr other ]
        | inr here ↦ inr (seam here)
      ];
    }))

-- the bit behind the same word is the same
pub same_bit : (first : Bool) (track after : List ℕ) (i : ℕ) → ((j : ℕ) → i ≡ j + 1 → get_or after j 0 ≡ get_or track j 0) → bit_behind first track i ≡ bit_behind first after i
unfolding bit_behind
same_bit first track after zero same = refl
same_bit first track after (suc j) same = ap (λ w. eqb (w % 2) 1) (sym (same j (omega arith)))

-- ---- the words of bytes and of marks

next_bit : (first next : Bool) (word : ℕ) (rest : List ℕ) (k : ℕ) → eqb (word % 2) 1 ≡ next → bit_behind next rest k ≡ bit_behind first (word ∷ rest) (suc k)
unfolding bit_behind
next_bit first next word rest zero bit = sym bit
next_bit first next word rest (suc k) bit = refl

words-cons : (first next : Bool) (word : ℕ) (rest : List ℕ) → IsWord Nowhere first (word ∷ rest) 0 → eqb (word % 2) 1 ≡ next → AreWords Nowhere next rest → AreWords Nowhere first (word ∷ rest)
words-cons first next word rest here bit more zero h = here
words-cons first next word rest here bit more (suc k) h =
    moved_word Nowhere Nowhere next first rest (word ∷ rest) k (suc k) refl (inl (next_bit first next word rest k bit)) (λ none. none) (more k (omega arith))

one_word : (last : Bool) (byte : ℕ) → legal last (byte ∷ []) ≡ byte_word last byte ∷ []
unfolding legal
one_word last byte = refl

byte_first : (last : Bool) (byte : ℕ) (rest : List ℕ) → IsWord Nowhere last (byte_word last byte ∷ rest) 0
unfolding bit_behind
byte_first last byte rest = inr (inr (record { last = last; byte = byte; is = refl; in_line = inl refl }))

words-legal : (last : Bool) (bytes rest : List ℕ) → AreWords Nowhere (last_of last bytes) rest → AreWords Nowhere last (legal last bytes ++ rest)
unfolding last_of
words-legal last [] rest more = subst (λ words. AreWords Nowhere last (words ++ rest)) (sym (legal-nil last)) more
words-legal last (byte ∷ bytes) rest more =
    let shape : legal last (byte ∷ bytes) ++ rest ≡ byte_word last byte ∷ (legal (last_bit byte) bytes ++ rest) = ap (λ words. words ++ rest) (legal-cons last byte bytes ∙ ap (λ words. words ++ legal (last_bit byte) bytes) (one_word last byte)) in
    subst (AreWords Nowhere last) (sym shape)
    (words-cons last (last_bit byte) (byte_word last byte) (legal (last_bit byte) bytes ++ rest) (byte_first last byte (legal (last_bit byte) bytes ++ rest)) (byte_word_bit last byte) (words-legal (last_bit byte) bytes rest more))

legal_words : (last : Bool) (bytes : List ℕ) → AreWords Nowhere last (legal last bytes)
legal_words last bytes =
    subst (AreWords Nowhere last) (append-nil (legal last bytes)) (words-legal last bytes [] (λ k h. absurd (omega arith)))

behind_zeros : last_of false (replicate 12 0) ≡ false
unfolding last_of
behind_zeros = refl

-- sync, marks and bytes are recorded words after a bit 0
pub marked_words : (bytes : List ℕ) → AreWords Nowhere false (marked bytes)
marked_words bytes =
    let marks : List ℕ = 0x4489 ∷ 0x4489 ∷ 0x4489 ∷ [] in
    let third = words-cons true true 0x4489 (legal true bytes) (inl refl) refl (legal_words true bytes) in
    let second = words-cons true true 0x4489 (0x4489 ∷ legal true bytes) (inl refl) refl third in
    let first = words-cons false true 0x4489 (0x4489 ∷ 0x4489 ∷ legal true bytes) (inl refl) refl second in
    let behind = subst (λ last. AreWords Nowhere last (marks ++ legal true bytes)) (sym behind_zeros) first in
    subst (AreWords Nowhere false) (sym (append_assoc (legal false (replicate 12 0)) marks (legal true bytes)))
    (words-legal false (replicate 12 0) (marks ++ legal true bytes) behind)

-- ---- a track with the first words of these put in behind a bit 0

module _ (track : List ℕ) (start : ℕ) (words : List ℕ) (k : ℕ) (most : k ≤ length words) (inside : start + k ≤ length track) where
  abbrev after : List ℕ
  after = with_items track start (take k words)

  -- the seams that were there outside of the words put in, and the word behind these
  abbrev pub WithCut : (ℕ → Type 0) → ℕ → Type 0
  WithCut Seam i = (Seam i × ((i < start) ⊎ (start + k ≤ i))) ⊎ (i ≡ start + k)

  long : length (take k words) ≡ k
  long = omega (arith, length-take k words)

  fits : start + length (take k words) ≤ length track
  fits = omega (arith, long)

  pub put_before : (i : ℕ) → i < start → get_or after i 0 ≡ get_or track i 0
  put_before i h = with_items_before track start (take k words) fits i h

  pub put_at : (i j : ℕ) → i ≡ start + j → j < k → get_or after i 0 ≡ get_or words j 0
  put_at i j e h = with_items_at track start (take k words) fits i j e (omega (arith, long)) ∙ get_or-take k words j 0 h

  pub put_behind : (i : ℕ) → start + k ≤ i → get_or after i 0 ≡ get_or track i 0
  put_behind i h = with_items_behind track start (take k words) fits i (omega (arith, long))

  pub length-put : length after ≡ length track
  length-put = length-with_items track start (take k words) fits

  module _ (bit : bit_behind false track start ≡ false) where
    bit_within : (j i : ℕ) → i ≡ start + j → j < k → bit_behind false words j ≡ bit_behind false after i
    unfolding bit_behind
    bit_within zero i e h =
        let here : start ≡ i = omega arith in
        sym bit ∙ same_bit false track after start (λ m f. put_before m (omega arith)) ∙ ap (bit_behind false after) here
    bit_within (suc j) i e h =
        let here : suc (start + j) ≡ i = omega arith in
        ap (λ w. eqb (w % 2) 1) (sym (put_at (start + j) j refl (omega arith))) ∙ ap (bit_behind false after) here

    -- its words are recorded words, with a seam behind those put in
    pub put_words : (Seam : ℕ → Type 0) → AreWords Seam false track → AreWords Nowhere false words → AreWords (WithCut Seam) false after
    put_words Seam old own i h =
        let within : i < length track = omega (arith, length-put) in
        elim (cases_lt i start) [
          | inl before ↦
              moved_word Seam (WithCut Seam) false false track after i i (put_before i before) (inl (same_bit false track after i (λ j e. put_before j (omega arith)))) (λ seam. inl (seam, inl before)) (old i within)
          | inr low ↦
              elim (cases_lt i (start + k)) [
                | inl high ↦
                    let j = i - start in
                    let place : i ≡ start + j = omega arith in
                    moved_word Nowhere (WithCut Seam) false false words after j i (put_at i j place (omega arith)) (inl (bit_within j i place (omega arith))) (λ none. absurd none) (own j (omega arith))
                | inr behind ↦
                    elim (cases_eq i (start + k)) [
                      | inl e ↦
                          moved_word Seam (WithCut Seam) false false track after i i (put_behind i behind) (inr (inr e)) (λ seam. inl (seam, inr behind)) (old i within)
                      | inr other ↦
                          moved_word Seam (WithCut Seam) false false track after i i (put_behind i behind) (inl (same_bit false track after i (λ j e. put_behind j (omega arith)))) (λ seam. inl (seam, inr behind)) (old i within)
                    ]
              ]
        ]
