-- After a whole window was written, its data field is intact, whatever other fields the track has.
use Rattle.std.proofs.Common.{◌≡◌, ℕ, suc, ◌+◌, ◌-◌, ◌*◌, ◌/◌, ◌%◌, ◌^◌, ◌<◌, ◌≤◌, Bool, true, List, ◌∷◌, ◌++◌, length, get_or, sym, ap, ◌∙◌, arith, inl, inr}
use Rattle.sector_map.proofs.Common.{cases_lt, cases_eq, get_or_append_left, get_or-append-add, length-append, fill_by_all, byte_at, legal, crc, data_byte, after_marks, content_size, content_at, sync_and_marks, check_bytes, window, length-sync_and_marks, length-window}
use Rattle.flop_base.specs.Lists.{with_items}
use Rattle.track_model.proofs.OwnField.{legal_not_zero}
use Rattle.track_model.proofs.Splices
use Rattle.track_model.proofs.WindowMarks.{marked, byte_in, word_12, word_13, word_14}

not_zero : (deleted : Bool) (rest : List ℕ) (i : ℕ) → 12 ≤ i → i < 16 + length rest → get_or (marked (data_byte deleted ∷ rest)) i 0 ≡ 0 → ⊥
not_zero deleted rest i low high zero =
    let words : List ℕ = marked (data_byte deleted ∷ rest) in
    elim (cases_lt i 15) [
      | inr h ↦
          let place : i ≡ length sync_and_marks + (i - 15) = omega (arith, length-sync_and_marks) in
          let word = get_or-append-add sync_and_marks (legal true (data_byte deleted ∷ rest)) (i - 15) 0 in
          legal_not_zero true (data_byte deleted ∷ rest) (i - 15) (omega arith) (sym word ∙ ap (λ j. get_or words j 0) (sym place) ∙ zero)
      | inl h ↦
          elim (cases_eq i 12) [
            | inl e ↦ absurd (let is = word_12 deleted rest in let z = ap (λ j. get_or words j 0) e in omega arith)
            | inr a ↦
                elim (cases_eq i 13) [
                  | inl e ↦ absurd (let is = word_13 deleted rest in let z = ap (λ j. get_or words j 0) e in omega arith)
                  | inr b ↦
                      let e : i ≡ 14 = omega arith in
                      absurd (let is = word_14 deleted rest in let z = ap (λ j. get_or words j 0) e in omega arith)
                ]
          ]
    ]

module _ (track : List ℕ) (start : ℕ) (deleted : Bool) (content : List ℕ) (n : ℕ) (sized : length content ≡ content_size n) (bytes : (j : ℕ) → get_or content j 0 < 2 ^ 8) (fits : start + length (window deleted content) ≤ length track) where
  abbrev check : ℕ
  check = crc (after_marks (data_byte deleted ∷ content))

  abbrev rest : List ℕ
  rest = content ++ check_bytes check

  abbrev row : List ℕ
  row = with_items track start (window deleted content)

  long_rest : length rest ≡ content_size n + 2
  long_rest = omega (arith, length-append content (check_bytes check))

  long : length (window deleted content) ≡ content_size n + 18
  long = omega (arith, length-window deleted content)

  row_rest : (q j : ℕ) → q ≡ 16 * start + 256 + 16 * j → j < length rest → get_or rest j 0 < 2 ^ 8 → byte_at row q ≡ get_or rest j 0
  row_rest q j e h small =
      Splices.byte_of track start (window deleted content) fits q (256 + 16 * j) (omega arith) (omega (arith, long, long_rest))
      ∙ byte_in (data_byte deleted ∷ rest) (256 + 16 * j) (suc j) (omega arith) (omega arith) small

  row_content : content ≡ content_at row (16 * start + 192 + 64) n
  row_content =
      fill_by_all (λ i. byte_at row (16 * start + 192 + 64 + 16 * i)) content (content_size n) 0 sized
      (λ j h.
      let left = get_or_append_left content (check_bytes check) 0 j (omega arith) in
      let small = bytes j in
      sym (row_rest (16 * start + 192 + 64 + 16 * j) j (omega arith) (omega (arith, long_rest)) (omega (arith, left)) ∙ left))

  high : get_or rest (content_size n) 0 ≡ check / 256
  high =
      let place : content_size n ≡ length content + 0 = omega arith in
      ap (λ j. get_or rest j 0) place ∙ get_or-append-add content (check_bytes check) 0 0

  low : get_or rest (content_size n + 1) 0 ≡ check % 256
  low =
      let place : content_size n + 1 ≡ length content + 1 = omega arith in
      ap (λ j. get_or rest j 0) place ∙ get_or-append-add content (check_bytes check) 1 0
