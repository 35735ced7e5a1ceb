-- A word of a data field.
use Rattle.std.proofs.Common.{◌≡◌, ◌≢◌, ◌↔◌, ℕ, ◌+◌, ◌-◌, ◌*◌, ◌/◌, ◌^◌, ◌<◌, ◌≤◌, Bool, true, false, IsTrue, MatchBool, List, [], ◌∷◌, ◌++◌, append_assoc, length, min, get_or, refl, sym, ap, subst, ◌∙◌, arith, inl, inr}
use Rattle.track_separator.proofs.Common.{cases_lt, append-nil, byte_at, bytes_at, crc, crc_from, TouchesNoZero, data_byte, HasCheck, after_marks, content_size, content_at, IsFirstDataMark, bytes_at-more, HasNoZeroFrom, KeepsFrom, IsShifted, register_byte, register_check, EndsInLast, IsReading, HasEnded, TellsWhole}
use Rattle.track_model.proofs.CrcSteps.{crc_from_none}
use Rattle.track_separator.proofs.Shared.{alike_bytes_at, alike_no_zero, alike_data_mark}
use Rattle.track_separator.proofs.Next.{IsMore, no_zero_up, last_some, keeps_next, byte_kept}
use Rattle.track_separator.proofs.Hunted.{back_alike}

-- what was all recorded and ends in the last word has no word 0000 from its beginning on
zeros_to_end : (fed : List ℕ) (p count : ℕ) → 0 < count → EndsInLast fed (p + count) → TouchesNoZero fed p count → HasNoZeroFrom fed p
zeros_to_end fed p count some ends none q low high zero_word =
    let inside = ends.inside in
    let last = ends.last in
    elim (cases_lt q (p + count)) [
      | inl h ↦ none q low h zero_word
      | inr h ↦
          let word_is : q / 16 ≡ (p + count - 1) / 16 = omega arith in
          none (p + count - 1) (omega arith) (omega arith) (ap (λ k. get_or fed k 0) (sym word_is) ∙ zero_word)
    ]

module _ (fed : List ℕ) (word : ℕ) (whole : List ℕ) (more : IsMore fed word whole) (cells back after p q : ℕ) (deleted : Bool) (size taken check : ℕ) (before touched : Bool) (small : back < 16) (shifted : IsShifted cells word after) (clean : touched ≡ false → (before ≡ false) × (word ≢ 0)) (dirty : touched ≡ true → before ≡ false → word ≡ 0) (was : IsReading fed cells back p q deleted size taken check before) where
  place_here : q + 64 + 16 * (taken + 1) + back ≡ 16 * length whole
  place_here = let lengths = more.size in let place = was.place in omega arith

  first_here : IsFirstDataMark whole p q deleted
  first_here =
      let place = was.place in
      record {
        mark = alike_data_mark fed whole (16 * length fed) more.alike p q deleted (omega arith) was.first.mark;
        none_before = λ k other low mark.
            was.first.none_before k other low (alike_data_mark whole fed (16 * length fed) (back_alike fed word whole more) p k other (omega arith) mark);
      }

  kept_here : KeepsFrom whole after (16 * length fed - 32)
  kept_here =
      let lengths = more.size in
      let place = was.place in
      keeps_next fed word whole more cells after (16 * length fed - 32) shifted was.recent (omega arith)

  recent_here : KeepsFrom whole after (16 * length whole - 32)
  recent_here r low high = let lengths = more.size in kept_here r (omega arith) high

  pub byte_here : register_byte after back ≡ byte_at whole (q + 64 + 16 * taken)
  byte_here =
      let lengths = more.size in
      let place = was.place in
      byte_kept whole after (16 * length fed - 32) (q + 64 + 16 * taken) back kept_here (omega arith) (omega arith)

  clean_more : TouchesNoZero fed q (64 + 16 * taken) → word ≢ 0 → TouchesNoZero whole q (64 + 16 * (taken + 1))
  clean_more none some r low high =
      let place = was.place in
      let here = place_here in
      let zeros = zeros_to_end fed q (64 + 16 * taken) (omega arith) (record { inside = omega arith; last = omega arith }) none in
      no_zero_up fed word whole more q some zeros r low (omega arith)

  clean_before : TouchesNoZero whole q (64 + 16 * (taken + 1)) → TouchesNoZero fed q (64 + 16 * taken)
  clean_before none =
      let place = was.place in
      alike_no_zero whole fed (16 * length fed) (back_alike fed word whole more) q (64 + 16 * taken) (omega arith) (λ r low high. none r low (omega arith))

  clean_last : TouchesNoZero whole q (64 + 16 * (taken + 1)) → word ≢ 0
  clean_last none =
      let here = place_here in
      last_some fed word whole more q (omega arith)
      (zeros_to_end whole q (64 + 16 * (taken + 1)) (omega arith) (record { inside = omega arith; last = omega arith }) none)

  recorded_here : MatchBool touched (TouchesNoZero whole q (64 + 16 * (taken + 1)) → ⊥) (TouchesNoZero whole q (64 + 16 * (taken + 1)))
  recorded_here = by_cases before touched clean dirty was.recorded
    where
      by_cases : (b t : Bool) → (t ≡ false → (b ≡ false) × (word ≢ 0)) → (t ≡ true → b ≡ false → word ≡ 0) → MatchBool b (TouchesNoZero fed q (64 + 16 * taken) → ⊥) (TouchesNoZero fed q (64 + 16 * taken)) → MatchBool t (TouchesNoZero whole q (64 + 16 * (taken + 1)) → ⊥) (TouchesNoZero whole q (64 + 16 * (taken + 1)))
      by_cases false false clean dirty h = clean_more h (clean refl).1
      by_cases false true clean dirty h = λ none. clean_last none (dirty refl refl)
      by_cases true false clean dirty h = absurd (let f = (clean refl).0 in cc)
      by_cases true true clean dirty h = λ none. h (clean_before none)

  same_bytes : bytes_at fed (q + 64) taken ≡ bytes_at whole (q + 64) taken
  same_bytes = let place = was.place in alike_bytes_at fed whole (16 * length fed) more.alike (q + 64) taken (omega arith)

  pub read_byte : (stepped : ℕ) → taken < size → ((rest : List ℕ) → crc_from check (register_byte after back ∷ rest) ≡ crc_from stepped rest) → IsReading whole after back p q deleted size (taken + 1) stepped touched
  read_byte stepped less goes_on =
      let old : min taken size ≡ taken = omega arith in
      let new : taken + 1 ≡ min (taken + 1) size = omega arith in
      let row = λ (bytes : List ℕ). crc (after_marks (data_byte deleted ∷ bytes)) in
      record {
        place = place_here;
        most = omega arith;
        first = first_here;
        recent = recent_here;
        recorded = recorded_here;
        goes_on = λ rest.
            sym (goes_on rest)
            ∙ was.goes_on (register_byte after back ∷ rest)
            ∙ ap (λ count. row (bytes_at fed (q + 64) count ++ register_byte after back ∷ rest)) old
            ∙ ap (λ bytes. row (bytes ++ register_byte after back ∷ rest)) same_bytes
            ∙ ap (λ byte. row (bytes_at whole (q + 64) taken ++ byte ∷ rest)) byte_here
            ∙ ap row (sym (append_assoc (bytes_at whole (q + 64) taken) (byte_at whole (q + 64 + 16 * taken) ∷ []) rest))
            ∙ ap (λ bytes. row (bytes ++ rest)) (sym (bytes_at-more whole (q + 64) taken))
            ∙ ap (λ count. row (bytes_at whole (q + 64) count ++ rest)) new;
      }

  content_over : size ≤ taken → (rest : List ℕ) → crc_from check rest ≡ crc (after_marks (data_byte deleted ∷ (bytes_at whole (q + 64) size ++ rest)))
  content_over past rest =
      let place = was.place in
      let most : min taken size ≡ size = omega arith in
      was.goes_on rest
      ∙ ap (λ count. crc (after_marks (data_byte deleted ∷ (bytes_at fed (q + 64) count ++ rest)))) most
      ∙ ap (λ bytes. crc (after_marks (data_byte deleted ∷ (bytes ++ rest)))) (alike_bytes_at fed whole (16 * length fed) more.alike (q + 64) size (omega arith))

  pub read_check : taken ≡ size → IsReading whole after back p q deleted size (taken + 1) check touched
  read_check is =
      let new : size ≡ min (taken + 1) size = omega arith in
      record {
        place = place_here;
        most = omega arith;
        first = first_here;
        recent = recent_here;
        recorded = recorded_here;
        goes_on = λ rest.
            content_over (omega arith) rest
            ∙ ap (λ count. crc (after_marks (data_byte deleted ∷ (bytes_at whole (q + 64) count ++ rest)))) new;
      }

  module _ (over : taken ≡ size + 1) where
    pub read_end : HasEnded whole p q deleted size
    read_end = let here = place_here in record { first = first_here; inside = omega arith }

    stored_is : register_check after back ≡ 256 * byte_at whole (q + 64 + 16 * size) + byte_at whole (q + 64 + 16 * size + 16)
    stored_is =
        let lengths = more.size in
        let place = was.place in
        let high = byte_kept whole after (16 * length fed - 32) (q + 64 + 16 * size) (back + 16) kept_here (omega arith) (omega arith) in
        let low = byte_kept whole after (16 * length fed - 32) (q + 64 + 16 * size + 16) back kept_here (omega arith) (omega arith) in
        ap (λ h. 256 * h + register_byte after back) high ∙ ap (λ l. 256 * byte_at whole (q + 64 + 16 * size) + l) low

    check_is : check < 2 ^ 16 → check ≡ crc (after_marks (byte_at whole (q + 48) ∷ bytes_at whole (q + 64) size))
    check_is fits =
        sym (crc_from_none check fits)
        ∙ content_over (omega arith) []
        ∙ ap (λ bytes. crc (after_marks (data_byte deleted ∷ bytes))) (append-nil (bytes_at whole (q + 64) size))
        ∙ ap (λ byte. crc (after_marks (byte ∷ bytes_at whole (q + 64) size))) (sym first_here.mark.run.mark)

    end_clean : touched ≡ false → TouchesNoZero whole q (64 + 16 * (size + 2))
    end_clean e =
        let next : taken + 1 ≡ size + 2 = omega arith in
        subst (λ count. TouchesNoZero whole q (64 + 16 * count)) next (of_false touched e recorded_here)
      where
        of_false : (t : Bool) → t ≡ false → MatchBool t (TouchesNoZero whole q (64 + 16 * (taken + 1)) → ⊥) (TouchesNoZero whole q (64 + 16 * (taken + 1))) → TouchesNoZero whole q (64 + 16 * (taken + 1))
        of_false false e h = h
        of_false true e h = absurd (let f : true ≡ false = e in cc)

    end_touched : TouchesNoZero whole q (64 + 16 * (size + 2)) → touched ≡ false
    end_touched none =
        let next : size + 2 ≡ taken + 1 = omega arith in
        of_none touched (subst (λ count. TouchesNoZero whole q (64 + 16 * count)) next none) recorded_here
      where
        of_none : (t : Bool) → TouchesNoZero whole q (64 + 16 * (taken + 1)) → MatchBool t (TouchesNoZero whole q (64 + 16 * (taken + 1)) → ⊥) (TouchesNoZero whole q (64 + 16 * (taken + 1))) → t ≡ false
        of_none false none h = refl
        of_none true none h = absurd (h none)

    whole_check : (n : ℕ) → size ≡ content_size n → HasCheck whole (q + 64 + 16 * size) (after_marks (byte_at whole (q + 48) ∷ bytes_at whole (q + 64) size)) → HasCheck whole (q + 64 + 16 * content_size n) (after_marks (byte_at whole (q + 48) ∷ content_at whole (q + 64) n))
    whole_check n e h = subst (λ s. HasCheck whole (q + 64 + 16 * s) (after_marks (byte_at whole (q + 48) ∷ bytes_at whole (q + 64) s))) e h

    pub tells_whole : (good : Bool) → check < 2 ^ 16 → (IsTrue good ↔ ((touched ≡ false) × (register_check after back ≡ check))) → TellsWhole whole q size good
    tells_whole good fits is n sized = (
      λ t.
          let held = is.0 t in
          let none = end_clean held.0 in
          let here = place_here in
          record {
            sound = record { inside = omega arith; no_zero = λ r low high. none r low (omega arith) };
            content_is = refl;
            check = whole_check n sized (sym stored_is ∙ held.1 ∙ check_is fits);
          },
      λ intact.
          let none = intact.sound.no_zero in
          let check_here : HasCheck whole (q + 64 + 16 * size) (after_marks (byte_at whole (q + 48) ∷ bytes_at whole (q + 64) size)) =
          subst (λ s. HasCheck whole (q + 64 + 16 * s) (after_marks (byte_at whole (q + 48) ∷ bytes_at whole (q + 64) s))) (sym sized) intact.check in
          is.1 (end_touched (λ r low high. none r low (omega arith)), stored_is ∙ check_here ∙ sym (check_is fits)),
    )
