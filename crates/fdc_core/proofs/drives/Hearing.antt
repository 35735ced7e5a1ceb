-- One more word.
use Rattle.std.proofs.Common.{◌≡◌, ◌⊎◌, inl, inr, ℕ, ◌+◌, ◌<◌, ◌==◌, Bool, true, false, List, [], ◌∷◌, ◌++◌, length, slice_index, sym, ◌∙◌, ap, subst, arith}
use Rattle.fdc_core.proofs.Common.{get_or-append, get_or_push, nat_tests, turns_after, IsHeard, IsHeardWhole, start_of, place_in, IsHeardFrom, IsWholeFrom, with_word, turn_after}
use Rattle.fdc_core.proofs.drives.Facts.{length_more}

-- the word at i of the longer list is the one that was there, or the last one
word_at : (seen : List ℕ) (word i : ℕ) → i < length seen + 1
    → ((i < length seen) × (slice_index (seen ++ word ∷ []) i ≡ slice_index seen i)) ⊎ ((i ≡ length seen) × (slice_index (seen ++ word ∷ []) i ≡ word))
word_at seen word i below =
    elim (early_or_last i (length seen) below) [
      | inl before ↦ inl (before, get_or-append seen (word ∷ []) 0 i before)
      | inr last ↦ inr (last, get_or_push seen word 0 i (sym last))
    ]
  where
    early_or_last : (i n : ℕ) → i < n + 1 → (i < n) ⊎ (i ≡ n)
    early_or_last i n h = grind (arith, nat_tests)

hears_more : (track : List ℕ) (start : ℕ) (seen : List ℕ) (word : ℕ) → IsHeard track start seen → start + length seen < length track
    → (word ≡ slice_index track (start + length seen)) ⊎ (word ≡ 0) → IsHeard track start (seen ++ word ∷ [])
hears_more track start seen word was room comes = record {
  inside = let more = length_more seen word in omega arith;
  each = λ i below. let less : i < length seen + 1 = subst (λ n. i < n) (length_more seen word) below in
      elim (word_at seen word i less) [
        | inl (before, same) ↦ elim (was.each i before) [ inl is ↦ inl (same ∙ is) | inr none ↦ inr (same ∙ none) ]
        | inr (last, same) ↦ elim comes [
          | inl is ↦ inl (same ∙ (is ∙ ap (λ k. slice_index track (start + k)) (sym last)))
          | inr none ↦ inr (same ∙ none)
        ]
      ];
}

hears_more_whole : (track : List ℕ) (start : ℕ) (seen : List ℕ) (word : ℕ) → IsHeardWhole track start seen
    → word ≡ slice_index track (start + length seen) → IsHeardWhole track start (seen ++ word ∷ [])
hears_more_whole track start seen word was is = record {
  each = λ i below. let less : i < length seen + 1 = subst (λ n. i < n) (length_more seen word) below in
      elim (word_at seen word i less) [
        | inl (before, same) ↦ same ∙ was.each i before
        | inr (last, same) ↦ same ∙ (is ∙ ap (λ k. slice_index track (start + k)) (sym last))
      ];
}

hears_none : (track : List ℕ) → IsHeard track 0 []
hears_none track = record { inside = omega arith; each = λ i below. absurd (omega arith) }

hears_none_whole : (track : List ℕ) → IsHeardWhole track 0 []
hears_none_whole track = record { each = λ i below. absurd (omega arith) }

same_number : (a b : ℕ) → true ≡ (a == b) → a ≡ b
same_number a b h = grind (arith, nat_tests)

pub heard_on : (track : List ℕ) (from : ℕ) (turns : List (List ℕ)) (seen : List ℕ) (index : Bool) (word : ℕ)
    → IsHeardFrom track from turns seen → place_in from turns seen < length track
    → index ≡ (place_in from turns seen + 1 == length track)
    → (word ≡ slice_index track (place_in from turns seen)) ⊎ (word ≡ 0)
    → IsHeardFrom track from (turns_after index turns (with_word seen word)) (turn_after index seen word)
heard_on track from turns seen false word was room at comes =
    record { over = was.over; now = hears_more track (start_of from turns) seen word was.now room comes }
heard_on track from turns seen true word was room at comes = record {
  over = (
    hears_more track (start_of from turns) seen word was.now room comes,
    let more = length_more seen word in let last = same_number _ _ at in omega arith,
    was.over,
  );
  now = hears_none track;
}

pub heard_on_whole : (track : List ℕ) (from : ℕ) (turns : List (List ℕ)) (seen : List ℕ) (index : Bool) (word : ℕ)
    → IsWholeFrom track from turns seen
    → word ≡ slice_index track (place_in from turns seen)
    → IsWholeFrom track from (turns_after index turns (with_word seen word)) (turn_after index seen word)
heard_on_whole track from turns seen false word was is =
    record { over = was.over; now = hears_more_whole track (start_of from turns) seen word was.now is }
heard_on_whole track from turns seen true word was is =
    record { over = (hears_more_whole track (start_of from turns) seen word was.now is, was.over); now = hears_none_whole track }
