-- A track with some of its words replaced.
use Rattle.std.proofs.Common.{◌≡◌, ℕ, ◌+◌, ◌-◌, ◌*◌, ◌/◌, ◌%◌, ◌<◌, ◌≤◌, List, ◌++◌, length, get_or, take, drop, max, sym, ap, ◌∙◌, arith, inl, inr}
use Rattle.track_model.proofs.Common.{cases_lt, ext_get_or, get_or_append_left, get_or-append-add, length-append, length-take, length-drop, get_or-take, get_or-drop, bit_at, cell, cells_at, byte_at}
use Rattle.flop_base.specs.Lists.{with_items}
use Rattle.track_model.proofs.Numbers.{number_ext}
use Rattle.track_model.proofs.Frames.{AreSame}

module _ (track : List ℕ) (start : ℕ) (words : List ℕ) (fits : start + length words ≤ length track) where
  before : length (take start track) ≡ start
  before = omega (arith, length-take start track)

  pub length-with_items : length (with_items track start words) ≡ length track
  unfolding with_items
  length-with_items =
      omega (arith, before, length-append (take start track) (words ++ drop (start + length words) track), length-append words (drop (start + length words) track), length-drop (start + length words) track)

  pub with_items_before : (k : ℕ) → k < start → get_or (with_items track start words) k 0 ≡ get_or track k 0
  unfolding with_items
  with_items_before k h =
      let within : k < length (take start track) = omega (arith, before) in
      get_or_append_left (take start track) (words ++ drop (start + length words) track) 0 k within ∙ get_or-take start track k 0 h

  pub with_items_at : (k i : ℕ) → k ≡ start + i → i < length words → get_or (with_items track start words) k 0 ≡ get_or words i 0
  unfolding with_items
  with_items_at k i e h =
      let rest = drop (start + length words) track in
      let place : k ≡ length (take start track) + i = omega (arith, before) in
      ap (λ j. get_or (take start track ++ (words ++ rest)) j 0) place
      ∙ get_or-append-add (take start track) (words ++ rest) i 0
      ∙ get_or_append_left words rest 0 i h

  pub with_items_behind : (k : ℕ) → start + length words ≤ k → get_or (with_items track start words) k 0 ≡ get_or track k 0
  unfolding with_items
  with_items_behind k h =
      let rest = drop (start + length words) track in
      let i = k - (start + length words) in
      let place : k ≡ length (take start track) + (length words + i) = omega (arith, before) in
      let back : start + length words + i ≡ k = omega arith in
      ap (λ j. get_or (take start track ++ (words ++ rest)) j 0) place
      ∙ get_or-append-add (take start track) (words ++ rest) (length words + i) 0
      ∙ get_or-append-add words rest i 0
      ∙ get_or-drop (start + length words) track i 0
      ∙ ap (λ j. get_or track j 0) back

  -- outside the words put in, the track is as it was
  pub same_before : (q m : ℕ) → q + m ≤ 16 * start → AreSame track (with_items track start words) q m
  same_before q m h = record {
    lengths = sym length-with_items;
    words = λ k low high. sym (with_items_before k (omega arith));
  }

  pub same_behind : (q m : ℕ) → 16 * (start + length words) ≤ q → AreSame track (with_items track start words) q m
  same_behind q m h = record {
    lengths = sym length-with_items;
    words = λ k low high. sym (with_items_behind k (omega arith));
  }

  -- inside, its cells are theirs
  cell_of : (q i : ℕ) → q ≡ 16 * start + i → i < 16 * length words → cell (with_items track start words) q ≡ cell words i
  cell_of q i e h =
      let word : q / 16 ≡ start + i / 16 = omega arith in
      let place : q % 16 ≡ i % 16 = omega arith in
      ap (λ w. bit_at w (15 - q % 16)) (with_items_at (q / 16) (i / 16) word (omega arith))
      ∙ ap (λ j. bit_at (get_or words (i / 16) 0) (15 - j)) place

  pub cells_of : (q i : ℕ) → q ≡ 16 * start + i → i + 16 ≤ 16 * length words → cells_at (with_items track start words) q ≡ cells_at words i
  cells_of q i e h =
      number_ext (λ j. cell (with_items track start words) (q + j)) (λ j. cell words (i + j)) 16
      (λ j l. cell_of (q + j) (i + j) (omega arith) (omega arith))

  pub byte_of : (q i : ℕ) → q ≡ 16 * start + i → i + 16 ≤ 16 * length words → byte_at (with_items track start words) q ≡ byte_at words i
  byte_of q i e h =
      number_ext (λ j. cell (with_items track start words) (q + (2 * j + 1))) (λ j. cell words (i + (2 * j + 1))) 8
      (λ j l. cell_of (q + (2 * j + 1)) (i + (2 * j + 1)) (omega arith) (omega arith))

-- two cuts of the same words at one place are together one cut, the longer
module _ (track : List ℕ) (start : ℕ) (words : List ℕ) (j k : ℕ) (less : j ≤ length words) (most : k ≤ length words) (fits : start + max j k ≤ length track) where
  long_j : length (take j words) ≡ j
  long_j = omega (arith, length-take j words)

  long_k : length (take k words) ≡ k
  long_k = omega (arith, length-take k words)

  long_max : length (take (max j k) words) ≡ max j k
  long_max = omega (arith, length-take (max j k) words)

  fits_j : start + length (take j words) ≤ length track
  fits_j = omega (arith, long_j)

  fits_k : start + length (take k words) ≤ length (with_items track start (take j words))
  fits_k = omega (arith, long_k, length-with_items track start (take j words) fits_j)

  fits_max : start + length (take (max j k) words) ≤ length track
  fits_max = omega (arith, long_max)

  word_of : (i : ℕ) → get_or (with_items (with_items track start (take j words)) start (take k words)) i 0 ≡ get_or (with_items track start (take (max j k) words)) i 0
  word_of i =
      elim (cases_lt i start) [
        | inl h ↦
            with_items_before (with_items track start (take j words)) start (take k words) fits_k i h
            ∙ with_items_before track start (take j words) fits_j i h
            ∙ sym (with_items_before track start (take (max j k) words) fits_max i h)
        | inr h ↦
            let d = i - start in
            let place : i ≡ start + d = omega arith in
            elim (cases_lt d k) [
              | inl l ↦
                  with_items_at (with_items track start (take j words)) start (take k words) fits_k i d place (omega (arith, long_k))
                  ∙ get_or-take k words d 0 l
                  ∙ sym (get_or-take (max j k) words d 0 (omega arith))
                  ∙ sym (with_items_at track start (take (max j k) words) fits_max i d place (omega (arith, long_max)))
              | inr l ↦
                  with_items_behind (with_items track start (take j words)) start (take k words) fits_k i (omega (arith, long_k))
                  ∙ elim (cases_lt d j) [
                    | inl m ↦
                        with_items_at track start (take j words) fits_j i d place (omega (arith, long_j))
                        ∙ get_or-take j words d 0 m
                        ∙ sym (get_or-take (max j k) words d 0 (omega arith))
                        ∙ sym (with_items_at track start (take (max j k) words) fits_max i d place (omega (arith, long_max)))
                    | inr m ↦
                        with_items_behind track start (take j words) fits_j i (omega (arith, long_j))
                        ∙ sym (with_items_behind track start (take (max j k) words) fits_max i (omega (arith, long_max)))
                  ]
            ]
      ]

  pub longer_cut : with_items (with_items track start (take j words)) start (take k words) ≡ with_items track start (take (max j k) words)
  longer_cut =
      ext_get_or 0 _ _
      (length-with_items (with_items track start (take j words)) start (take k words) fits_k
      ∙ length-with_items track start (take j words) fits_j
      ∙ sym (length-with_items track start (take (max j k) words) fits_max))
      (λ i h. word_of i)
