-- The data field that a whole window puts on a track.
use Rattle.std.proofs.Common.{◌≡◌, ℕ, suc, ◌+◌, ◌-◌, ◌*◌, ◌/◌, ◌^◌, ◌<◌, ◌≤◌, Bool, true, false, List, ◌∷◌, length, get_or, take, refl, sym, ap, ◌∙◌, lit<, arith, inl, inr}
use Rattle.track_model.proofs.Common.{cases_lt, cases_eq, get_or-append-add, length-take, bit_at, Chrn, cell, cells_at, byte_at, legal, data_byte, IsSound, IsRun, IsAddressAt, content_size, HasDataField, sync_and_marks, window_word, window_place, window_words, window_end, cut_of}
use Rattle.track_model.proofs.Places.{cell_in}
use Rattle.track_model.proofs.Legals.{no_gap}
use Rattle.track_model.proofs.Written.{length-sync_and_marks}
use Rattle.track_model.proofs.Splices
use Rattle.track_model.proofs.WindowMarks.{marked, marks_in, length-marked, byte_in, byte_behind, run_in, word_12, word_13, word_14}
use Rattle.track_model.proofs.Cuts.{IsOverlay, all_of, fits, mark_in, no_mark_before}
use Rattle.track_model.proofs.Parted.{IsParted}

-- ---- legal words are not zero

pub legal_not_zero : (last : Bool) (bytes : List ℕ) (k : ℕ) → k < length bytes → get_or (legal last bytes) k 0 ≡ 0 → ⊥
legal_not_zero last bytes k h zero =
    let words : List ℕ = legal last bytes in
    let one : cell words (16 * k + 1) ≡ 0 = cell_in words (16 * k + 1) k 1 refl (lit< tt) ∙ ap (λ w. bit_at w 14) zero in
    let two : cell words (16 * k + 1 + 1) ≡ 0 = cell_in words (16 * k + 1 + 1) k 2 (omega arith) (lit< tt) ∙ ap (λ w. bit_at w 13) zero in
    let three : cell words (16 * k + 1 + 2) ≡ 0 = cell_in words (16 * k + 1 + 2) k 3 (omega arith) (lit< tt) ∙ ap (λ w. bit_at w 12) zero in
    omega (arith, two, no_gap last bytes (16 * k + 1) (omega arith) (omega arith) one three)

not_zero : (deleted : Bool) (rest : List ℕ) (i : ℕ) → 12 ≤ i → i < 16 + length rest → get_or (marked (data_byte deleted ∷ rest)) i 0 ≡ 0 → ⊥
not_zero deleted rest i low high zero =
    let words : List ℕ = marked (data_byte deleted ∷ rest) in
    elim (cases_lt i 15) [
      | inr h ↦
          let place : i ≡ length sync_and_marks + (i - 15) = omega (arith, length-sync_and_marks) in
          let word = get_or-append-add sync_and_marks (legal true (data_byte deleted ∷ rest)) (i - 15) 0 in
          legal_not_zero true (data_byte deleted ∷ rest) (i - 15) (omega arith) (sym word ∙ ap (λ j. get_or words j 0) (sym place) ∙ zero)
      | inl h ↦
          elim (cases_eq i 12) [
            | inl e ↦ absurd (let is = word_12 deleted rest in let z = ap (λ j. get_or words j 0) e in omega arith)
            | inr a ↦
                elim (cases_eq i 13) [
                  | inl e ↦ absurd (let is = word_13 deleted rest in let z = ap (λ j. get_or words j 0) e in omega arith)
                  | inr b ↦
                      let e : i ≡ 14 = omega arith in
                      absurd (let is = word_14 deleted rest in let z = ap (λ j. get_or words j 0) e in omega arith)
                ]
          ]
    ]

-- the words of a data field are an overlay
pub data_overlay : (deleted : Bool) (rest : List ℕ) (n : ℕ) → length rest ≡ content_size n + 2 → IsOverlay (marked (data_byte deleted ∷ rest)) n
data_overlay deleted rest n sized = record {
  long = omega (arith, length-marked (data_byte deleted ∷ rest));
  marks = marks_in deleted rest;
  byte = λ e. not_address deleted (sym (byte_behind deleted rest) ∙ e);
}
  where
    not_address : (deleted : Bool) → data_byte deleted ≡ 0xFE → ⊥
    not_address true e = omega arith
    not_address false e = omega arith

-- ---- a whole window of these words

module _ (track : List ℕ) (p : ℕ) (key : Chrn) (k : ℕ) (deleted : Bool) (rest : List ℕ) (parted : IsParted track) (here : IsAddressAt track p key) (sized : length rest ≡ content_size key.n + 2) (all : k ≡ length (marked (data_byte deleted ∷ rest))) where
  own_most : k ≤ length (marked (data_byte deleted ∷ rest))
  own_most = omega arith

  own_words : take k (marked (data_byte deleted ∷ rest)) ≡ marked (data_byte deleted ∷ rest)
  own_words = all_of (marked (data_byte deleted ∷ rest)) k all

  own_fits : window_word p + length (take k (marked (data_byte deleted ∷ rest))) ≤ length track
  own_fits = fits track p key (marked (data_byte deleted ∷ rest)) k parted here (data_overlay deleted rest key.n sized) own_most

  own_long : k ≡ window_words key.n
  own_long = omega (arith, length-marked (data_byte deleted ∷ rest))

  taken : length (take k (marked (data_byte deleted ∷ rest))) ≡ k
  taken = omega (arith, length-take k (marked (data_byte deleted ∷ rest)))

  own_cells : (q i : ℕ) → q ≡ 16 * window_word p + i → i + 16 ≤ 16 * k → cells_at (cut_of track p k (marked (data_byte deleted ∷ rest))) q ≡ cells_at (marked (data_byte deleted ∷ rest)) i
  own_cells q i e h =
      Splices.cells_of track (window_word p) (take k (marked (data_byte deleted ∷ rest))) own_fits q i e (omega (arith, taken))
      ∙ ap (λ ws. cells_at ws i) own_words

  own_byte : (q i : ℕ) → q ≡ 16 * window_word p + i → i + 16 ≤ 16 * k → byte_at (cut_of track p k (marked (data_byte deleted ∷ rest))) q ≡ byte_at (marked (data_byte deleted ∷ rest)) i
  own_byte q i e h =
      Splices.byte_of track (window_word p) (take k (marked (data_byte deleted ∷ rest))) own_fits q i e (omega (arith, taken))
      ∙ ap (λ ws. byte_at ws i) own_words

  own_run : IsRun (cut_of track p k (marked (data_byte deleted ∷ rest))) (window_place p + 192)
  own_run =
      let run = run_in deleted rest in
      record {
        first = own_cells (window_place p + 192) 192 refl (omega (arith, own_long)) ∙ run.0;
        second = own_cells (window_place p + 192 + 16) 208 (omega arith) (omega (arith, own_long)) ∙ run.1;
        third = own_cells (window_place p + 192 + 32) 224 (omega arith) (omega (arith, own_long)) ∙ run.2;
      }

  pub own_mark : byte_at (cut_of track p k (marked (data_byte deleted ∷ rest))) (window_place p + 192 + 48) ≡ data_byte deleted
  own_mark = own_byte (window_place p + 192 + 48) 240 (omega arith) (omega (arith, own_long)) ∙ byte_behind deleted rest

  own_inside : window_end p key.n ≤ 16 * length (cut_of track p k (marked (data_byte deleted ∷ rest)))
  own_inside =
      let inside = parted.inside p key here in
      omega (arith, Splices.length-with_items track (window_word p) (take k (marked (data_byte deleted ∷ rest))) own_fits)

  pub own_sound : (m : ℕ) → window_place p + 192 + m ≤ window_end p key.n → IsSound (cut_of track p k (marked (data_byte deleted ∷ rest))) (window_place p + 192) m
  own_sound m h = record {
    inside = omega (arith, own_inside);
    no_zero = λ q low high zero.
        let i = q / 16 - window_word p in
        let place : q / 16 ≡ window_word p + i = omega arith in
        let word = Splices.with_items_at track (window_word p) (take k (marked (data_byte deleted ∷ rest))) own_fits (q / 16) i place (omega (arith, taken, own_long)) in
        not_zero deleted rest i (omega arith) (omega (arith, own_long)) (sym (ap (λ ws. get_or ws i 0) own_words) ∙ sym word ∙ zero);
  }

  -- no run begins between the field and the window's own
  own_first : (q : ℕ) → p + 160 ≤ q → q < window_place p + 192 → IsRun (cut_of track p k (marked (data_byte deleted ∷ rest))) q → ⊥
  own_first q low high run =
      let words : List ℕ = marked (data_byte deleted ∷ rest) in
      let over = data_overlay deleted rest key.n sized in
      elim (cases_lt (window_place p) (q + 16)) [
        | inr a ↦ no_mark_before track p key words k parted here over own_most q low a run.first
        | inl a ↦
            elim (cases_lt q (window_place p)) [
              | inl b ↦
                  let found = (mark_in track p key words k parted here over own_most (q + 16) (omega arith) (omega (arith, own_long)) run.second).0 in
                  omega arith
              | inr b ↦
                  let found = (mark_in track p key words k parted here over own_most q b (omega (arith, own_long)) run.first).0 in
                  omega arith
            ]
      ]

  pub own_field : HasDataField (cut_of track p k (marked (data_byte deleted ∷ rest))) p key.n (window_place p + 192) deleted
  own_field = record {
    coded = parted.coded p key here;
    first = record {
      mark = record {
        after = omega arith;
        near = omega arith;
        run = record { run = own_run; mark = own_mark; sound = own_sound 64 (omega arith) };
      };
      none_before = λ q other less mark. own_first q mark.after less mark.run.run;
    };
    inside = omega (arith, own_inside);
  }

  -- its bytes
  pub own_rest : (q j : ℕ) → q ≡ window_place p + 256 + 16 * j → j < length rest → get_or rest j 0 < 2 ^ 8 → byte_at (cut_of track p k (marked (data_byte deleted ∷ rest))) q ≡ get_or rest j 0
  own_rest q j e h fits =
      own_byte q (256 + 16 * j) (omega arith) (omega (arith, own_long))
      ∙ byte_in (data_byte deleted ∷ rest) (256 + 16 * j) (suc j) (omega arith) (omega arith) fits
