-- A window of the byte 4E alone.
use Rattle.std.proofs.Common.{◌≡◌, ℕ, zero, suc, ◌+◌, ◌-◌, ◌*◌, ◌≤◌, false, List, [], ◌∷◌, ◌++◌, length, get_or, replicate, refl, sym, ap, ◌∙◌, arith, inl, inr}
use Rattle.track_model.proofs.Common.{cases_lt, length-replicate, get_or-replicate, Chrn, NoData, cells_at, byte_at, IsAddressAt, LookAt, window_place, window_words, window_word, empty_window, cut_of}
use Rattle.track_model.specs.Cells.{number}
use Rattle.track_model.specs.Bytes.{legal}
use Rattle.track_model.proofs.Sizes.{content_size_least}
use Rattle.track_model.proofs.Legals.{legal-nil, legal-cons, no_mark, byte_at-legal}
use Rattle.track_model.proofs.Cuts.{IsOverlay, cells_put, mark_in, no_mark_before}
use Rattle.track_model.proofs.Parted.{IsParted}

one_gap : legal false (0x4E ∷ []) ≡ 0x9254 ∷ []
unfolding legal number
one_gap = refl

-- 9254 is 4E after a 0, and ends with a 0
gaps_are : (count : ℕ) → legal false (replicate count 0x4E) ≡ replicate count 0x9254
gaps_are zero = legal-nil false
gaps_are (suc count) =
    legal-cons false 0x4E (replicate count 0x4E)
    ∙ ap (λ words. words ++ legal false (replicate count 0x4E)) one_gap
    ∙ ap (λ words. 0x9254 ∷ words) (gaps_are count)

no_mark_in : (n i : ℕ) → i + 16 ≤ 16 * window_words n → cells_at (empty_window n) i ≡ 0x4489 → ⊥
no_mark_in n i h mark =
    no_mark false (replicate (window_words n) 0x4E) i (omega (arith, length-replicate {A = ℕ} (window_words n) 0x4E))
    (ap (λ words. cells_at words i) (gaps_are (window_words n)) ∙ mark)

pub length-empty_window : (n : ℕ) → length (empty_window n) ≡ window_words n
length-empty_window n = length-replicate (window_words n) 0x9254

empty_byte : (n : ℕ) → byte_at (empty_window n) 240 ≡ 0x4E
empty_byte n =
    let is : get_or (replicate (window_words n) 0x4E) 15 0 ≡ 0x4E = get_or-replicate (window_words n) 15 0x4E 0 (omega arith) in
    ap (λ words. byte_at words 240) (sym (gaps_are (window_words n)))
    ∙ byte_at-legal false (replicate (window_words n) 0x4E) 240 15 refl (omega (arith, length-replicate {A = ℕ} (window_words n) 0x4E)) (omega (arith, is))
    ∙ is

pub empty_overlay : (n : ℕ) → IsOverlay (empty_window n) n
empty_overlay n = record {
  long = length-empty_window n;
  marks = λ i h mark. absurd (no_mark_in n i (omega (arith, length-empty_window n)) mark);
  byte = λ e. let is = empty_byte n in absurd (omega arith);
}

module _ (track : List ℕ) (p : ℕ) (key : Chrn) (k : ℕ) (parted : IsParted track) (here : IsAddressAt track p key) (all : k ≡ window_words key.n) where
  most : k ≤ length (empty_window key.n)
  most = omega (arith, length-empty_window key.n)

  -- no data mark is left in reach
  pub own_none : LookAt (cut_of track p k (empty_window key.n)) p key.n NoData
  own_none q deleted field =
      let after = field.first.mark.after in
      let near = field.first.mark.near in
      let run = field.first.mark.run.run in
      let large = content_size_least key.n field.coded.0 in
      let over = empty_overlay key.n in
      elim (cases_lt (window_place p) (q + 16)) [
        | inr a ↦ no_mark_before track p key (empty_window key.n) k parted here over most q after a run.first
        | inl a ↦
            elim (cases_lt q (window_place p)) [
              | inl b ↦
                  let found = (mark_in track p key (empty_window key.n) k parted here over most (q + 16) (omega arith) (omega arith) run.second).0 in
                  omega arith
              | inr b ↦
                  let place : q ≡ 16 * window_word p + (q - window_place p) = omega arith in
                  let cells = cells_put track p key (empty_window key.n) k parted here over most q (q - window_place p) place (omega arith) in
                  no_mark_in key.n (q - window_place p) (omega arith) (sym cells ∙ run.first)
            ]
      ]
