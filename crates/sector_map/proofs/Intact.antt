-- The CRC of a data field, computed from its mark byte on.
use Rattle.std.proofs.Common.{◌≡◌, ℕ, ◌+◌, ◌*◌, Bool, List, ◌∷◌, ◌↔◌, IsTrue, refl, subst, sym, ap, ◌∙◌, arith}
use Rattle.sector_map.proofs.Common.{byte_at, bytes_at, TouchesNoZero, IsInside, HasCheck, after_marks, content_size, data_cells, content_at, IsIntact, bytes_at-cons}

same_check : (track : List ℕ) (p q : ℕ) (bytes other : List ℕ) → p ≡ q → bytes ≡ other → HasCheck track p bytes → HasCheck track q other
same_check track p q bytes other e f h =
    let At : ℕ → Type 0 = λ k. HasCheck track k bytes in
    let Over : List ℕ → Type 0 = λ row. HasCheck track q row in
    subst Over f (subst At e h)

module _ (track : List ℕ) (q n size : ℕ) (sized : size ≡ content_size n) where
  place : q + 48 + 16 * (size + 1) ≡ q + 64 + 16 * content_size n
  place = omega arith

  bytes_are : after_marks (bytes_at track (q + 48) (size + 1)) ≡ after_marks (byte_at track (q + 48) ∷ content_at track (q + 64) n)
  bytes_are =
      let next : q + 48 + 16 ≡ q + 64 = omega arith in
      ap after_marks
      (sym (bytes_at-cons track (q + 48) size)
      ∙ ap (λ k. byte_at track (q + 48) ∷ bytes_at track k size) next
      ∙ ap (λ m. byte_at track (q + 48) ∷ bytes_at track (q + 64) m) sized)

  pub intact_by_check : (checked : Bool) → IsInside track q (data_cells n) → TouchesNoZero track q (64 + 16 * (size + 2)) → (IsTrue checked ↔ HasCheck track (q + 48 + 16 * (size + 1)) (after_marks (bytes_at track (q + 48) (size + 1)))) → IsTrue checked ↔ IsIntact track q n
  intact_by_check checked inside no_zero h = (
    λ e. record {
      sound = record { inside = inside; no_zero = λ k low high. no_zero k low (omega arith) };
      content_is = refl;
      check = same_check track _ _ _ _ place bytes_are (h.0 e);
    },
    λ whole. h.1 (same_check track _ _ _ _ (sym place) (sym bytes_are) whole.check),
  )
