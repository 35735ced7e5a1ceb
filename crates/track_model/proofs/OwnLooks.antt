-- What a look finds after a whole window was written.
use Rattle.std.proofs.Common.{◌≡◌, ℕ, ◌+◌, ◌*◌, ◌/◌, ◌%◌, ◌^◌, ◌<◌, Bool, List, ◌∷◌, ◌++◌, length, get_or, refl, sym, ap, ◌∙◌, arith}
use Rattle.track_model.proofs.Common.{get_or_append_left, get_or-append-add, length-append, fill_by_all, Chrn, Found, BadCrc, byte_at, crc, data_byte, after_marks, IsAddressAt, content_size, data_cells, content_at, HasDataField, LookAt, check_bytes, window_place, cut_of}
use Rattle.track_model.proofs.WindowMarks.{marked}
use Rattle.track_model.proofs.OwnField.{own_field, own_rest, own_mark, own_sound}
use Rattle.track_model.proofs.Parted.{IsParted}

module _ (track : List ℕ) (p : ℕ) (key : Chrn) (k : ℕ) (deleted : Bool) (content : List ℕ) (check : ℕ) (parted : IsParted track) (here : IsAddressAt track p key) (sized : length content ≡ content_size key.n) (bytes : (j : ℕ) → get_or content j 0 < 2 ^ 8) (fits : check < 2 ^ 16) (all : k ≡ length (marked (data_byte deleted ∷ (content ++ check_bytes check)))) where
  abbrev after : List ℕ
  after = cut_of track p k (marked (data_byte deleted ∷ (content ++ check_bytes check)))

  rest_sized : length (content ++ check_bytes check) ≡ content_size key.n + 2
  rest_sized = omega (arith, length-append content (check_bytes check))

  rest_byte : (q j : ℕ) → q ≡ window_place p + 256 + 16 * j → j < length (content ++ check_bytes check) → get_or (content ++ check_bytes check) j 0 < 2 ^ 8 → byte_at after q ≡ get_or (content ++ check_bytes check) j 0
  rest_byte = own_rest track p key k deleted (content ++ check_bytes check) parted here rest_sized all

  pub own_content : (q : ℕ) → q ≡ window_place p + 256 → content ≡ content_at after q key.n
  own_content q e =
      fill_by_all (λ i. byte_at after (q + 16 * i)) content (content_size key.n) 0 sized
      (λ j h.
      let left = get_or_append_left content (check_bytes check) 0 j (omega arith) in
      let small = bytes j in
      sym (rest_byte (q + 16 * j) j (omega arith) (omega (arith, length-append content (check_bytes check))) (omega (arith, left)) ∙ left))

  high : get_or (content ++ check_bytes check) (content_size key.n) 0 ≡ check / 256
  high =
      let place : content_size key.n ≡ length content + 0 = omega arith in
      ap (λ j. get_or (content ++ check_bytes check) j 0) place ∙ get_or-append-add content (check_bytes check) 0 0

  low : get_or (content ++ check_bytes check) (content_size key.n + 1) 0 ≡ check % 256
  low =
      let place : content_size key.n + 1 ≡ length content + 1 = omega arith in
      ap (λ j. get_or (content ++ check_bytes check) j 0) place ∙ get_or-append-add content (check_bytes check) 1 0

  checked : (q : ℕ) → q ≡ window_place p + 256 + 16 * content_size key.n → 256 * byte_at after q + byte_at after (q + 16) ≡ check
  checked q e =
      let upper = rest_byte q (content_size key.n) e (omega (arith, rest_sized)) (omega (arith, high)) in
      let lower = rest_byte (q + 16) (content_size key.n + 1) (omega arith) (omega (arith, rest_sized)) (omega (arith, low)) in
      omega (arith, upper, lower, high, low)

  field : HasDataField after p key.n (window_place p + 192) deleted
  field = own_field track p key k deleted (content ++ check_bytes check) parted here rest_sized all

  checked_bytes : after_marks (byte_at after (window_place p + 192 + 48) ∷ content_at after (window_place p + 192 + 64) key.n) ≡ after_marks (data_byte deleted ∷ content)
  checked_bytes =
      ap (λ b. after_marks (b ∷ content_at after (window_place p + 192 + 64) key.n)) (own_mark track p key k deleted (content ++ check_bytes check) parted here rest_sized all)
      ∙ ap (λ row. after_marks (data_byte deleted ∷ row)) (sym (own_content (window_place p + 192 + 64) (omega arith)))

  pub own_found : check ≡ crc (after_marks (data_byte deleted ∷ content)) → LookAt after p key.n (Found deleted (window_place p + 256))
  own_found right = (
    window_place p + 192,
    field,
    omega arith,
    record {
      sound = own_sound track p key k deleted (content ++ check_bytes check) parted here rest_sized all (data_cells key.n) (omega arith);
      content_is = refl;
      check = checked (window_place p + 192 + 64 + 16 * content_size key.n) (omega arith) ∙ right ∙ sym (ap crc checked_bytes);
    },
  )

  pub own_bad : (check ≡ crc (after_marks (data_byte deleted ∷ content)) → ⊥) → LookAt after p key.n BadCrc
  own_bad wrong = (
    window_place p + 192,
    (deleted, field),
    λ intact. wrong (sym (checked (window_place p + 192 + 64 + 16 * content_size key.n) (omega arith)) ∙ intact.check ∙ ap crc checked_bytes),
  )
