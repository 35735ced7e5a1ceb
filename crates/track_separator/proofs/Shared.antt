-- Lists of words that begin alike have the same cells, bytes, marks and fields in that beginning.
use Rattle.std.proofs.Common.{◌≡◌, ℕ, ◌+◌, ◌-◌, ◌*◌, ◌/◌, ◌%◌, ◌<◌, ◌≤◌, Bool, List, ◌∷◌, length, get_or, sym, ap, subst, ◌∙◌, arith}
use Rattle.track_separator.proofs.Common.{ext_get_or, bit_at, Chrn, cell, cells_at, byte_at, bytes_at, TouchesNoZero, IsSound, IsRun, IsAddressMark, IsDataRun, HasCheck, after_marks, IsAddressAt, IsDataMark, content_size, data_cells, IsWhole, number_ext}
use Rattle.std.proofs.lemmas.List.FromFn.{length-map-range_with_len, get_or-map-range_with_len}

-- both have the cells before `end`, and the same words there
pub record AreAlike (track other : List ℕ) (end : ℕ) : Type 0 where
  pub low : end ≤ 16 * length track
  pub high : end ≤ 16 * length other
  pub words : (k : ℕ) → 16 * k < end → get_or track k 0 ≡ get_or other k 0

pub alike_back : (track other : List ℕ) (end : ℕ) → AreAlike track other end → AreAlike other track end
alike_back track other end alike = record { low = alike.high; high = alike.low; words = λ k h. sym (alike.words k h) }

module _ (track other : List ℕ) (end : ℕ) (alike : AreAlike track other end) where
  pub alike_cell : (q : ℕ) → q < end → cell track q ≡ cell other q
  alike_cell q h = ap (λ word. bit_at word (15 - q % 16)) (alike.words (q / 16) (omega arith))

  pub alike_cells_at : (q : ℕ) → q + 16 ≤ end → cells_at track q ≡ cells_at other q
  alike_cells_at q h = number_ext (λ i. cell track (q + i)) (λ i. cell other (q + i)) 16 (λ i l. alike_cell (q + i) (omega arith))

  pub alike_byte_at : (q : ℕ) → q + 16 ≤ end → byte_at track q ≡ byte_at other q
  alike_byte_at q h =
      number_ext (λ i. cell track (q + (2 * i + 1))) (λ i. cell other (q + (2 * i + 1))) 8
      (λ i l. alike_cell (q + (2 * i + 1)) (omega arith))

  pub alike_bytes_at : (q size : ℕ) → q + 16 * size ≤ end → bytes_at track q size ≡ bytes_at other q size
  alike_bytes_at q size h =
      let one = length-map-range_with_len (λ i. byte_at track (q + 16 * i)) 0 size in
      let two = length-map-range_with_len (λ i. byte_at other (q + 16 * i)) 0 size in
      ext_get_or 0 (bytes_at track q size) (bytes_at other q size) (one ∙ sym two)
      (λ i l.
      let within : i < size = omega arith in
      get_or-map-range_with_len (λ j. byte_at track (q + 16 * j)) 0 size i i 0 within (omega arith)
      ∙ alike_byte_at (q + 16 * i) (omega arith)
      ∙ sym (get_or-map-range_with_len (λ j. byte_at other (q + 16 * j)) 0 size i i 0 within (omega arith)))

  pub alike_no_zero : (p count : ℕ) → p + count ≤ end → TouchesNoZero track p count → TouchesNoZero other p count
  alike_no_zero p count h none q low high zero_word = none q low high (alike.words (q / 16) (omega arith) ∙ zero_word)

  pub alike_sound : (p count : ℕ) → p + count ≤ end → IsSound track p count → IsSound other p count
  alike_sound p count h sound =
      let high = alike.high in
      record { inside = omega arith; no_zero = alike_no_zero p count h sound.no_zero }

  pub alike_run : (p : ℕ) → p + 48 ≤ end → IsRun track p → IsRun other p
  alike_run p h run = record {
    first = sym (alike_cells_at p (omega arith)) ∙ run.first;
    second = sym (alike_cells_at (p + 16) (omega arith)) ∙ run.second;
    third = sym (alike_cells_at (p + 32) (omega arith)) ∙ run.third;
  }

  pub alike_address_mark : (p : ℕ) → p + 64 ≤ end → IsAddressMark track p → IsAddressMark other p
  alike_address_mark p h mark = record {
    run = alike_run p (omega arith) mark.run;
    mark = sym (alike_byte_at (p + 48) (omega arith)) ∙ mark.mark;
    sound = alike_sound p 64 h mark.sound;
  }

  pub alike_data_run : (q : ℕ) (deleted : Bool) → q + 64 ≤ end → IsDataRun track q deleted → IsDataRun other q deleted
  alike_data_run q deleted h mark = record {
    run = alike_run q (omega arith) mark.run;
    mark = sym (alike_byte_at (q + 48) (omega arith)) ∙ mark.mark;
    sound = alike_sound q 64 h mark.sound;
  }

  pub alike_data_mark : (p q : ℕ) (deleted : Bool) → q + 64 ≤ end → IsDataMark track p q deleted → IsDataMark other p q deleted
  alike_data_mark p q deleted h mark =
      record { after = mark.after; near = mark.near; run = alike_data_run q deleted h mark.run }

  alike_check : (q : ℕ) (bytes : List ℕ) → q + 32 ≤ end → HasCheck track q bytes → HasCheck other q bytes
  alike_check q bytes h check =
      let first = alike_byte_at q (omega arith) in
      let second = alike_byte_at (q + 16) (omega arith) in
      sym (ap (λ byte. 256 * byte + byte_at track (q + 16)) first ∙ ap (λ byte. 256 * byte_at other q + byte) second) ∙ check

  pub alike_address_at : (p : ℕ) (key : Chrn) → p + 160 ≤ end → IsAddressAt track p key → IsAddressAt other p key
  alike_address_at p key h address = record {
    mark = alike_address_mark p (omega arith) address.mark;
    cylinder = sym (alike_byte_at (p + 64) (omega arith)) ∙ address.cylinder;
    head = sym (alike_byte_at (p + 80) (omega arith)) ∙ address.head;
    sector = sym (alike_byte_at (p + 96) (omega arith)) ∙ address.sector;
    size = sym (alike_byte_at (p + 112) (omega arith)) ∙ address.size;
    check = alike_check (p + 128) _ (omega arith) address.check;
    sound = alike_sound p 160 h address.sound;
  }

  pub alike_whole : (q n : ℕ) (content : List ℕ) → q + data_cells n ≤ end → IsWhole track q n content → IsWhole other q n content
  alike_whole q n content h whole =
      let mark = alike_byte_at (q + 48) (omega arith) in
      let checked = alike_check (q + 64 + 16 * content_size n) _ (omega arith) whole.check in
      record {
        sound = alike_sound q (data_cells n) h whole.sound;
        content_is = whole.content_is ∙ alike_bytes_at (q + 64) (content_size n) (omega arith);
        check = subst (λ byte. HasCheck other (q + 64 + 16 * content_size n) (after_marks (byte ∷ content))) mark checked;
      }
