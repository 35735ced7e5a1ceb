-- Tracks that are the same under a stretch have the same cells, bytes, marks and fields there.
use Rattle.std.proofs.Common.{◌≡◌, ℕ, ◌+◌, ◌-◌, ◌*◌, ◌/◌, ◌%◌, ◌<◌, ◌≤◌, Bool, List, ◌∷◌, length, get_or, sym, ap, subst, ◌∙◌, arith}
use Rattle.track_model.proofs.Common.{ext_get_or, length-map-range_with_len, get_or-map-range_with_len, bit_at, Chrn, cell, cells_at, byte_at, bytes_at, IsSound, IsRun, IsAddressMark, IsDataRun, HasCheck, after_marks, IsAddressAt, IsDataMark, content_size, data_cells, IsWhole}
use Rattle.track_model.proofs.Numbers.{number_ext}

-- two tracks of one length have the same words under the stretch
pub record AreSame (track other : List ℕ) (p count : ℕ) : Type 0 where
  pub lengths : length track ≡ length other
  pub words : (k : ℕ) → p / 16 ≤ k → 16 * k < p + count → get_or track k 0 ≡ get_or other k 0

pub same_back : (track other : List ℕ) (p count : ℕ) → AreSame track other p count → AreSame other track p count
same_back track other p count same =
    record { lengths = sym same.lengths; words = λ k low high. sym (same.words k low high) }

pub same_within : (track other : List ℕ) (p count q fewer : ℕ) → p ≤ q → q + fewer ≤ p + count → AreSame track other p count → AreSame track other q fewer
same_within track other p count q fewer low high same =
    record { lengths = same.lengths; words = λ k above below. same.words k (omega arith) (omega arith) }

pub same_cell : (track other : List ℕ) (p count q : ℕ) → AreSame track other p count → p ≤ q → q < p + count → cell track q ≡ cell other q
same_cell track other p count q same low high =
    ap (λ word. bit_at word (15 - q % 16)) (same.words (q / 16) (omega arith) (omega arith))

pub same_cells_at : (track other : List ℕ) (p count q : ℕ) → AreSame track other p count → p ≤ q → q + 16 ≤ p + count → cells_at track q ≡ cells_at other q
same_cells_at track other p count q same low high =
    number_ext (λ i. cell track (q + i)) (λ i. cell other (q + i)) 16
    (λ i l. same_cell track other p count (q + i) same (omega arith) (omega arith))

pub same_byte_at : (track other : List ℕ) (p count q : ℕ) → AreSame track other p count → p ≤ q → q + 16 ≤ p + count → byte_at track q ≡ byte_at other q
same_byte_at track other p count q same low high =
    number_ext (λ i. cell track (q + (2 * i + 1))) (λ i. cell other (q + (2 * i + 1))) 8
    (λ i l. same_cell track other p count (q + (2 * i + 1)) same (omega arith) (omega arith))

pub same_bytes_at : (track other : List ℕ) (p count q size : ℕ) → AreSame track other p count → p ≤ q → q + 16 * size ≤ p + count → bytes_at track q size ≡ bytes_at other q size
same_bytes_at track other p count q size same low high =
    let one = length-map-range_with_len (λ i. byte_at track (q + 16 * i)) 0 size in
    let two = length-map-range_with_len (λ i. byte_at other (q + 16 * i)) 0 size in
    ext_get_or 0 (bytes_at track q size) (bytes_at other q size) (one ∙ sym two)
    (λ i l.
    let within : i < size = omega arith in
    get_or-map-range_with_len (λ j. byte_at track (q + 16 * j)) 0 size i i 0 within (omega arith)
    ∙ same_byte_at track other p count (q + 16 * i) same (omega arith) (omega arith)
    ∙ sym (get_or-map-range_with_len (λ j. byte_at other (q + 16 * j)) 0 size i i 0 within (omega arith)))

pub same_sound : (track other : List ℕ) (p count : ℕ) → AreSame track other p count → IsSound track p count → IsSound other p count
same_sound track other p count same sound = record {
  inside = let inside = sound.inside in let lengths = same.lengths in omega arith;
  no_zero = λ q low high zero. sound.no_zero q low high (same.words (q / 16) (omega arith) (omega arith) ∙ zero);
}

pub same_run : (track other : List ℕ) (p : ℕ) → AreSame track other p 48 → IsRun track p → IsRun other p
same_run track other p same run = record {
  first = sym (same_cells_at track other p 48 p same (omega arith) (omega arith)) ∙ run.first;
  second = sym (same_cells_at track other p 48 (p + 16) same (omega arith) (omega arith)) ∙ run.second;
  third = sym (same_cells_at track other p 48 (p + 32) same (omega arith) (omega arith)) ∙ run.third;
}

pub same_address_mark : (track other : List ℕ) (p : ℕ) → AreSame track other p 64 → IsAddressMark track p → IsAddressMark other p
same_address_mark track other p same mark = record {
  run = same_run track other p (same_within track other p 64 p 48 (omega arith) (omega arith) same) mark.run;
  mark = sym (same_byte_at track other p 64 (p + 48) same (omega arith) (omega arith)) ∙ mark.mark;
  sound = same_sound track other p 64 same mark.sound;
}

pub same_data_run : (track other : List ℕ) (q : ℕ) (deleted : Bool) → AreSame track other q 64 → IsDataRun track q deleted → IsDataRun other q deleted
same_data_run track other q deleted same mark = record {
  run = same_run track other q (same_within track other q 64 q 48 (omega arith) (omega arith) same) mark.run;
  mark = sym (same_byte_at track other q 64 (q + 48) same (omega arith) (omega arith)) ∙ mark.mark;
  sound = same_sound track other q 64 same mark.sound;
}

pub same_data_mark : (track other : List ℕ) (p q : ℕ) (deleted : Bool) → AreSame track other q 64 → IsDataMark track p q deleted → IsDataMark other p q deleted
same_data_mark track other p q deleted same mark =
    record { after = mark.after; near = mark.near; run = same_data_run track other q deleted same mark.run }

same_check : (track other : List ℕ) (p count q : ℕ) (bytes : List ℕ) → AreSame track other p count → p ≤ q → q + 32 ≤ p + count → HasCheck track q bytes → HasCheck other q bytes
same_check track other p count q bytes same low high check =
    let first = same_byte_at track other p count q same low (omega arith) in
    let second = same_byte_at track other p count (q + 16) same (omega arith) (omega arith) in
    sym (ap (λ byte. 256 * byte + byte_at track (q + 16)) first ∙ ap (λ byte. 256 * byte_at other q + byte) second) ∙ check

pub same_address_at : (track other : List ℕ) (p : ℕ) (key : Chrn) → AreSame track other p 160 → IsAddressAt track p key → IsAddressAt other p key
same_address_at track other p key same address =
    let byte = λ (q : ℕ) (low : p ≤ q) (high : q + 16 ≤ p + 160). sym (same_byte_at track other p 160 q same low high) in
    record {
      mark = same_address_mark track other p (same_within track other p 160 p 64 (omega arith) (omega arith) same) address.mark;
      cylinder = byte (p + 64) (omega arith) (omega arith) ∙ address.cylinder;
      head = byte (p + 80) (omega arith) (omega arith) ∙ address.head;
      sector = byte (p + 96) (omega arith) (omega arith) ∙ address.sector;
      size = byte (p + 112) (omega arith) (omega arith) ∙ address.size;
      check = same_check track other p 160 (p + 128) _ same (omega arith) (omega arith) address.check;
      sound = same_sound track other p 160 same address.sound;
    }

pub same_whole : (track other : List ℕ) (q n : ℕ) (content : List ℕ) → AreSame track other q (data_cells n) → IsWhole track q n content → IsWhole other q n content
same_whole track other q n content same whole =
    let mark = same_byte_at track other q (data_cells n) (q + 48) same (omega arith) (omega arith) in
    let checked = same_check track other q (data_cells n) (q + 64 + 16 * content_size n) _ same (omega arith) (omega arith) whole.check in
    record {
      sound = same_sound track other q (data_cells n) same whole.sound;
      content_is = whole.content_is ∙ same_bytes_at track other q (data_cells n) (q + 64) (content_size n) same (omega arith) (omega arith);
      check = subst (λ byte. HasCheck other (q + 64 + 16 * content_size n) (after_marks (byte ∷ content))) mark checked;
    }
