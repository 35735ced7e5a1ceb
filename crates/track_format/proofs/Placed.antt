-- What is read on a formatted track.
use Rattle.std.proofs.Common.{◌≡◌, ℕ, zero, suc, ◌+◌, ◌-◌, ◌*◌, ◌/◌, ◌%◌, ◌<◌, ◌≤◌, false, List, ◌∷◌, length, get_or, map, replicate, refl, sym, ap, subst, ◌∙◌, lit<, arith}
use Rattle.track_format.proofs.Common.{get_or_default, get_or-replicate, length-replicate, Chrn, Symbol, Byte, Key, Mark, byte_at, crc, IsSound, IsRun, IsAddressMark, HasCheck, after_marks, address_bytes, IsAddressAt, content_size, content_at, IsKey, word_after, symbol_byte, field_symbols, address_content, data_content, crc_below, get_or-recorded, symbol_behind, byte_at-recorded, word_some}
use Rattle.std.proofs.lemmas.List.FromFn.{fill_by_all}
use Rattle.track_model.proofs.Places.{cells_at-word}
use Rattle.track_format.proofs.Parts.{filler, in_marks, in_symbols, in_high, in_low, in_gap, check_of}
use Rattle.track_format.proofs.Steps.{length-data_content}
use Rattle.track_format.proofs.Tracked.{sector_words, length-all, sector_ends}
use Rattle.track_format.proofs.Runs.{symbols, track, are_marks, length-track, address_symbol, data_symbol}

symbol_bytes : (size fill : ℕ) → map symbol_byte (replicate size (Byte fill)) ≡ replicate size fill
symbol_bytes zero fill = refl
symbol_bytes (suc size) fill = ap (λ xs. fill ∷ xs) (symbol_bytes size fill)

-- the two bytes of a CRC
check_again : (check : ℕ) → 256 * (check / 256) + check % 256 ≡ check
check_again check = omega arith

module _ (n gap3 fill : ℕ) (keys : List Chrn) (d : Chrn) (words : ℕ) (fits : 146 + length keys * sector_words (content_size n) gap3 ≤ words) where
  abbrev pub cells : List Symbol
  cells = symbols (content_size n) gap3 fill keys d words fits

  abbrev pub laid : List ℕ
  laid = track (content_size n) gap3 fill keys d words fits

  abbrev pub begin : ℕ → ℕ
  begin i = 146 + i * sector_words (content_size n) gap3

  abbrev pub nth : ℕ → Chrn
  nth i = get_or keys i d

  pub length-laid : length laid ≡ words
  length-laid = length-track (content_size n) gap3 fill keys d words fits

  pub length-cells : length cells ≡ words
  length-cells = length-all (content_size n) gap3 fill keys d words fits

  -- a sector is inside the track
  pub inside_of : (i j : ℕ) → i < length keys → j < sector_words (content_size n) gap3 → begin i + j < words
  inside_of i j h small =
      let ends = sector_ends (content_size n) gap3 fill keys d words fits i h in omega arith

  byte_is : (q k : ℕ) (symbol : Symbol) → q ≡ 16 * k → k < words → get_or cells k filler ≡ symbol → symbol_byte symbol < 256 → byte_at laid q ≡ symbol_byte symbol
  byte_is q k symbol e h is small =
      let within : k < length cells = omega (arith, length-cells) in
      let here : get_or cells k (Byte 0) ≡ symbol = get_or_default cells k (Byte 0) filler within ∙ is in
      let Small : Symbol → Type 0 = λ s. symbol_byte s < 256 in
      byte_at-recorded false cells q k e within (subst Small (sym here) small) ∙ ap symbol_byte here

  word_is : (k : ℕ) → k < words → get_or cells k filler ≡ Mark 0x4489 → get_or laid k 0 ≡ 0x4489
  word_is k h e =
      let within : k < length cells = omega (arith, length-cells) in
      get_or-recorded false cells k within ∙ ap (word_after (symbol_behind false cells k)) (get_or_default cells k (Byte 0) filler within ∙ e)

  pub sound : (p count : ℕ) → p + count ≤ 16 * words → IsSound laid p count
  sound p count h = record {
    inside = omega (arith, length-laid);
    no_zero = λ q low high zero_word.
        let k = q / 16 in
        let within : k < length cells = omega (arith, length-cells) in
        word_some (symbol_behind false cells k) (get_or cells k (Byte 0)) (are_marks (content_size n) gap3 fill keys d words fits k) (sym (get_or-recorded false cells k within) ∙ zero_word);
  }

  run_is : (p k : ℕ) → p ≡ 16 * k → k + 2 < words → get_or cells k filler ≡ Mark 0x4489 → get_or cells (k + 1) filler ≡ Mark 0x4489 → get_or cells (k + 2) filler ≡ Mark 0x4489 → IsRun laid p
  run_is p k e h one two three =
      let a = word_is k (omega arith) one in
      let b = word_is (k + 1) (omega arith) two in
      let c = word_is (k + 2) h three in
      record {
        first = cells_at-word laid p k e (omega (arith, a)) ∙ a;
        second = cells_at-word laid (p + 16) (k + 1) (omega arith) (omega (arith, b)) ∙ b;
        third = cells_at-word laid (p + 32) (k + 2) (omega arith) (omega (arith, c)) ∙ c;
      }

  -- ---- the address field of a sector

  abbrev pub address_place : ℕ → ℕ
  address_place i = 16 * (begin i + 12)

  abbrev pub data_place : ℕ → ℕ
  data_place i = 16 * (begin i + 56)

  pub at_address : (i j k : ℕ) → i < length keys → j < 44 → k ≡ begin i + j → get_or cells k filler ≡ get_or (field_symbols (address_content (nth i)) 22) j filler
  at_address i j k h small e = address_symbol (content_size n) gap3 fill keys d words fits i j k h small e

  pub at_data : (i j k : ℕ) → i < length keys → j < 18 + content_size n + gap3 → k ≡ begin i + 44 + j → get_or cells k filler ≡ get_or (field_symbols (data_content (content_size n) fill) gap3) j filler
  at_data i j k h small e = data_symbol (content_size n) gap3 fill keys d words fits i j k h small e

  address_run : (i : ℕ) → i < length keys → IsRun laid (address_place i)
  address_run i h =
      let mark = λ (j : ℕ) (k : ℕ) (e : k ≡ begin i + j) (low : 12 ≤ j) (high : j < 15).
      at_address i j k h (omega arith) e ∙ in_marks (address_content (nth i)) 22 j low high in
      let room = inside_of i 14 h (omega arith) in
      run_is (address_place i) (begin i + 12) refl (omega arith)
      (mark 12 (begin i + 12) refl (omega arith) (omega arith))
      (mark 13 (begin i + 12 + 1) (omega arith) (omega arith) (omega arith))
      (mark 14 (begin i + 12 + 2) (omega arith) (omega arith) (omega arith))

  -- its byte at place j, for the bytes from the mark byte on
  address_byte : (i j q : ℕ) (symbol : Symbol) → i < length keys → j < 5 → q ≡ 16 * (begin i + 15 + j) → get_or (address_content (nth i)) j filler ≡ symbol → symbol_byte symbol < 256 → byte_at laid q ≡ symbol_byte symbol
  address_byte i j q symbol h small e is fit =
      let room = inside_of i (15 + j) h (omega arith) in
      let back : 15 + j - 15 ≡ j = omega arith in
      byte_is q (begin i + 15 + j) symbol e (omega arith)
      (at_address i (15 + j) (begin i + 15 + j) h (omega arith) (omega arith)
      ∙ in_symbols (address_content (nth i)) 22 (15 + j) (omega arith) (omega arith)
      ∙ ap (λ m. get_or (address_content (nth i)) m filler) back
      ∙ is)
      fit

  address_check : (i : ℕ) → i < length keys → HasCheck laid (address_place i + 128) (address_bytes (nth i))
  address_check i h =
      let check = crc (address_bytes (nth i)) in
      let below = crc_below (address_bytes (nth i)) in
      let room = inside_of i 21 h (omega arith) in
      let high = byte_is (address_place i + 128) (begin i + 20) (Byte (check / 256)) (omega arith) (omega arith)
      (at_address i 20 (begin i + 20) h (lit< tt) refl ∙ in_high (address_content (nth i)) 22 20 refl) (omega arith) in
      let low = byte_is (address_place i + 128 + 16) (begin i + 21) (Byte (check % 256)) (omega arith) (omega arith)
      (at_address i 21 (begin i + 21) h (lit< tt) refl ∙ in_low (address_content (nth i)) 22 21 refl) (omega arith) in
      ap (λ b. 256 * b + byte_at laid (address_place i + 128 + 16)) high ∙ ap (λ b. 256 * (check / 256) + b) low ∙ check_again check

  address_mark : (i : ℕ) → i < length keys → IsAddressMark laid (address_place i)
  address_mark i h =
      let room = inside_of i 15 h (omega arith) in
      record {
        run = address_run i h;
        mark = address_byte i 0 (address_place i + 48) (Byte 0xFE) h (lit< tt) (omega arith) refl (lit< tt);
        sound = sound (address_place i) 64 (omega arith);
      }

  pub address_is : (i : ℕ) → i < length keys → IsKey (nth i) → IsAddressAt laid (address_place i) (nth i)
  address_is i h bytes =
      let room = inside_of i 21 h (omega arith) in
      record {
        mark = address_mark i h;
        cylinder = address_byte i 1 (address_place i + 64) (Key (nth i).c) h (lit< tt) (omega arith) refl bytes.cylinder;
        head = address_byte i 2 (address_place i + 80) (Key (nth i).h) h (lit< tt) (omega arith) refl bytes.head;
        sector = address_byte i 3 (address_place i + 96) (Key (nth i).r) h (lit< tt) (omega arith) refl bytes.sector;
        size = address_byte i 4 (address_place i + 112) (Key (nth i).n) h (lit< tt) (omega arith) refl bytes.size;
        check = address_check i h;
        sound = sound (address_place i) 160 (omega arith);
      }

  -- ---- the data field of a sector

  pub data_run : (i : ℕ) → i < length keys → IsRun laid (data_place i)
  data_run i h =
      let content = data_content (content_size n) fill in
      let mark = λ (j : ℕ) (k : ℕ) (e : k ≡ begin i + 44 + j) (low : 12 ≤ j) (high : j < 15).
      at_data i j k h (omega arith) e ∙ in_marks content gap3 j low high in
      let room = inside_of i 58 h (omega arith) in
      run_is (data_place i) (begin i + 56) refl (omega arith)
      (mark 12 (begin i + 56) (omega arith) (omega arith) (omega arith))
      (mark 13 (begin i + 56 + 1) (omega arith) (omega arith) (omega arith))
      (mark 14 (begin i + 56 + 2) (omega arith) (omega arith) (omega arith))

  data_byte_is : (i j q : ℕ) (symbol : Symbol) → i < length keys → j < content_size n + 1 → q ≡ 16 * (begin i + 59 + j) → get_or (data_content (content_size n) fill) j filler ≡ symbol → symbol_byte symbol < 256 → byte_at laid q ≡ symbol_byte symbol
  data_byte_is i j q symbol h small e is fit =
      let content = data_content (content_size n) fill in
      let room = inside_of i (59 + j) h (omega arith) in
      let back : 15 + j - 15 ≡ j = omega arith in
      byte_is q (begin i + 59 + j) symbol e (omega arith)
      (at_data i (15 + j) (begin i + 59 + j) h (omega arith) (omega arith)
      ∙ in_symbols content gap3 (15 + j) (omega arith) (omega (arith, length-data_content (content_size n) fill))
      ∙ ap (λ m. get_or content m filler) back
      ∙ is)
      fit

  pub first_byte : (i : ℕ) → i < length keys → byte_at laid (data_place i + 48) ≡ 0xFB
  first_byte i h = data_byte_is i 0 (data_place i + 48) (Byte 0xFB) h (omega arith) (omega arith) refl (lit< tt)

  -- behind the CRC of the data field stands a gap
  pub gap_byte : (i : ℕ) → i < length keys → 1 ≤ gap3 → byte_at laid (16 * (begin i + 62 + content_size n)) ≡ 0x4E
  gap_byte i h wide =
      let content = data_content (content_size n) fill in
      let room = inside_of i (62 + content_size n) h (omega arith) in
      byte_is (16 * (begin i + 62 + content_size n)) (begin i + 62 + content_size n) filler refl (omega arith)
      (at_data i (18 + content_size n) (begin i + 62 + content_size n) h (omega arith) (omega arith)
      ∙ in_gap content gap3 (18 + content_size n) (omega (arith, length-data_content (content_size n) fill)))
      (lit< tt)

  pub content_is : (i : ℕ) → i < length keys → fill < 256 → content_at laid (data_place i + 64) n ≡ replicate (content_size n) fill
  content_is i h fit =
      sym (fill_by_all (λ k. byte_at laid (data_place i + 64 + 16 * k)) (replicate (content_size n) fill) (content_size n) 0 (length-replicate (content_size n) fill)
      (λ k small.
      get_or-replicate (content_size n) k fill 0 small
      ∙ sym (data_byte_is i (suc k) (data_place i + 64 + 16 * k) (Byte fill) h (omega arith) (omega arith) (get_or-replicate (content_size n) k (Byte fill) filler small) fit)))

  pub data_check : (i : ℕ) → i < length keys → fill < 256 → HasCheck laid (data_place i + 64 + 16 * content_size n) (after_marks (byte_at laid (data_place i + 48) ∷ content_at laid (data_place i + 64) n))
  data_check i h fit =
      let size = content_size n in
      let content = data_content size fill in
      let long = length-data_content size fill in
      let bytes = 0xFB ∷ replicate size fill in
      let check = crc (after_marks bytes) in
      let below = crc_below (after_marks bytes) in
      let same : check_of content gap3 ≡ check = ap (λ xs. crc (after_marks (0xFB ∷ xs))) (symbol_bytes size fill) in
      let room = inside_of i (61 + size) h (omega arith) in
      let q = data_place i + 64 + 16 * size in
      let high = byte_is q (begin i + 60 + size) (Byte (check / 256)) (omega arith) (omega arith)
      (at_data i (16 + size) (begin i + 60 + size) h (omega arith) (omega arith) ∙ in_high content gap3 (16 + size) (omega arith) ∙ ap (λ c. Byte (c / 256)) same) (omega arith) in
      let low = byte_is (q + 16) (begin i + 61 + size) (Byte (check % 256)) (omega arith) (omega arith)
      (at_data i (17 + size) (begin i + 61 + size) h (omega arith) (omega arith) ∙ in_low content gap3 (17 + size) (omega arith) ∙ ap (λ c. Byte (c % 256)) same) (omega arith) in
      ap (λ b. 256 * b + byte_at laid (q + 16)) high
      ∙ ap (λ b. 256 * (check / 256) + b) low
      ∙ check_again check
      ∙ ap (λ b. crc (after_marks (b ∷ replicate size fill))) (sym (first_byte i h))
      ∙ ap (λ xs. crc (after_marks (byte_at laid (data_place i + 48) ∷ xs))) (sym (content_is i h fit))
