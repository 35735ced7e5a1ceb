-- The symbols of a field by their place.
use Rattle.std.proofs.Common.{◌≡◌, ℕ, suc, ◌+◌, ◌-◌, ◌/◌, ◌%◌, ◌^◌, ◌<◌, ◌≤◌, List, ◌∷◌, ◌++◌, length, get_or, map, drop, refl, sym, ap, ◌∙◌, arith}
use Rattle.track_format.proofs.Common.{length-append, length-replicate, get_or_append_left, get_or-append_right, get_or-replicate, get_or-map, drop_more, drop_all, length-map, Symbol, Byte, Mark, crc, crc_from, after_marks, gap, sync, marks, symbol_byte, check_symbols, crc_from_none, GoesOn}
use Rattle.track_model.specs.Layouts.{field_symbols, before_sectors}

abbrev pub filler : Symbol
filler = Byte 0x4E

-- a place behind the first list
pub past : (first rest : List Symbol) (n place left : ℕ) → length first ≡ n → place ≡ n + left → get_or (first ++ rest) place filler ≡ get_or rest left filler
past first rest n place left e f =
    let g : place - n ≡ left = omega arith in
    get_or-append_right first rest n place filler e (omega arith) ∙ ap (λ k. get_or rest k filler) g

pub gap_is : (count place : ℕ) → get_or (gap count) place filler ≡ filler
gap_is (suc count) (suc place) = gap_is count place
gap_is _ _ = refl

module _ (symbols : List Symbol) (behind : ℕ) where
  abbrev field : List Symbol
  field = field_symbols symbols behind

  pub length-field : length field ≡ length symbols + (17 + behind)
  unfolding field_symbols
  length-field =
      let rest = check_symbols symbols ++ gap behind in
      omega (arith, length-append symbols rest, length-replicate behind filler)

  pub in_sync : (place : ℕ) → place < 12 → get_or field place filler ≡ Byte 0
  unfolding field_symbols
  in_sync place h =
      get_or_append_left sync (marks 0x4489 ++ (symbols ++ (check_symbols symbols ++ gap behind))) filler place h
      ∙ get_or-replicate 12 place (Byte 0) filler h

  pub in_marks : (place : ℕ) → 12 ≤ place → place < 15 → get_or field place filler ≡ Mark 0x4489
  unfolding field_symbols
  in_marks place low high =
      let rest = symbols ++ (check_symbols symbols ++ gap behind) in
      past sync (marks 0x4489 ++ rest) 12 place (place - 12) refl (omega arith)
      ∙ get_or_append_left (marks 0x4489) rest filler (place - 12) (omega arith)
      ∙ get_or-replicate 3 (place - 12) (Mark 0x4489) filler (omega arith)

  in_rest : (place left : ℕ) → place ≡ 15 + left → get_or field place filler ≡ get_or (symbols ++ (check_symbols symbols ++ gap behind)) left filler
  unfolding field_symbols
  in_rest place left e =
      let rest = symbols ++ (check_symbols symbols ++ gap behind) in
      past sync (marks 0x4489 ++ rest) 12 place (3 + left) refl (omega arith)
      ∙ past (marks 0x4489) rest 3 (3 + left) left refl refl

  pub in_symbols : (place : ℕ) → 15 ≤ place → place < 15 + length symbols → get_or field place filler ≡ get_or symbols (place - 15) filler
  in_symbols place low high =
      in_rest place (place - 15) (omega arith)
      ∙ get_or_append_left symbols (check_symbols symbols ++ gap behind) filler (place - 15) (omega arith)

  in_tail : (place left : ℕ) → place ≡ 15 + length symbols + left → get_or field place filler ≡ get_or (check_symbols symbols ++ gap behind) left filler
  in_tail place left e =
      in_rest place (length symbols + left) (omega arith)
      ∙ past symbols (check_symbols symbols ++ gap behind) (length symbols) (length symbols + left) left refl refl

  abbrev pub check_of : ℕ
  check_of = crc (after_marks (map symbol_byte symbols))

  pub in_high : (place : ℕ) → place ≡ 15 + length symbols → get_or field place filler ≡ Byte (check_of / 256)
  in_high place e = in_tail place 0 (omega arith)

  pub in_low : (place : ℕ) → place ≡ 16 + length symbols → get_or field place filler ≡ Byte (check_of % 256)
  in_low place e = in_tail place 1 (omega arith)

  pub in_gap : (place : ℕ) → 17 + length symbols ≤ place → get_or field place filler ≡ filler
  in_gap place low =
      let left = place - (17 + length symbols) in
      in_tail place (suc (suc left)) (omega arith) ∙ gap_is behind left

  -- after all symbols the CRC so far is the whole CRC
  pub check_is : (place check : ℕ) → check < 2 ^ 16 → 15 + length symbols ≤ place → GoesOn place check symbols → check ≡ check_of
  check_is place check fits low goes =
      let bytes = map symbol_byte symbols in
      let all : length bytes ≤ place - 15 = omega (arith, length-map symbols symbol_byte) in
      sym (crc_from_none check fits) ∙ sym (ap (crc_from check) (drop_all (place - 15) bytes all)) ∙ goes (omega arith)

  -- the CRC goes on over one symbol
  pub check_steps : (place check result : ℕ) → 15 ≤ place → place < 15 + length symbols → ((rest : List ℕ) → crc_from check (symbol_byte (get_or field place filler) ∷ rest) ≡ crc_from result rest) → GoesOn place check symbols → GoesOn (place + 1) result symbols
  check_steps place check result low high steps goes = λ l.
      let bytes = map symbol_byte symbols in
      let within : place - 15 < length bytes = omega (arith, length-map symbols symbol_byte) in
      let here : place - 15 < length symbols = omega arith in
      let next : place + 1 - 15 ≡ place - 15 + 1 = omega arith in
      let byte = get_or-map symbol_byte symbols (place - 15) filler 0 here ∙ ap symbol_byte (sym (in_symbols place low high)) in
      ap (λ k. crc_from result (drop k bytes)) next
      ∙ sym (steps (drop (place - 15 + 1) bytes))
      ∙ ap (λ b. crc_from check (b ∷ drop (place - 15 + 1) bytes)) (sym byte)
      ∙ ap (crc_from check) (sym (drop_more bytes (place - 15) 0 within))
      ∙ goes low

  -- after all symbols the CRC stays as it is
  pub check_stays : (place check : ℕ) → 15 + length symbols ≤ place → GoesOn place check symbols → GoesOn (place + 1) check symbols
  check_stays place check low goes = λ l.
      let bytes = map symbol_byte symbols in
      let all : length bytes ≤ place - 15 = omega (arith, length-map symbols symbol_byte) in
      let more : length bytes ≤ place + 1 - 15 = omega arith in
      ap (crc_from check) (drop_all (place + 1 - 15) bytes more ∙ sym (drop_all (place - 15) bytes all)) ∙ goes (omega arith)

-- ---- before the first sector

pub start_gap_4a : (place : ℕ) → place < 80 → get_or before_sectors place filler ≡ filler
unfolding before_sectors
start_gap_4a place h =
    get_or_append_left (gap 80) (sync ++ (marks 0x5224 ++ (Byte 0xFC ∷ gap 50))) filler place h
    ∙ get_or-replicate 80 place filler filler h

pub start_sync : (place : ℕ) → 80 ≤ place → place < 92 → get_or before_sectors place filler ≡ Byte 0
unfolding before_sectors
start_sync place low high =
    past (gap 80) (sync ++ (marks 0x5224 ++ (Byte 0xFC ∷ gap 50))) 80 place (place - 80) refl (omega arith)
    ∙ get_or_append_left sync (marks 0x5224 ++ (Byte 0xFC ∷ gap 50)) filler (place - 80) (omega arith)
    ∙ get_or-replicate 12 (place - 80) (Byte 0) filler (omega arith)

start_rest : (place left : ℕ) → place ≡ 92 + left → get_or before_sectors place filler ≡ get_or (marks 0x5224 ++ (Byte 0xFC ∷ gap 50)) left filler
unfolding before_sectors
start_rest place left e =
    past (gap 80) (sync ++ (marks 0x5224 ++ (Byte 0xFC ∷ gap 50))) 80 place (12 + left) refl (omega arith)
    ∙ past sync (marks 0x5224 ++ (Byte 0xFC ∷ gap 50)) 12 (12 + left) left refl refl

pub start_marks : (place : ℕ) → 92 ≤ place → place < 95 → get_or before_sectors place filler ≡ Mark 0x5224
start_marks place low high =
    start_rest place (place - 92) (omega arith)
    ∙ get_or_append_left (marks 0x5224) (Byte 0xFC ∷ gap 50) filler (place - 92) (omega arith)
    ∙ get_or-replicate 3 (place - 92) (Mark 0x5224) filler (omega arith)

pub start_byte : (place : ℕ) → place ≡ 95 → get_or before_sectors place filler ≡ Byte 0xFC
start_byte place e = start_rest place 3 (omega arith)

pub start_gap_1 : (place : ℕ) → 96 ≤ place → get_or before_sectors place filler ≡ filler
start_gap_1 place low =
    let left = place - 96 in
    start_rest place (suc (suc (suc (suc left)))) (omega arith) ∙ gap_is 50 left
