-- Where the runs of a formatted track are.
use Rattle.std.proofs.Common.{◌≡◌, ℕ, zero, suc, ◌+◌, ◌-◌, ◌*◌, ◌/◌, ◌%◌, ◌<◌, ◌≤◌, Bool, true, false, cond, eqb, List, [], ◌∷◌, ◌++◌, length, get_or, take, replicate, refl, sym, ap, ◌∙◌, ◌⊎◌, arith, inl, inr}
use Rattle.track_format.proofs.Common.{get_or_past, get_or_default, cases_lt, cases_eq, ne_eqb, cond-false, false≢true, mul-le-mul_right, flat_map, Chrn, Symbol, Byte, Key, Mark, IsRun, gap, sync, marks, check_symbols, recorded, address_content, data_content, sector_symbols, AreMarks, AreWords, Nowhere, run_at_word, recorded_words, length-recorded, get_or-recorded, symbol_behind, mark_symbol}
use Rattle.track_model.specs.Layouts.{field_symbols, before_sectors, sectors_symbols}
use Rattle.track_format.proofs.Parts.{filler, in_sync, in_symbols, in_high, in_low, in_gap, start_gap_4a, start_sync, start_marks, start_byte, start_gap_1}
use Rattle.track_format.proofs.Tracked.{sector_words, all_symbols, length-all, at_start, at_end_gap, at_address, at_data}

-- ---- marks of a field

pub is_mark : Symbol → Bool
is_mark (Mark cells) = true
is_mark _ = false

abbrev HasNoMarks : List Symbol → Type 0
HasNoMarks symbols = (j : ℕ) → is_mark (get_or symbols j filler) ≡ false

no_mark_bytes : (size fill j : ℕ) → is_mark (get_or (replicate size (Byte fill)) j filler) ≡ false
unfolding is_mark
no_mark_bytes (suc size) fill (suc j) = no_mark_bytes size fill j
no_mark_bytes _ fill _ = refl

no_mark_data : (size fill : ℕ) → HasNoMarks (data_content size fill)
unfolding is_mark
no_mark_data size fill zero = refl
no_mark_data size fill (suc j) = no_mark_bytes size fill j

no_mark_address : (key : Chrn) → HasNoMarks (address_content key)
unfolding is_mark
no_mark_address key zero = refl
no_mark_address key (suc zero) = refl
no_mark_address key (suc (suc zero)) = refl
no_mark_address key (suc (suc (suc zero))) = refl
no_mark_address key (suc (suc (suc (suc zero)))) = refl
no_mark_address key (suc (suc (suc (suc (suc j))))) = refl

filler_no_mark : is_mark filler ≡ false
unfolding is_mark
filler_no_mark = refl

-- a symbol that is no mark
clash : (symbol other : Symbol) (cells : ℕ) → symbol ≡ Mark cells → symbol ≡ other → is_mark other ≡ false → ⊥
unfolding is_mark
clash symbol other cells e f none = false≢true (sym none ∙ ap is_mark (sym f ∙ e))

field_mark : (symbols : List Symbol) (count j cells : ℕ) → HasNoMarks symbols → get_or (field_symbols symbols count) j filler ≡ Mark cells → (12 ≤ j) × (j < 15)
unfolding is_mark
field_mark symbols count j cells none e =
    elim (cases_lt j 12) [
      | inl h ↦ absurd (clash _ (Byte 0) cells e (in_sync symbols count j h) refl)
      | inr low ↦
          elim (cases_lt j 15) [
            | inl h ↦ (low, h)
            | inr marks ↦
                elim (cases_lt j (15 + length symbols)) [
                  | inl h ↦ absurd (clash _ (get_or symbols (j - 15) filler) cells e (in_symbols symbols count j marks h) (none (j - 15)))
                  | inr bytes ↦
                      elim (cases_eq j (15 + length symbols)) [
                        | inl h ↦ absurd (clash _ (Byte _) cells e (in_high symbols count j h) refl)
                        | inr high ↦
                            elim (cases_eq j (16 + length symbols)) [
                              | inl h ↦ absurd (clash _ (Byte _) cells e (in_low symbols count j h) refl)
                              | inr lowest ↦ absurd (clash _ filler cells e (in_gap symbols count j (omega arith)) refl)
                            ]
                      ]
                ]
          ]
    ]

cells_of : Symbol → ℕ
cells_of (Mark cells) = cells
cells_of _ = 0

other_mark : Mark 0x5224 ≡ Mark 0x4489 → ⊥
unfolding cells_of
other_mark e = let f : 0x5224 ≡ 0x4489 = ap cells_of e in omega (arith, f)

start_no_mark : (k : ℕ) → get_or before_sectors k filler ≡ Mark 0x4489 → ⊥
unfolding is_mark
start_no_mark k e =
    elim (cases_lt k 80) [
      | inl h ↦ clash _ filler 0x4489 e (start_gap_4a k h) refl
      | inr a ↦
          elim (cases_lt k 92) [
            | inl h ↦ clash _ (Byte 0) 0x4489 e (start_sync k a h) refl
            | inr b ↦
                elim (cases_lt k 95) [
                  | inl h ↦ other_mark (sym (start_marks k b h) ∙ e)
                  | inr d ↦
                      elim (cases_eq k 95) [
                        | inl h ↦ clash _ (Byte 0xFC) 0x4489 e (start_byte k h) refl
                        | inr f ↦ clash _ filler 0x4489 e (start_gap_1 k (omega arith)) refl
                      ]
                ]
          ]
    ]

no_filler : filler ≡ Mark 0x4489 → ⊥
no_filler e = clash filler filler 0x4489 e refl filler_no_mark

-- ---- all marks are A1 or C2

pub is_other : Symbol → Bool
is_other (Mark cells) = cond (eqb cells 0x4489) false (cond (eqb cells 0x5224) false true)
is_other _ = false

abbrev HasNoOthers : List Symbol → Type 0
HasNoOthers symbols = (j : ℕ) → is_other (get_or symbols j (Byte 0)) ≡ false

others-nil : HasNoOthers []
unfolding is_other
others-nil j = refl

others-filler : is_other filler ≡ false
unfolding is_other
others-filler = refl

others-cons : (symbol : Symbol) (rest : List Symbol) → is_other symbol ≡ false → HasNoOthers rest → HasNoOthers (symbol ∷ rest)
others-cons symbol rest h more zero = h
others-cons symbol rest h more (suc j) = more j

others-append : (first rest : List Symbol) → HasNoOthers first → HasNoOthers rest → HasNoOthers (first ++ rest)
others-append [] rest h more j = more j
others-append (symbol ∷ first) rest h more zero = h 0
others-append (symbol ∷ first) rest h more (suc j) = others-append first rest (λ k. h (suc k)) more j

others-replicate : (count : ℕ) (symbol : Symbol) → is_other symbol ≡ false → HasNoOthers (replicate count symbol)
others-replicate zero symbol h = others-nil
others-replicate (suc count) symbol h = others-cons symbol (replicate count symbol) h (others-replicate count symbol h)

others-take : (count : ℕ) (symbols : List Symbol) → HasNoOthers symbols → HasNoOthers (take count symbols)
unfolding is_other
others-take (suc count) (symbol ∷ rest) h zero = h 0
others-take (suc count) (symbol ∷ rest) h (suc j) = others-take count rest (λ k. h (suc k)) j
others-take _ _ h j = refl

others-field : (symbols : List Symbol) (count : ℕ) → HasNoOthers symbols → HasNoOthers (field_symbols symbols count)
unfolding is_other field_symbols
others-field symbols count h =
    let checked = check_symbols symbols ++ gap count in
    others-append sync (marks 0x4489 ++ (symbols ++ checked)) (others-replicate 12 (Byte 0) refl)
    (others-append (marks 0x4489) (symbols ++ checked) (others-replicate 3 (Mark 0x4489) refl)
    (others-append symbols checked h
    (others-append (check_symbols symbols) (gap count)
    (others-cons (get_or (check_symbols symbols) 0 filler) (get_or (check_symbols symbols) 1 filler ∷ []) refl (others-cons (get_or (check_symbols symbols) 1 filler) [] refl others-nil))
    (others-replicate count filler refl))))

others-start : HasNoOthers before_sectors
unfolding is_other before_sectors
others-start =
    let byte = Byte 0xFC ∷ gap 50 in
    let marked = marks 0x5224 ++ byte in
    others-append (gap 80) (sync ++ marked) (others-replicate 80 filler refl)
    (others-append sync marked (others-replicate 12 (Byte 0) refl)
    (others-append (marks 0x5224) byte (others-replicate 3 (Mark 0x5224) refl)
    (others-cons (Byte 0xFC) (gap 50) refl (others-replicate 50 filler refl))))

others-address : (key : Chrn) → HasNoOthers (address_content key)
unfolding is_other
others-address key =
    let four = Key key.n ∷ [] in
    let three = Key key.r ∷ four in
    let two = Key key.h ∷ three in
    others-cons (Byte 0xFE) (Key key.c ∷ two) refl (others-cons (Key key.c) two refl (others-cons (Key key.h) three refl (others-cons (Key key.r) four refl (others-cons (Key key.n) [] refl others-nil))))

others-sectors : (size gap3 fill : ℕ) (keys : List Chrn) → HasNoOthers (sectors_symbols size gap3 fill keys)
unfolding is_other sectors_symbols
others-sectors size gap3 fill [] = others-nil
others-sectors size gap3 fill (key ∷ keys) =
    others-append (sector_symbols size gap3 fill key) (flat_map (sector_symbols size gap3 fill) keys)
    (others-append (field_symbols (address_content key) 22) (field_symbols (data_content size fill) gap3)
    (others-field (address_content key) 22 (others-address key))
    (others-field (data_content size fill) gap3 (others-cons (Byte 0xFB) (replicate size (Byte fill)) refl (others-replicate size (Byte fill) refl))))
    (others-sectors size gap3 fill keys)

only_two : (cells : ℕ) → cond (eqb cells 0x4489) false (cond (eqb cells 0x5224) false true) ≡ false → (cells ≡ 0x4489) ⊎ (cells ≡ 0x5224)
only_two cells h =
    elim (cases_eq cells 0x4489) [
      | inl e ↦ inl e
      | inr a ↦
          elim (cases_eq cells 0x5224) [
            | inl e ↦ inr e
            | inr b ↦
                let f = cond-false (eqb cells 0x4489) false (cond (eqb cells 0x5224) false true) (ne_eqb cells 0x4489 a) ∙ cond-false (eqb cells 0x5224) false true (ne_eqb cells 0x5224 b) in
                absurd (false≢true (sym h ∙ f))
          ]
    ]

marks_from : (symbols : List Symbol) → HasNoOthers symbols → AreMarks symbols
unfolding is_other
marks_from symbols h k cells e = only_two cells (ap is_other (sym e) ∙ h k)

-- ---- the runs

module _ (size gap3 fill : ℕ) (keys : List Chrn) (d : Chrn) (words : ℕ) (fits : 146 + length keys * sector_words size gap3 ≤ words) where
  abbrev pub symbols : List Symbol
  symbols = all_symbols size gap3 fill keys d words fits

  abbrev pub track : List ℕ
  track = recorded false symbols

  pub are_marks : AreMarks symbols
  are_marks =
      marks_from symbols
      (others-take words ((before_sectors ++ sectors_symbols size gap3 fill keys) ++ gap words)
      (others-append (before_sectors ++ sectors_symbols size gap3 fill keys) (gap words)
      (others-append before_sectors (sectors_symbols size gap3 fill keys) others-start (others-sectors size gap3 fill keys))
      (others-replicate words filler others-filler)))

  pub are_words : (Seam : ℕ → Type 0) → AreWords Seam false track
  are_words Seam = recorded_words Seam false symbols are_marks

  pub length-track : length track ≡ words
  length-track = length-recorded false symbols ∙ length-all size gap3 fill keys d words fits

  -- a word 4489 is a mark
  pub symbol_is_mark : (k : ℕ) → k < words → get_or track k 0 ≡ 0x4489 → get_or symbols k filler ≡ Mark 0x4489
  symbol_is_mark k h e =
      let within : k < length symbols = omega (arith, length-all size gap3 fill keys d words fits) in
      get_or_default symbols k filler (Byte 0) within
      ∙ mark_symbol (symbol_behind false symbols k) (get_or symbols k (Byte 0)) (sym (get_or-recorded false symbols k within) ∙ e)

  abbrev pub start : ℕ → ℕ
  start i = 146 + i * sector_words size gap3

  -- the key of a sector
  abbrev pub key_of : ℕ → Chrn
  key_of i = get_or keys i d

  pub address_symbol : (i j k : ℕ) → i < length keys → j < 44 → k ≡ start i + j → get_or symbols k filler ≡ get_or (field_symbols (address_content (key_of i)) 22) j filler
  address_symbol i j k h small e = at_address size gap3 fill keys d words fits i j k h small e

  pub data_symbol : (i j k : ℕ) → i < length keys → j < 18 + size + gap3 → k ≡ start i + 44 + j → get_or symbols k filler ≡ get_or (field_symbols (data_content size fill) gap3) j filler
  data_symbol i j k h small e = at_data size gap3 fill keys d words fits i j k h small e

  abbrev pub InMarks : ℕ → ℕ → Type 0
  InMarks i k = ((start i + 12 ≤ k) × (k < start i + 15)) ⊎ ((start i + 56 ≤ k) × (k < start i + 59))

  -- the sector that a word lies in
  mark_in_sectors : (k : ℕ) → 146 ≤ k → k < 146 + length keys * sector_words size gap3 → get_or symbols k filler ≡ Mark 0x4489 → (i : ℕ) × (i < length keys) × InMarks i k
  mark_in_sectors k low high e =
      let len = sector_words size gap3 in
      let i = (k - 146) / len in
      let j = (k - 146) % len in
      let short : j < len = omega arith in
      let split : len * i + j ≡ k - 146 = omega arith in
      let place : k ≡ start i + j = omega arith in
      elim (cases_lt i (length keys)) [
        | inr over ↦
            let product : length keys * len ≤ i * len = mul-le-mul_right len over in
            absurd (omega arith)
        | inl within ↦
            elim (cases_lt j 44) [
              | inl h ↦
                  let found = field_mark (address_content (key_of i)) 22 j 0x4489 (no_mark_address (key_of i)) (sym (address_symbol i j k within h place) ∙ e) in
                  (i, within, inl (let a = found.0 in omega (arith, a), let b = found.1 in omega (arith, b)))
              | inr h ↦
                  let found = field_mark (data_content size fill) gap3 (j - 44) 0x4489 (no_mark_data size fill) (sym (data_symbol i (j - 44) k within (omega arith) (omega arith)) ∙ e) in
                  (i, within, inr (let a = found.0 in omega (arith, a), let b = found.1 in omega (arith, b)))
            ]
      ]

  pub mark_place : (k : ℕ) → get_or symbols k filler ≡ Mark 0x4489 → (i : ℕ) × (i < length keys) × InMarks i k
  mark_place k e =
      elim (cases_lt k 146) [
        | inl h ↦ absurd (start_no_mark k (sym (at_start size gap3 fill keys d words fits k h) ∙ e))
        | inr low ↦
            elim (cases_lt k (146 + length keys * sector_words size gap3)) [
              | inl high ↦ mark_in_sectors k low high e
              | inr over ↦ absurd (no_filler (sym (at_end_gap size gap3 fill keys d words fits k over) ∙ e))
            ]
      ]

  word_inside : (k : ℕ) → get_or track k 0 ≡ 0x4489 → k < words
  word_inside k e =
      elim (cases_lt k words) [
        | inl h ↦ h
        | inr h ↦
            let past : length track ≤ k = omega (arith, length-track) in
            let f : 0 ≡ 0x4489 = sym (get_or_past track k 0 past) ∙ e in absurd (omega (arith, f))
      ]

  -- every run is in front of an address field's bytes or a data field's
  pub run_place : (p : ℕ) → IsRun track p → (k i : ℕ) × (p ≡ 16 * k) × (i < length keys) × ((k ≡ start i + 12) ⊎ (k ≡ start i + 56))
  run_place p run =
      let found = run_at_word Nowhere false track (are_words Nowhere) (λ k one two three bit. one) p run in
      let k = found.0 in
      let here = found.1 in
      let last_inside = word_inside (k + 2) here.third in
      let one = symbol_is_mark k (omega arith) here.first in
      let three = symbol_is_mark (k + 2) last_inside here.third in
      let place = mark_place k one in
      let i = place.0 in (
        k,
        i,
        here.place,
        place.1,
        elim place.2 [
          | inl (low, high) ↦
              let j = k - start i in
              let at = field_mark (address_content (key_of i)) 22 (j + 2) 0x4489 (no_mark_address (key_of i)) (sym (address_symbol i (j + 2) (k + 2) place.1 (omega arith) (omega arith)) ∙ three) in
              inl (let a = at.1 in omega (arith, a))
          | inr (low, high) ↦
              let j = k - (start i + 44) in
              let at = field_mark (data_content size fill) gap3 (j + 2) 0x4489 (no_mark_data size fill) (sym (data_symbol i (j + 2) (k + 2) place.1 (omega arith) (omega arith)) ∙ three) in
              inr (let a = at.1 in omega (arith, a))
        ],
      )
