-- The symbols of a whole track by their place.
use Rattle.std.proofs.Common.{◌≡◌, ℕ, zero, suc, ◌+◌, ◌-◌, ◌*◌, ◌<◌, ◌≤◌, List, [], ◌∷◌, ◌++◌, length, get_or, take, ap, ◌∙◌, arith, inl, inr}
use Rattle.track_format.proofs.Common.{length-append, length-replicate, length-take, get_or-take, get_or_append_left, get_or-append_right, get_or_past, cases_lt, mul-le-mul_right, flat_map, Chrn, Symbol, gap, field_symbols, before_sectors, address_content, data_content, sector_symbols}
use Rattle.track_model.specs.Layouts.{sectors_symbols}
use Rattle.track_format.proofs.Parts.{filler, gap_is}
use Rattle.track_format.proofs.Steps.{length-start, length-address, length-data}

-- the words of a sector
abbrev pub sector_words : ℕ → ℕ → ℕ
sector_words size gap3 = 62 + size + gap3

length-sector : (size gap3 fill : ℕ) (key : Chrn) → length (sector_symbols size gap3 fill key) ≡ sector_words size gap3
length-sector size gap3 fill key =
    omega (arith, length-append (field_symbols (address_content key) 22) (field_symbols (data_content size fill) gap3), length-address key, length-data size gap3 fill)

pub length-sectors : (size gap3 fill : ℕ) (keys : List Chrn) → length (sectors_symbols size gap3 fill keys) ≡ length keys * sector_words size gap3
unfolding sectors_symbols
length-sectors size gap3 fill [] = omega arith
length-sectors size gap3 fill (key ∷ keys) =
    omega (arith, length-append (sector_symbols size gap3 fill key) (flat_map (sector_symbols size gap3 fill) keys), length-sector size gap3 fill key, length-sectors size gap3 fill keys)

-- the symbol at a place of a sector
in_sector : (size gap3 fill : ℕ) (keys : List Chrn) (d : Chrn) (i j k : ℕ) → k ≡ i * sector_words size gap3 + j → j < sector_words size gap3 → i < length keys → get_or (sectors_symbols size gap3 fill keys) k filler ≡ get_or (sector_symbols size gap3 fill (get_or keys i d)) j filler
unfolding sectors_symbols
in_sector size gap3 fill [] d i j k e small within = absurd (omega arith)
in_sector size gap3 fill (key ∷ keys) d zero j k e small within =
    let f : k ≡ j = omega arith in
    ap (λ m. get_or (sectors_symbols size gap3 fill (key ∷ keys)) m filler) f
    ∙ get_or_append_left (sector_symbols size gap3 fill key) (flat_map (sector_symbols size gap3 fill) keys) filler j (omega (arith, length-sector size gap3 fill key))
in_sector size gap3 fill (key ∷ keys) d (suc i) j k e small within =
    let long : sector_words size gap3 ≤ k = omega arith in
    get_or-append_right (sector_symbols size gap3 fill key) (flat_map (sector_symbols size gap3 fill) keys) (sector_words size gap3) k filler (length-sector size gap3 fill key) long
    ∙ in_sector size gap3 fill keys d i j (k - sector_words size gap3) (omega arith) small (omega arith)

module _ (size gap3 fill : ℕ) (keys : List Chrn) (d : Chrn) (words : ℕ) (fits : 146 + length keys * sector_words size gap3 ≤ words) where
  abbrev pub all_symbols : List Symbol
  all_symbols = take words ((before_sectors ++ sectors_symbols size gap3 fill keys) ++ gap words)

  -- the first words of an address field and of a data field
  abbrev pub address_start : ℕ → ℕ
  address_start i = 146 + i * sector_words size gap3

  pub length-all : length all_symbols ≡ words
  length-all =
      omega (arith, length-take words ((before_sectors ++ sectors_symbols size gap3 fill keys) ++ gap words), length-append (before_sectors ++ sectors_symbols size gap3 fill keys) (gap words), length-replicate words filler)

  length-used : length (before_sectors ++ sectors_symbols size gap3 fill keys) ≡ 146 + length keys * sector_words size gap3
  length-used = omega (arith, length-append before_sectors (sectors_symbols size gap3 fill keys), length-start, length-sectors size gap3 fill keys)

  at_used : (k : ℕ) → k < 146 + length keys * sector_words size gap3 → get_or all_symbols k filler ≡ get_or (before_sectors ++ sectors_symbols size gap3 fill keys) k filler
  at_used k h =
      get_or-take words ((before_sectors ++ sectors_symbols size gap3 fill keys) ++ gap words) k filler (omega arith)
      ∙ get_or_append_left (before_sectors ++ sectors_symbols size gap3 fill keys) (gap words) filler k (omega (arith, length-used))

  pub at_start : (k : ℕ) → k < 146 → get_or all_symbols k filler ≡ get_or before_sectors k filler
  at_start k h = at_used k (omega arith) ∙ get_or_append_left before_sectors (sectors_symbols size gap3 fill keys) filler k (omega (arith, length-start))

  pub at_end_gap : (k : ℕ) → 146 + length keys * sector_words size gap3 ≤ k → get_or all_symbols k filler ≡ filler
  at_end_gap k h =
      elim (cases_lt k words) [
        | inl within ↦
            get_or-take words ((before_sectors ++ sectors_symbols size gap3 fill keys) ++ gap words) k filler within
            ∙ get_or-append_right (before_sectors ++ sectors_symbols size gap3 fill keys) (gap words) (146 + length keys * sector_words size gap3) k filler length-used h
            ∙ gap_is words (k - (146 + length keys * sector_words size gap3))
        | inr past ↦ get_or_past all_symbols k filler (omega (arith, length-all))
      ]

  -- a sector ends before the end of them all
  pub sector_ends : (i : ℕ) → i < length keys → i * sector_words size gap3 + sector_words size gap3 ≤ length keys * sector_words size gap3
  sector_ends i h =
      let more : suc i ≤ length keys = omega arith in
      let product : suc i * sector_words size gap3 ≤ length keys * sector_words size gap3 = mul-le-mul_right (sector_words size gap3) more in
      omega arith

  -- two sectors are apart
  pub sectors_apart : (i j : ℕ) → i < j → i * sector_words size gap3 + sector_words size gap3 ≤ j * sector_words size gap3
  sectors_apart i j h =
      let more : suc i ≤ j = omega arith in
      let product : suc i * sector_words size gap3 ≤ j * sector_words size gap3 = mul-le-mul_right (sector_words size gap3) more in
      omega arith

  at_sector : (i j k : ℕ) → i < length keys → j < sector_words size gap3 → k ≡ address_start i + j → get_or all_symbols k filler ≡ get_or (sector_symbols size gap3 fill (get_or keys i d)) j filler
  at_sector i j k h small e =
      let ends = sector_ends i h in
      at_used k (omega arith)
      ∙ get_or-append_right before_sectors (sectors_symbols size gap3 fill keys) 146 k filler length-start (omega arith)
      ∙ in_sector size gap3 fill keys d i j (k - 146) (omega arith) small h

  pub at_address : (i j k : ℕ) → i < length keys → j < 44 → k ≡ address_start i + j → get_or all_symbols k filler ≡ get_or (field_symbols (address_content (get_or keys i d)) 22) j filler
  at_address i j k h small e =
      at_sector i j k h (omega arith) e
      ∙ get_or_append_left (field_symbols (address_content (get_or keys i d)) 22) (field_symbols (data_content size fill) gap3) filler j (omega (arith, length-address (get_or keys i d)))

  pub at_data : (i j k : ℕ) → i < length keys → j < 18 + size + gap3 → k ≡ address_start i + 44 + j → get_or all_symbols k filler ≡ get_or (field_symbols (data_content size fill) gap3) j filler
  at_data i j k h small e =
      let back : 44 + j - 44 ≡ j = omega arith in
      at_sector i (44 + j) k h (omega arith) (omega arith)
      ∙ get_or-append_right (field_symbols (address_content (get_or keys i d)) 22) (field_symbols (data_content size fill) gap3) 44 (44 + j) filler (length-address (get_or keys i d)) (omega arith)
      ∙ ap (λ m. get_or (field_symbols (data_content size fill) gap3) m filler) back
