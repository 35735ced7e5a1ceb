-- One word more of a part of the track.
use Rattle.std.proofs.Common.{◌≡◌, ℕ, zero, suc, ◌+◌, ◌-◌, ◌/◌, ◌%◌, ◌<◌, ◌≤◌, Bool, true, false, IsTrue, ◌↔◌, List, [], ◌∷◌, ◌++◌, length, get_or, drop, replicate, refl, sym, ap, ◌∙◌, append_assoc, ◌⊎◌, arith, inl, inr}
use Rattle.track_format.proofs.Common.{length-replicate, get_or-replicate, drop_more, drop_all, cases_lt, cases_eq, false≢true, flat_map, Chrn, Symbol, Byte, Key, Mark, gap, sync, marks, check_symbols, address_content, data_content, sector_symbols, next_symbol, GoesOn, AsksKey, KeyIs, IsInAddress, IsInData, HasSectors, IsInPart, words_of_part}
use Rattle.track_model.specs.Layouts.{field_symbols, before_sectors, sectors_symbols}
use Rattle.track_format.specs.declared.stream.TrackPart.{TrackPart}
use Rattle.track_format.specs.declared.stream.TrackPart.TheVariants.{Start, Address, Data, End}
use Rattle.track_format.proofs.Parts.{filler, check_of, length-field, in_sync, in_marks, in_symbols, in_high, in_low, in_gap}

module _ (part more left : List Symbol) (given : ℕ) (within : given < length part) (left_is : left ≡ drop given part ++ more) where
  whole : left ≡ get_or part given filler ∷ (drop (given + 1) part ++ more)
  whole = left_is ∙ ap (λ xs. xs ++ more) (drop_more part given filler within)

  pub first_is : next_symbol left ≡ get_or part given filler
  first_is = ap next_symbol whole

  pub rest_is : drop 1 left ≡ drop (given + 1) part ++ more
  rest_is = ap (drop 1) whole

  pub not_empty : left ≡ [] → ⊥
  not_empty e = let f = sym whole ∙ e in cc f

-- after the last word of a part
pub behind_is : (part more left : List Symbol) (given : ℕ) → length part ≤ given → left ≡ drop given part ++ more → left ≡ more
behind_is part more left given h e = e ∙ ap (λ xs. xs ++ more) (drop_all given part h)

pub length-start : length before_sectors ≡ 146
unfolding before_sectors
length-start = refl

pub length-address : (key : Chrn) → length (field_symbols (address_content key) 22) ≡ 44
length-address key = length-field (address_content key) 22

pub length-data_content : (size fill : ℕ) → length (data_content size fill) ≡ size + 1
length-data_content size fill = omega (arith, length-replicate size (Byte fill))

pub length-data : (size gap3 fill : ℕ) → length (field_symbols (data_content size fill) gap3) ≡ 18 + size + gap3
length-data size gap3 fill = omega (arith, length-field (data_content size fill) gap3, length-data_content size fill)

pub sectors_nil : (size gap3 fill : ℕ) → sectors_symbols size gap3 fill [] ≡ []
unfolding sectors_symbols
sectors_nil size gap3 fill = refl

pub sectors-cons : (size gap3 fill : ℕ) (key : Chrn) (keys : List Chrn) → sectors_symbols size gap3 fill (key ∷ keys) ≡ field_symbols (address_content key) 22 ++ (field_symbols (data_content size fill) gap3 ++ sectors_symbols size gap3 fill keys)
unfolding sectors_symbols
sectors-cons size gap3 fill key keys =
    append_assoc (field_symbols (address_content key) 22) (field_symbols (data_content size fill) gap3) (flat_map (sector_symbols size gap3 fill) keys)

-- the bytes of a key
pub key_at : (key : Chrn) (j : ℕ) → 1 ≤ j → j < 5 → get_or (address_content key) j filler ≡ Key (get_or (key.c ∷ key.h ∷ key.r ∷ key.n ∷ []) (j - 1) 0)
key_at key zero low high = absurd (omega arith)
key_at key (suc (suc (suc (suc (suc j))))) low high = absurd (omega arith)
key_at key _ low high = refl

-- what the code takes for the symbol of an address field
pub address_inner : (key : Chrn) (more left : List Symbol) (place byte : ℕ) → place < 44 → left ≡ drop place (field_symbols (address_content key) 22) ++ more → KeyIs left byte → (place ≡ 15 → ⊥) → 15 ≤ place → place < 20 → Key byte ≡ get_or (address_content key) (place - 15) filler
address_inner key more left place byte short left_is is other low high =
    let field = field_symbols (address_content key) 22 in
    let within : place < length field = omega (arith, length-address key) in
    let here = key_at key (place - 15) (omega arith) (omega arith) in
    let next = first_is field more left place within left_is ∙ in_symbols (address_content key) 22 place low high ∙ here in
    ap (λ b. Key b) (is _ next) ∙ sym here

pub address_first : (key : Chrn) (place : ℕ) → place ≡ 15 → Byte 0xFE ≡ get_or (address_content key) (place - 15) filler
address_first key place e =
    let f : 0 ≡ place - 15 = omega arith in ap (λ j. get_or (address_content key) j filler) f

pub data_first : (size fill place : ℕ) → place ≡ 15 → Byte 0xFB ≡ get_or (data_content size fill) (place - 15) filler
data_first size fill place e =
    let f : 0 ≡ place - 15 = omega arith in ap (λ j. get_or (data_content size fill) j filler) f

pub data_inner : (size fill place : ℕ) → (place ≡ 15 → ⊥) → 15 ≤ place → place < 15 + (size + 1) → Byte fill ≡ get_or (data_content size fill) (place - 15) filler
data_inner size fill place other low high =
    let f : suc (place - 16) ≡ place - 15 = omega arith in
    sym (get_or-replicate size (place - 16) (Byte fill) filler (omega arith)) ∙ ap (λ j. get_or (data_content size fill) j filler) f

-- ---- which symbols are bytes of a key

pub is_key : Symbol → Bool
is_key (Key byte) = true
is_key _ = false

abbrev HasNoKeys : List Symbol → Type 0
HasNoKeys symbols = (j : ℕ) → is_key (get_or symbols j filler) ≡ false

no_keys-nil : HasNoKeys []
unfolding is_key
no_keys-nil j = refl

no_keys-cons : (symbol : Symbol) (rest : List Symbol) → is_key symbol ≡ false → HasNoKeys rest → HasNoKeys (symbol ∷ rest)
no_keys-cons symbol rest h more zero = h
no_keys-cons symbol rest h more (suc j) = more j

no_keys-append : (first rest : List Symbol) → HasNoKeys first → HasNoKeys rest → HasNoKeys (first ++ rest)
no_keys-append [] rest h more j = more j
no_keys-append (symbol ∷ first) rest h more zero = h 0
no_keys-append (symbol ∷ first) rest h more (suc j) = no_keys-append first rest (λ k. h (suc k)) more j

no_keys-replicate : (count : ℕ) (symbol : Symbol) → is_key symbol ≡ false → HasNoKeys (replicate count symbol)
no_keys-replicate zero symbol h = no_keys-nil
no_keys-replicate (suc count) symbol h = no_keys-cons symbol (replicate count symbol) h (no_keys-replicate count symbol h)

pub no_keys-start : HasNoKeys before_sectors
unfolding is_key before_sectors
no_keys-start =
    let byte = Byte 0xFC ∷ gap 50 in
    let marked = marks 0x5224 ++ byte in
    no_keys-append (gap 80) (sync ++ marked) (no_keys-replicate 80 filler refl)
    (no_keys-append sync marked (no_keys-replicate 12 (Byte 0) refl)
    (no_keys-append (marks 0x5224) byte (no_keys-replicate 3 (Mark 0x5224) refl)
    (no_keys-cons (Byte 0xFC) (gap 50) refl (no_keys-replicate 50 filler refl))))

pub no_keys-data : (size gap3 fill : ℕ) → HasNoKeys (field_symbols (data_content size fill) gap3)
unfolding is_key field_symbols
no_keys-data size gap3 fill =
    let content = data_content size fill in
    let checked = check_symbols content ++ gap gap3 in
    let high = check_of content 0 / 256 in
    let low = check_of content 0 % 256 in
    no_keys-append sync (marks 0x4489 ++ (content ++ checked)) (no_keys-replicate 12 (Byte 0) refl)
    (no_keys-append (marks 0x4489) (content ++ checked) (no_keys-replicate 3 (Mark 0x4489) refl)
    (no_keys-cons (Byte 0xFB) (replicate size (Byte fill) ++ checked) refl
    (no_keys-append (replicate size (Byte fill)) checked (no_keys-replicate size (Byte fill) refl)
    (no_keys-append (check_symbols content) (gap gap3)
    (no_keys-cons (Byte high) (Byte low ∷ []) refl (no_keys-cons (Byte low) [] refl no_keys-nil))
    (no_keys-replicate gap3 filler refl)))))

pub not_asked : (part more left : List Symbol) (given : ℕ) → given < length part → left ≡ drop given part ++ more → is_key (get_or part given filler) ≡ false → AsksKey left → ⊥
unfolding is_key
not_asked part more left given within left_is none asks =
    let f : true ≡ false = sym (ap is_key asks.1) ∙ ap is_key (first_is part more left given within left_is) ∙ none in
    absurd (cc f)

pub end_not_asked : (left : List Symbol) → left ≡ [] → AsksKey left → ⊥
unfolding is_key
end_not_asked left e asks =
    let f : true ≡ false = sym (ap is_key asks.1) ∙ ap (λ xs. is_key (next_symbol xs)) e in absurd (cc f)

pub address_asked : (key : Chrn) (more left : List Symbol) (place : ℕ) → left ≡ drop place (field_symbols (address_content key) 22) ++ more → 15 < place → place < 20 → AsksKey left
address_asked key more left place left_is low high =
    let field = field_symbols (address_content key) 22 in
    let within : place < length field = omega (arith, length-address key) in (
      _,
      first_is field more left place within left_is
          ∙ in_symbols (address_content key) 22 place (omega arith) high
          ∙ key_at key (place - 15) (omega arith) (omega arith),
    )

outside_keys : (key : Chrn) (place : ℕ) → (15 < place → place < 20 → ⊥) → is_key (get_or (field_symbols (address_content key) 22) place filler) ≡ false
unfolding is_key
outside_keys key place outside =
    let content = address_content key in
    elim (cases_lt place 12) [
      | inl h ↦ ap is_key (in_sync content 22 place h)
      | inr sync ↦
          elim (cases_lt place 15) [
            | inl h ↦ ap is_key (in_marks content 22 place sync h)
            | inr marks ↦
                elim (cases_eq place 15) [
                  | inl e ↦ ap is_key (in_symbols content 22 place marks (omega arith) ∙ sym (address_first key place e))
                  | inr other ↦
                      elim (cases_lt place 20) [
                        | inl h ↦ absurd (outside (omega arith) h)
                        | inr keys ↦
                            elim (cases_eq place 20) [
                              | inl e ↦ ap is_key (in_high content 22 place e)
                              | inr high ↦
                                  elim (cases_eq place 21) [
                                    | inl e ↦ ap is_key (in_low content 22 place e)
                                    | inr low ↦ ap is_key (in_gap content 22 place (omega arith))
                                  ]
                            ]
                      ]
                ]
          ]
    ]

pub address_not_asked : (key : Chrn) (more left : List Symbol) (place : ℕ) → place < 44 → left ≡ drop place (field_symbols (address_content key) 22) ++ more → (15 < place → place < 20 → ⊥) → AsksKey left → ⊥
address_not_asked key more left place short left_is outside =
    let field = field_symbols (address_content key) 22 in
    let within : place < length field = omega (arith, length-address key) in
    not_asked field more left place within left_is (outside_keys key place outside)

-- ---- the parts together

pub left_some : (part : TrackPart) (sectors size gap3 fill place check : ℕ) (left : List Symbol) → place < words_of_part part size gap3 → IsInPart part sectors size gap3 fill place check left → (part ≡ End → ⊥) → left ≡ [] → ⊥
left_some Start sectors size gap3 fill place check left within h other =
    let short : place < length before_sectors = omega (arith, length-start) in
    not_empty before_sectors _ left place short h.left_is
left_some Address sectors size gap3 fill place check left within h other =
    let short : place < length (field_symbols (address_content h.key) 22) = omega (arith, length-address h.key) in
    not_empty (field_symbols (address_content h.key) 22) _ left place short h.left_is
left_some Data sectors size gap3 fill place check left within h other =
    let short : place < length (field_symbols (data_content size fill) gap3) = omega (arith, length-data size gap3 fill) in
    not_empty (field_symbols (data_content size fill) gap3) _ left place short h.left_is
left_some End sectors size gap3 fill place check left within h other = absurd (other refl)

pub asked : (part : TrackPart) (sectors size gap3 fill place check : ℕ) (left : List Symbol) → part ≡ Address → 15 < place → place < 20 → IsInPart part sectors size gap3 fill place check left → AsksKey left
asked Address sectors size gap3 fill place check left is low high h = address_asked h.key _ left place h.left_is low high
asked _ sectors size gap3 fill place check left is low high h = absurd (cc is)

pub only_asked : (part : TrackPart) (sectors size gap3 fill place check : ℕ) (left : List Symbol) → (part ≡ Address → 15 < place → place < 20 → ⊥) → place < words_of_part part size gap3 → IsInPart part sectors size gap3 fill place check left → AsksKey left → ⊥
only_asked Start sectors size gap3 fill place check left other within h =
    let short : place < length before_sectors = omega (arith, length-start) in
    not_asked before_sectors _ left place short h.left_is (no_keys-start place)
only_asked Address sectors size gap3 fill place check left other within h =
    address_not_asked h.key _ left place within h.left_is (other refl)
only_asked Data sectors size gap3 fill place check left other within h =
    let short : place < length (field_symbols (data_content size fill) gap3) = omega (arith, length-data size gap3 fill) in
    not_asked (field_symbols (data_content size fill) gap3) _ left place short h.left_is (no_keys-data size gap3 fill place)
only_asked End sectors size gap3 fill place check left other within h = end_not_asked left h

-- the next part, after the last word of one
pub next_sector : (sectors size gap3 fill place check : ℕ) (keys : List Chrn) (left : List Symbol) → length keys ≡ sectors → 0 < sectors → left ≡ sectors_symbols size gap3 fill keys → IsInAddress (sectors - 1) size gap3 fill 0 check left
next_sector sectors size gap3 fill place check [] left count some e = absurd (omega arith)
next_sector sectors size gap3 fill place check (key ∷ keys) left count some e = record {
  key = key;
  keys = keys;
  count = omega arith;
  checked = λ low. absurd (omega arith);
  left_is = e ∙ sectors-cons size gap3 fill key keys;
}

pub no_sector : (size gap3 fill : ℕ) (keys : List Chrn) (left : List Symbol) → length keys ≡ 0 → left ≡ sectors_symbols size gap3 fill keys → left ≡ []
no_sector size gap3 fill [] left count e = e ∙ sectors_nil size gap3 fill
no_sector size gap3 fill (key ∷ keys) left count e = absurd (omega arith)

pub behind_sector : (part : TrackPart) (sectors size gap3 fill place check : ℕ) (left : List Symbol) → (part ≡ Address → ⊥) → (part ≡ End → ⊥) → words_of_part part size gap3 ≤ place + 1 → IsInPart part sectors size gap3 fill (place + 1) check left → HasSectors sectors size gap3 fill left
behind_sector Start sectors size gap3 fill place check left a b all h =
    let past : length before_sectors ≤ place + 1 = omega (arith, length-start) in
    (h.keys, h.count, behind_is before_sectors _ left (place + 1) past h.left_is)
behind_sector Address sectors size gap3 fill place check left a b all h = absurd (a refl)
behind_sector Data sectors size gap3 fill place check left a b all h =
    let past : length (field_symbols (data_content size fill) gap3) ≤ place + 1 = omega (arith, length-data size gap3 fill) in
    (h.keys, h.count, behind_is (field_symbols (data_content size fill) gap3) _ left (place + 1) past h.left_is)
behind_sector End sectors size gap3 fill place check left a b all h = absurd (b refl)

pub behind_address : (part : TrackPart) (sectors size gap3 fill place check : ℕ) (left : List Symbol) → part ≡ Address → words_of_part part size gap3 ≤ place + 1 → IsInPart part sectors size gap3 fill (place + 1) check left → IsInData sectors size gap3 fill 0 check left
behind_address Address sectors size gap3 fill place check left is all h =
    let past : length (field_symbols (address_content h.key) 22) ≤ place + 1 = omega (arith, length-address h.key) in
    record {
      keys = h.keys;
      count = h.count;
      checked = λ low. absurd (omega arith);
      left_is = behind_is (field_symbols (address_content h.key) 22) _ left (place + 1) past h.left_is;
    }
behind_address _ sectors size gap3 fill place check left is all h = absurd (cc is)

pub at_end : (part : TrackPart) (sectors size gap3 fill place check : ℕ) (left : List Symbol) → part ≡ End → IsInPart part sectors size gap3 fill place check left → left ≡ []
at_end End sectors size gap3 fill place check left is h = h
at_end _ sectors size gap3 fill place check left is h = absurd (cc is)

-- ---- the symbol that the code takes, and the CRC after it

-- what a call for a symbol of a field says
abbrev pub IsFieldSymbol : Symbol → ℕ → ℕ → Symbol → ℕ → Type 0
IsFieldSymbol result place count inner check =
    (symbols : List Symbol) (behind : ℕ) → length symbols ≡ count
    → (15 ≤ place → place < 15 + count → inner ≡ get_or symbols (place - 15) filler)
    → GoesOn place check symbols
    → result ≡ get_or (field_symbols symbols behind) place filler

-- what a call for the CRC after a symbol says
abbrev pub IsCheckBehind : ℕ → ℕ → ℕ → Symbol → ℕ → Type 0
IsCheckBehind result place count symbol check =
    (symbols : List Symbol) (behind : ℕ) → length symbols ≡ count
    → symbol ≡ get_or (field_symbols symbols behind) place filler
    → GoesOn place check symbols → GoesOn (place + 1) result symbols

pub symbol_in_start : (part : TrackPart) (sectors size gap3 fill place check : ℕ) (left : List Symbol) (result : Symbol) → part ≡ Start → place < words_of_part part size gap3 → IsInPart part sectors size gap3 fill place check left → result ≡ get_or before_sectors place filler → result ≡ next_symbol left
symbol_in_start Start sectors size gap3 fill place check left result is within h e =
    let short : place < length before_sectors = omega (arith, length-start) in
    e ∙ sym (first_is before_sectors _ left place short h.left_is)
symbol_in_start _ sectors size gap3 fill place check left result is within h e = absurd (cc is)

pub symbol_in_address : (part : TrackPart) (sectors size gap3 fill place check byte : ℕ) (left : List Symbol) (inner result : Symbol) → part ≡ Address → place < words_of_part part size gap3 → IsInPart part sectors size gap3 fill place check left → KeyIs left byte → ((place ≡ 15) × (inner ≡ Byte 0xFE)) ⊎ ((place ≡ 15 → ⊥) × (inner ≡ Key byte)) → IsFieldSymbol result place 5 inner check → result ≡ next_symbol left
symbol_in_address Address sectors size gap3 fill place check byte left inner result is within h key cases e =
    let field = field_symbols (address_content h.key) 22 in
    let short : place < length field = omega (arith, length-address h.key) in
    e (address_content h.key) 22 refl
    (λ low high.
    elim cases [
      | inl first ↦ first.1 ∙ address_first h.key place first.0
      | inr other ↦ other.1 ∙ address_inner h.key _ left place byte within h.left_is key other.0 low high
    ])
    h.checked
    ∙ sym (first_is field _ left place short h.left_is)
symbol_in_address _ sectors size gap3 fill place check byte left inner result is within h key cases e = absurd (cc is)

pub symbol_in_data : (part : TrackPart) (sectors size gap3 fill place check count inner : ℕ) (left : List Symbol) (result : Symbol) → part ≡ Data → count ≡ size + 1 → place < words_of_part part size gap3 → IsInPart part sectors size gap3 fill place check left → ((place ≡ 15) × (inner ≡ 0xFB)) ⊎ ((place ≡ 15 → ⊥) × (inner ≡ fill)) → IsFieldSymbol result place count (Byte inner) check → result ≡ next_symbol left
symbol_in_data Data sectors size gap3 fill place check count inner left result is counted within h cases e =
    let field = field_symbols (data_content size fill) gap3 in
    let short : place < length field = omega (arith, length-data size gap3 fill) in
    e (data_content size fill) gap3 (length-data_content size fill ∙ sym counted)
    (λ low high.
    elim cases [
      | inl first ↦ ap (λ b. Byte b) first.1 ∙ data_first size fill place first.0
      | inr other ↦ ap (λ b. Byte b) other.1 ∙ data_inner size fill place other.0 low (omega arith)
    ])
    h.checked
    ∙ sym (first_is field _ left place short h.left_is)
symbol_in_data _ sectors size gap3 fill place check count inner left result is counted within h cases e = absurd (cc is)

pub check_in_address : (part : TrackPart) (sectors size gap3 fill place check : ℕ) (left : List Symbol) (symbol : Symbol) (result : ℕ) → part ≡ Address → place < words_of_part part size gap3 → IsInPart part sectors size gap3 fill place check left → symbol ≡ next_symbol left → IsCheckBehind result place 5 symbol check → IsInPart part sectors size gap3 fill (place + 1) result (drop 1 left)
check_in_address Address sectors size gap3 fill place check left symbol result is within h next e =
    let field = field_symbols (address_content h.key) 22 in
    let short : place < length field = omega (arith, length-address h.key) in
    record {
      key = h.key;
      keys = h.keys;
      count = h.count;
      checked = e (address_content h.key) 22 refl (next ∙ first_is field _ left place short h.left_is) h.checked;
      left_is = rest_is field _ left place short h.left_is;
    }
check_in_address _ sectors size gap3 fill place check left symbol result is within h next e = absurd (cc is)

pub check_in_data : (part : TrackPart) (sectors size gap3 fill place check count : ℕ) (left : List Symbol) (symbol : Symbol) (result : ℕ) → part ≡ Data → count ≡ size + 1 → place < words_of_part part size gap3 → IsInPart part sectors size gap3 fill place check left → symbol ≡ next_symbol left → IsCheckBehind result place count symbol check → IsInPart part sectors size gap3 fill (place + 1) result (drop 1 left)
check_in_data Data sectors size gap3 fill place check count left symbol result is counted within h next e =
    let field = field_symbols (data_content size fill) gap3 in
    let short : place < length field = omega (arith, length-data size gap3 fill) in
    record {
      keys = h.keys;
      count = h.count;
      checked = e (data_content size fill) gap3 (length-data_content size fill ∙ sym counted) (next ∙ first_is field _ left place short h.left_is) h.checked;
      left_is = rest_is field _ left place short h.left_is;
    }
check_in_data _ sectors size gap3 fill place check count left symbol result is counted within h next e = absurd (cc is)

pub check_in_others : (part : TrackPart) (sectors size gap3 fill place check : ℕ) (left : List Symbol) → (part ≡ Start) ⊎ (part ≡ End) → place < words_of_part part size gap3 → IsInPart part sectors size gap3 fill place check left → IsInPart part sectors size gap3 fill (place + 1) check (drop 1 left)
check_in_others Start sectors size gap3 fill place check left is within h =
    let short : place < length before_sectors = omega (arith, length-start) in
    record { keys = h.keys; count = h.count; left_is = rest_is before_sectors _ left place short h.left_is }
check_in_others End sectors size gap3 fill place check left is within h = ap (drop 1) h
check_in_others _ sectors size gap3 fill place check left is within h = absurd (elim is [ inl e ↦ cc e | inr e ↦ cc e ])

pub behind_start_or_data : (part : TrackPart) (sectors size gap3 fill place check : ℕ) (left : List Symbol) → (part ≡ Start) ⊎ (part ≡ Data) → words_of_part part size gap3 ≤ place + 1 → IsInPart part sectors size gap3 fill (place + 1) check left → HasSectors sectors size gap3 fill left
behind_start_or_data part sectors size gap3 fill place check left is all h =
    behind_sector part sectors size gap3 fill place check left
    (λ e. elim is [ inl f ↦ let g = sym f ∙ e in cc g | inr f ↦ let g = sym f ∙ e in cc g ])
    (λ e. elim is [ inl f ↦ let g = sym f ∙ e in cc g | inr f ↦ let g = sym f ∙ e in cc g ])
    all h

pub needs_in_address : (test : Bool) (part : TrackPart) (sectors size gap3 fill place check : ℕ) (left : List Symbol) → part ≡ Address → (IsTrue test ↔ (15 < place) × (place < 20)) → place < words_of_part part size gap3 → IsInPart part sectors size gap3 fill place check left → IsTrue test ↔ AsksKey left
needs_in_address test part sectors size gap3 fill place check left is says within h = (
  λ e. asked part sectors size gap3 fill place check left is (says.0 e).0 (says.0 e).1 h,
  λ asks.
      elim (cases_lt 15 place) [
        | inl low ↦
            elim (cases_lt place 20) [
              | inl high ↦ says.1 (low, high)
              | inr over ↦ absurd (only_asked part sectors size gap3 fill place check left (λ address above below. omega arith) within h asks)
            ]
        | inr under ↦ absurd (only_asked part sectors size gap3 fill place check left (λ address above below. omega arith) within h asks)
      ],
)

pub needs_not : (part : TrackPart) (sectors size gap3 fill place check : ℕ) (left : List Symbol) → (part ≡ Address → ⊥) → place < words_of_part part size gap3 → IsInPart part sectors size gap3 fill place check left → IsTrue false ↔ AsksKey left
needs_not part sectors size gap3 fill place check left other within h = (
  λ e. absurd (false≢true e),
  λ asks. absurd (only_asked part sectors size gap3 fill place check left (λ address above below. other address) within h asks),
)
