-- A word of a layout that a format writes.
use Rattle.std.proofs.Common.{◌-◌, ◌≡◌, ◌↔◌, ℕ, suc, ◌+◌, ◌*◌, ◌≤◌, Bool, true, false, IsTrue, List, [], ◌∷◌, ◌++◌, length, drop, slice_index, refl, sym, ap, subst, ◌∙◌, append_assoc, arith, length-append}
use Rattle.fdc_stages.proofs.Common.{false≢true, append-nil, drop-drop, drop_all, length-drop, length-replicate, flat_map, Chrn, Symbol, Byte, Key, content_size, gap, sync, marks, check_symbols, address_content, data_content, sector_symbols, track_symbols, recorded, word_after, symbol_bit, next_symbol, laid_words, Fits, with_word, key_bytes, AsksKey, KeyIs, filled, FormatStream, length-key_bytes, asked-track, asked_first, asked_same, recorded_more, recorded_none, handed_with, IsFirstOf, Numbers, AreKeys, IsLaidTo, IsLaid, StreamTakes, symbols_of, keys_from, IsFirstOfLayout}
use Rattle.track_model.specs.Layouts.{field_symbols, before_sectors, sectors_symbols, lay}
use Rattle.track_format.specs.Keys.{asked_in}
use Rattle.track_format.specs.Streams.{Gives}
use Rattle.fdc_stages.proofs.Keyed.{some_keys}

-- ---- how long a layout is

length-field : (symbols : List Symbol) (count : ℕ) → length (field_symbols symbols count) ≡ length symbols + 17 + count
unfolding field_symbols
length-field symbols count =
    let tail = check_symbols symbols ++ gap count in
    omega (arith, length-append sync (marks 0x4489 ++ (symbols ++ tail)), length-append (marks 0x4489) (symbols ++ tail), length-append symbols tail, length-append (check_symbols symbols) (gap count), length-replicate {A = Symbol} count)

length-sectors : (size gap3 fill : ℕ) (keys : List Chrn) → length (sectors_symbols size gap3 fill keys) ≡ length keys * (62 + size + gap3)
unfolding sectors_symbols
length-sectors size gap3 fill [] = omega arith
length-sectors size gap3 fill (key ∷ keys) =
    let address = field_symbols (address_content key) 22 in
    let content = field_symbols (data_content size fill) gap3 in
    let others = flat_map (sector_symbols size gap3 fill) keys in
    let many = length-sectors size gap3 fill keys in
    let long : length (sectors_symbols size gap3 fill (key ∷ keys)) ≡ 62 + size + gap3 + length keys * (62 + size + gap3) =
    omega (arith, many, length-append (address ++ content) others, length-append address content, length-field (address_content key) 22, length-field (data_content size fill) gap3, length-replicate size (Byte fill)) in
    long ∙ (grind arith)

pub length-before : length before_sectors ≡ 146
unfolding before_sectors
length-before = refl

pub length-track : (keys : List Chrn) (n gap3 fill : ℕ) → length (track_symbols keys n gap3 fill) ≡ laid_words (length keys) n gap3
length-track keys n gap3 fill =
    let sectors = sectors_symbols (content_size n) gap3 fill keys in
    omega (arith, length-append before_sectors sectors, length-before, length-sectors (content_size n) gap3 fill keys)

-- ---- the words so far

pub fresh_laid : (numbers : Numbers) (stream : FormatStream) → ((keys : List Chrn) → length keys ≡ numbers.sectors → Gives stream false (symbols_of numbers keys)) → IsLaid [] numbers [] stream
fresh_laid numbers stream gives = record {
  few = omega arith;
  laid = λ keys rest are.
      let symbols = symbols_of numbers keys in (
        false,
        symbols,
        record {
          gives = gives keys are.many;
          left_is = refl;
          asks = asked-track keys numbers.n numbers.gap3 numbers.fill ∙ are.bytes;
          goes_on = λ more. let count : more ≡ 0 + more = omega arith in ap (λ k. recorded false (filled k symbols)) count;
        },
      );
}

-- a byte that is taken is the first of the bytes that were still to come
with_taken : (numbers : Numbers) (handed : List ℕ) (byte : ℕ) (keys : List Chrn) (rest : List ℕ) → AreKeys numbers (with_word handed byte) keys rest → AreKeys numbers handed keys (byte ∷ rest)
with_taken numbers handed byte keys rest are = record { many = are.many; bytes = are.bytes ∙ append_assoc handed (byte ∷ []) rest }

module _ (old new : FormatStream) (byte word : ℕ) where
  abbrev pub Goes : Type 0
  Goes = (last : Bool) (left : List Symbol) → Gives old last left → KeyIs left byte → (word ≡ word_after last (next_symbol left)) × Gives new (symbol_bit (next_symbol left)) (drop 1 left)

  laid_next : (words : List ℕ) (symbols : List Symbol) (rest after : List ℕ) (last : Bool) (left : List Symbol) → Goes → IsLaidTo words symbols rest old last left → KeyIs left byte → asked_in (drop 1 left) ≡ after → IsLaidTo (with_word words word) symbols after new (symbol_bit (next_symbol left)) (drop 1 left)
  laid_next words symbols rest after last left goes was is asks =
      let step = goes last left was.gives is in
      let long : length (with_word words word) ≡ length words + 1 = length-append words (word ∷ []) in
      record {
        gives = step.1;
        left_is = ap (drop 1) was.left_is ∙ drop-drop 1 (length words) symbols ∙ ap (λ k. drop k symbols) (sym long);
        asks = asks;
        goes_on = λ more.
            let count : length words + suc more ≡ length (with_word words word) + more = omega arith in
            ap (λ w. (words ++ w ∷ []) ++ recorded (symbol_bit (next_symbol left)) (filled more (drop 1 left))) step.0
            ∙ sym (recorded_more words last left more)
            ∙ was.goes_on (suc more)
            ∙ ap (λ k. recorded false (filled k symbols)) count;
      }

taken_is : (left : List Symbol) (key other byte : ℕ) → next_symbol left ≡ Key key → next_symbol left ≡ Key other → byte ≡ key → byte ≡ other
taken_is left key other byte is e taken =
    let same : key ≡ other = cc in
    taken ∙ same

-- if the stream takes a byte, the sector IDs have at least one byte more than was handed in
room : (words handed : List ℕ) (numbers : Numbers) (old : FormatStream) → IsLaid words numbers handed old → StreamTakes old true → length handed + 1 ≤ 4 * numbers.sectors
room words handed numbers old was takes =
    let some = some_keys numbers handed was.few in
    let keys = keys_from numbers.sectors handed in
    let at = was.laid keys some.0 some.1 in
    let asks = (takes at.0 at.1 at.2.gives).0 refl in
    let first : asked_in at.1 ≡ asks.0 ∷ asked_in (drop 1 at.1) = asked_first at.1 asks.0 asks.1 in
    let long : length some.0 ≡ suc (length (asked_in (drop 1 at.1))) = ap length (sym at.2.asks ∙ first) in
    let whole : length (flat_map key_bytes keys) ≡ length handed + length some.0 = ap length some.1.bytes ∙ length-append handed some.0 in
    let four = length-key_bytes keys in
    omega (arith, some.1.many)

pub next_laid : (words handed : List ℕ) (numbers : Numbers) (old new : FormatStream) (byte word : ℕ) (takes : Bool) → Goes old new byte word → StreamTakes old takes → IsLaid words numbers handed old → IsLaid (with_word words word) numbers (handed_with takes byte handed) new
next_laid words handed numbers old new byte word true goes takes was = record {
  few = omega (arith, length-append handed (byte ∷ []), room words handed numbers old was takes);
  laid = λ keys rest are.
      let at = was.laid keys (byte ∷ rest) (with_taken numbers handed byte keys rest are) in
      let asks = (takes at.0 at.1 at.2.gives).0 refl in
      let first : byte ∷ rest ≡ asks.0 ∷ asked_in (drop 1 at.1) = sym at.2.asks ∙ asked_first at.1 asks.0 asks.1 in
      let is : KeyIs at.1 byte = λ key e. taken_is at.1 asks.0 key byte asks.1 e (ap (λ xs. slice_index xs 0) first) in
      (symbol_bit (next_symbol at.1), drop 1 at.1, laid_next old new byte word words (symbols_of numbers keys) (byte ∷ rest) rest at.0 at.1 goes at.2 is (sym (ap (drop 1) first)));
}
next_laid words handed numbers old new byte word false goes takes was = record {
  few = was.few;
  laid = λ keys rest are.
      let at = was.laid keys rest are in
      let none : AsksKey at.1 → ⊥ = λ asks. false≢true ((takes at.0 at.1 at.2.gives).1 asks) in
      let is : KeyIs at.1 byte = λ key e. absurd (none (key, e)) in
      (symbol_bit (next_symbol at.1), drop 1 at.1, laid_next old new byte word words (symbols_of numbers keys) rest rest at.0 at.1 goes at.2 is (asked_same at.1 none ∙ at.2.asks));
}

-- the words are the first of the layout
module _ (words : List ℕ) (numbers : Numbers) (keys : List Chrn) (rest : List ℕ) (stream : FormatStream) (last : Bool) (left : List Symbol) (at : IsLaidTo words (symbols_of numbers keys) rest stream last left) where
  abbrev layout_of : ℕ → List ℕ
  layout_of turn = lay keys numbers.n numbers.gap3 numbers.fill turn

  all_laid : words ≡ layout_of (length words)
  unfolding lay
  all_laid =
      let count : length words + 0 ≡ length words = omega arith in
      sym (append-nil words)
      ∙ ap (λ xs. words ++ xs) (sym (recorded_none last left))
      ∙ at.goes_on 0
      ∙ ap (λ k. recorded false (filled k (symbols_of numbers keys))) count

  first_laid : (turn : ℕ) → length words ≤ turn → IsFirstOf words (layout_of turn)
  unfolding lay
  first_laid turn more =
      let others = turn - length words in
      let count : turn ≡ length words + others = omega arith in
      (recorded last (filled others left), ap (λ k. recorded false (filled k (symbols_of numbers keys))) count ∙ sym (at.goes_on others))

pub laid_words_are : (words handed : List ℕ) (numbers : Numbers) (stream : FormatStream) → IsLaid words numbers handed stream → (keys : List Chrn) (rest : List ℕ) → AreKeys numbers handed keys rest → IsFirstOfLayout words numbers keys
laid_words_are words handed numbers stream was keys rest are =
    let at = was.laid keys rest are in
    record { laid = all_laid words numbers keys rest stream at.0 at.1 at.2; first = first_laid words numbers keys rest stream at.0 at.1 at.2 }

-- ---- whether the words are the whole layout

nothing_asked : (left : List Symbol) → left ≡ [] → asked_in left ≡ []
unfolding asked_in
nothing_asked [] is = refl
nothing_asked (symbol ∷ left) is = absurd (cc is)

-- whether the stream has given the whole layout
abbrev pub StreamIsWhole : FormatStream → Bool → Type 0
StreamIsWhole stream whole = (last : Bool) (left : List Symbol) → Gives stream last left → IsTrue whole ↔ left ≡ []

pub whole_fits : (words handed : List ℕ) (numbers : Numbers) (stream : FormatStream) → StreamIsWhole stream true → IsLaid words numbers handed stream → (keys : List Chrn) × AreKeys numbers handed keys [] × Fits keys numbers.n numbers.gap3 (length words)
whole_fits words handed numbers stream whole was =
    let some = some_keys numbers handed was.few in
    let keys = keys_from numbers.sectors handed in
    let at = was.laid keys some.0 some.1 in
    let over : at.1 ≡ [] = (whole at.0 at.1 at.2.gives).0 refl in
    let none : some.0 ≡ [] = sym at.2.asks ∙ nothing_asked at.1 over in
    let symbols = symbols_of numbers keys in
    let short : length (drop (length words) symbols) ≡ 0 = ap length (sym at.2.left_is ∙ over) in
    (keys, subst (AreKeys numbers handed keys) none some.1, omega (arith, short, length-drop (length words) symbols, length-track keys numbers.n numbers.gap3 numbers.fill))

pub part_misfits : (words handed : List ℕ) (numbers : Numbers) (stream : FormatStream) → StreamIsWhole stream false → IsLaid words numbers handed stream → (keys : List Chrn) → length keys ≡ numbers.sectors → Fits keys numbers.n numbers.gap3 (length words) → ⊥
part_misfits words handed numbers stream whole was others many fits =
    let some = some_keys numbers handed was.few in
    let keys = keys_from numbers.sectors handed in
    let at = was.laid keys some.0 some.1 in
    let symbols = symbols_of numbers keys in
    let same : laid_words (length keys) numbers.n numbers.gap3 ≡ laid_words (length others) numbers.n numbers.gap3 = ap (λ k. laid_words k numbers.n numbers.gap3) (some.1.many ∙ sym many) in
    let long : length symbols ≤ length words = omega (arith, same, fits, length-track keys numbers.n numbers.gap3 numbers.fill) in
    false≢true ((whole at.0 at.1 at.2.gives).1 (at.2.left_is ∙ drop_all (length words) symbols long))

-- ---- whether a byte is taken

same_bool : (one other : Bool) (P : Type 0) → IsTrue one ↔ P → IsTrue other ↔ P → one ≡ other
same_bool true false P is too = sym (too.1 (is.0 refl))
same_bool false true P is too = is.1 (too.0 refl)
same_bool _ _ P is too = refl

pub same_takes : (words handed : List ℕ) (numbers : Numbers) (stream : FormatStream) (one other : Bool) → IsLaid words numbers handed stream → StreamTakes stream one → StreamTakes stream other → one ≡ other
same_takes words handed numbers stream one other was is too =
    let some = some_keys numbers handed was.few in
    let at = was.laid (keys_from numbers.sectors handed) some.0 some.1 in
    same_bool one other (AsksKey at.1) (is at.0 at.1 at.2.gives) (too at.0 at.1 at.2.gives)
