-- How many of the first words of a layout are bytes of sector IDs: as many as were handed in, whatever the sector IDs are.
use Rattle.std.proofs.Common.{◌≡◌, ℕ, zero, suc, ◌+◌, ◌-◌, ◌≤◌, Bool, true, false, List, [], ◌∷◌, ◌++◌, length, map, take, drop, refl, sym, ap, ◌∙◌, arith, length-append}
use Rattle.std.proofs.lemmas.List.{map-append, take-map, take-append-drop}
use Rattle.fdc_stages.proofs.Common.{drop-drop, flat_map, Chrn, Symbol, Byte, Key, content_size, sector_symbols, FormatStream, asked-track, asked_first, Numbers, keys_from, symbols_of, IsLaid, StreamTakes}
use Rattle.fdc_stages.specs.Among.{keys_among}
use Rattle.track_format.proofs.Asked.{asked-append}
use Rattle.track_format.specs.Keys.{asked_in}
use Rattle.track_model.specs.Layouts.{field_symbols, before_sectors, sectors_symbols}
use Rattle.track_model.specs.declared.symbol.Symbol.TheVariants.{Mark}
use Rattle.fdc_stages.proofs.Keyed.{some_keys}

-- ---- whatever the sector IDs are

abbrev is_key : Symbol → Bool
is_key (Key byte) = true
is_key _ = false

abbrev count_true : List Bool → ℕ
count_true [] = 0
count_true (true ∷ rest) = suc (count_true rest)
count_true (false ∷ rest) = count_true rest

asked_count : (symbols : List Symbol) → length (asked_in symbols) ≡ count_true (map is_key symbols)
unfolding asked_in
asked_count [] = refl
asked_count (Byte byte ∷ rest) = asked_count rest
asked_count (Key byte ∷ rest) = ap suc (asked_count rest)
asked_count (Mark cells ∷ rest) = asked_count rest

sector_kinds : (size gap3 fill : ℕ) (key other : Chrn) → map is_key (sector_symbols size gap3 fill key) ≡ map is_key (sector_symbols size gap3 fill other)
unfolding field_symbols
sector_kinds size gap3 fill key other = refl

kinds : (size gap3 fill : ℕ) (keys others : List Chrn) → length keys ≡ length others → map is_key (sectors_symbols size gap3 fill keys) ≡ map is_key (sectors_symbols size gap3 fill others)
unfolding sectors_symbols
kinds size gap3 fill [] [] same = refl
kinds size gap3 fill [] (other ∷ others) same = absurd (omega (arith, same))
kinds size gap3 fill (key ∷ keys) [] same = absurd (omega (arith, same))
kinds size gap3 fill (key ∷ keys) (other ∷ others) same =
    let one = sector_symbols size gap3 fill key in
    let two = sector_symbols size gap3 fill other in
    map-append is_key one (flat_map (sector_symbols size gap3 fill) keys)
    ∙ ap (λ first. first ++ map is_key (flat_map (sector_symbols size gap3 fill) keys)) (sector_kinds size gap3 fill key other)
    ∙ ap (λ rest. map is_key two ++ rest) (kinds size gap3 fill keys others (omega (arith, same)))
    ∙ sym (map-append is_key two (flat_map (sector_symbols size gap3 fill) others))

track_kinds : (numbers : Numbers) (keys others : List Chrn) → length keys ≡ length others → map is_key (symbols_of numbers keys) ≡ map is_key (symbols_of numbers others)
track_kinds numbers keys others same =
    let size = content_size numbers.n in
    map-append is_key before_sectors (sectors_symbols size numbers.gap3 numbers.fill keys)
    ∙ ap (λ rest. map is_key before_sectors ++ rest) (kinds size numbers.gap3 numbers.fill keys others same)
    ∙ sym (map-append is_key before_sectors (sectors_symbols size numbers.gap3 numbers.fill others))

count_is : (numbers : Numbers) (keys : List Chrn) (count : ℕ) → keys_among numbers keys count ≡ count_true (take count (map is_key (symbols_of numbers keys)))
count_is numbers keys count =
    asked_count (take count (symbols_of numbers keys)) ∙ ap count_true (sym (take-map is_key count (symbols_of numbers keys)))

keys_alike : (numbers : Numbers) (keys others : List Chrn) (count : ℕ) → length keys ≡ length others → keys_among numbers keys count ≡ keys_among numbers others count
keys_alike numbers keys others count same =
    count_is numbers keys count ∙ ap (λ all. count_true (take count all)) (track_kinds numbers keys others same) ∙ sym (count_is numbers others count)

true_more : (all : List Bool) (count more : ℕ) → count ≤ more → count_true (take count all) ≤ count_true (take more all)
true_more all zero more few = omega arith
true_more [] (suc count) (suc more) few = omega arith
true_more (true ∷ all) (suc count) (suc more) few = let rest = true_more all count more (omega arith) in omega (arith, rest)
true_more (false ∷ all) (suc count) (suc more) few = true_more all count more (omega arith)
true_more all (suc count) zero few = absurd (omega arith)

true_bound : (all : List Bool) (count more : ℕ) → count ≤ more → count_true (take more all) ≤ count_true (take count all) + (more - count)
true_bound [] zero zero few = omega arith
true_bound [] zero (suc more) few = omega arith
true_bound (true ∷ all) zero (suc more) few = let rest = true_bound all zero more (omega arith) in omega (arith, rest)
true_bound (false ∷ all) zero (suc more) few = let rest = true_bound all zero more (omega arith) in omega (arith, rest)
true_bound (first ∷ all) zero zero few = omega arith
true_bound [] (suc count) (suc more) few = omega arith
true_bound (true ∷ all) (suc count) (suc more) few = let rest = true_bound all count more (omega arith) in omega (arith, rest)
true_bound (false ∷ all) (suc count) (suc more) few = let rest = true_bound all count more (omega arith) in omega (arith, rest)
true_bound all (suc count) zero few = absurd (omega arith)

-- more words have no fewer
pub keys_grow : (numbers : Numbers) (keys : List Chrn) (count more : ℕ) → count ≤ more → keys_among numbers keys count ≤ keys_among numbers keys more
keys_grow numbers keys count more few =
    let grows = true_more (map is_key (symbols_of numbers keys)) count more few in
    let one = count_is numbers keys count in
    let two = count_is numbers keys more in
    omega (arith, grows, one, two)

-- each word has one at most
pub keys_bound : (numbers : Numbers) (keys : List Chrn) (count more : ℕ) → count ≤ more → keys_among numbers keys more ≤ keys_among numbers keys count + (more - count)
keys_bound numbers keys count more few =
    let bound = true_bound (map is_key (symbols_of numbers keys)) count more few in
    let one = count_is numbers keys count in
    let two = count_is numbers keys more in
    omega (arith, bound, one, two)

-- ---- the words of a layout that were written

parts : (symbols : List Symbol) (count : ℕ) → length (asked_in symbols) ≡ length (asked_in (take count symbols)) + length (asked_in (drop count symbols))
parts symbols count =
    ap (λ all. length (asked_in all)) (sym (take-append-drop count symbols))
    ∙ ap length (asked-append (take count symbols) (drop count symbols))
    ∙ length-append (asked_in (take count symbols)) (asked_in (drop count symbols))

module _ (words handed : List ℕ) (numbers : Numbers) (stream : FormatStream) (was : IsLaid words numbers handed stream) (others : List Chrn) (many : length others ≡ numbers.sectors) where
  -- as many bytes of sector IDs are among the words as were handed in
  pub laid_among : keys_among numbers others (length words) ≡ length handed
  laid_among =
      let some = some_keys numbers handed was.few in
      let keys : List Chrn = keys_from numbers.sectors handed in
      let at = was.laid keys some.0 some.1 in
      let symbols : List Symbol = symbols_of numbers keys in
      let left : length (asked_in (drop (length words) symbols)) ≡ length some.0 = ap (λ rest. length (asked_in rest)) (sym at.2.left_is) ∙ ap length at.2.asks in
      let whole : length (asked_in symbols) ≡ length handed + length some.0 = ap length (asked-track keys numbers.n numbers.gap3 numbers.fill ∙ some.1.bytes) ∙ length-append handed some.0 in
      let split = parts symbols (length words) in
      let here : keys_among numbers keys (length words) ≡ length handed = omega (arith, left, whole, split) in
      keys_alike numbers others keys (length words) (many ∙ sym some.1.many) ∙ here

  -- the next word is one of them, if it takes a byte
  pub takes_among : StreamTakes stream true → keys_among numbers others (length words + 1) ≡ length handed + 1
  takes_among takes =
      let some = some_keys numbers handed was.few in
      let keys : List Chrn = keys_from numbers.sectors handed in
      let at = was.laid keys some.0 some.1 in
      let symbols : List Symbol = symbols_of numbers keys in
      let (key, asks) = (takes at.0 at.1 at.2.gives).0 refl in
      let next : drop 1 at.1 ≡ drop (length words + 1) symbols = ap (drop 1) at.2.left_is ∙ drop-drop 1 (length words) symbols in
      let first : length some.0 ≡ suc (length (asked_in (drop (length words + 1) symbols))) = ap length (sym at.2.asks ∙ asked_first at.1 key asks) ∙ ap (λ rest. suc (length (asked_in rest))) next in
      let whole : length (asked_in symbols) ≡ length handed + length some.0 = ap length (asked-track keys numbers.n numbers.gap3 numbers.fill ∙ some.1.bytes) ∙ length-append handed some.0 in
      let split = parts symbols (length words + 1) in
      let here : keys_among numbers keys (length words + 1) ≡ length handed + 1 = omega (arith, first, whole, split) in
      keys_alike numbers others keys (length words + 1) (many ∙ sym some.1.many) ∙ here
