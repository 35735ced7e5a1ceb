-- The bytes of keys that a track asks for, one after the other.
use Rattle.std.proofs.Common.{◌≡◌, ℕ, zero, suc, ◌+◌, ◌-◌, ◌*◌, ◌/◌, ◌<◌, ◌≤◌, Bool, false, List, [], ◌∷◌, ◌++◌, length, get_or, drop, take, replicate, refl, sym, ap, ◌∙◌, append_assoc, arith}
use Rattle.track_format.proofs.Common.{length-append, get_or_append_left, get_or-append_right, get_or_past, get_or-drop, drop-drop, append-nil, flat_map, Chrn, Symbol, Byte, Key, Mark, gap, check_symbols, word_after, symbol_bit, address_content, data_content, sector_symbols, track_symbols, next_symbol, content_size, key_bytes, filled, AsksKey}
use Rattle.track_model.specs.Layouts.{recorded, field_symbols, before_sectors, sectors_symbols, lay}
use Rattle.track_format.specs.Keys.{asked_in}
use Rattle.track_format.proofs.Parts.{filler}

pub length-key_bytes : (keys : List Chrn) → length (flat_map key_bytes keys) ≡ 4 * length keys
length-key_bytes [] = refl
length-key_bytes (key ∷ keys) = omega (arith, length-key_bytes keys)

pub key_byte_at : (keys : List Chrn) (d : Chrn) (q r i : ℕ) → i ≡ 4 * q + r → r < 4 → q < length keys → get_or (flat_map key_bytes keys) i 0 ≡ get_or (key_bytes (get_or keys q d)) r 0
key_byte_at [] d q r i e small within = absurd (omega arith)
key_byte_at (key ∷ keys) d zero r i e small within =
    let f : i ≡ r = omega arith in
    ap (λ k. get_or (flat_map key_bytes (key ∷ keys)) k 0) f ∙ get_or_append_left (key_bytes key) (flat_map key_bytes keys) 0 r small
key_byte_at (key ∷ keys) d (suc q) r i e small within =
    get_or-append_right (key_bytes key) (flat_map key_bytes keys) 4 i 0 refl (omega arith)
    ∙ key_byte_at keys d q r (i - 4) (omega arith) small (omega arith)

pub no_key_byte : (keys : List Chrn) (i : ℕ) → length keys ≤ i / 4 → get_or (flat_map key_bytes keys) i 0 ≡ 0
no_key_byte keys i h = get_or_past (flat_map key_bytes keys) i 0 (omega (arith, length-key_bytes keys))

-- ---- the bytes that symbols ask for

pub asked-append : (first rest : List Symbol) → asked_in (first ++ rest) ≡ asked_in first ++ asked_in rest
unfolding asked_in
asked-append [] rest = refl
asked-append (Byte byte ∷ first) rest = asked-append first rest
asked-append (Key byte ∷ first) rest = ap (λ xs. byte ∷ xs) (asked-append first rest)
asked-append (Mark cells ∷ first) rest = asked-append first rest

asked-bytes : (count byte : ℕ) (rest : List Symbol) → asked_in (replicate count (Byte byte) ++ rest) ≡ asked_in rest
unfolding asked_in
asked-bytes zero byte rest = refl
asked-bytes (suc count) byte rest = asked-bytes count byte rest

asked-gap : (count : ℕ) → asked_in (gap count) ≡ []
unfolding asked_in
asked-gap zero = refl
asked-gap (suc count) = asked-gap count

asked-field : (symbols : List Symbol) (count : ℕ) → asked_in (field_symbols symbols count) ≡ asked_in (symbols ++ (check_symbols symbols ++ gap count))
unfolding asked_in field_symbols
asked-field symbols count = refl

asked-tail : (symbols : List Symbol) (count : ℕ) → asked_in (check_symbols symbols ++ gap count) ≡ []
unfolding asked_in
asked-tail symbols count = asked-gap count

asked-address : (key : Chrn) → asked_in (field_symbols (address_content key) 22) ≡ key_bytes key
unfolding asked_in
asked-address key = asked-field (address_content key) 22 ∙ ap (λ xs. key.c ∷ key.h ∷ key.r ∷ key.n ∷ xs) (asked-tail (address_content key) 22)

asked-data : (size gap3 fill : ℕ) → asked_in (field_symbols (data_content size fill) gap3) ≡ []
unfolding asked_in
asked-data size gap3 fill =
    asked-field (data_content size fill) gap3
    ∙ asked-bytes size fill (check_symbols (data_content size fill) ++ gap gap3)
    ∙ asked-tail (data_content size fill) gap3

asked-sectors : (size gap3 fill : ℕ) (keys : List Chrn) → asked_in (sectors_symbols size gap3 fill keys) ≡ flat_map key_bytes keys
unfolding asked_in sectors_symbols
asked-sectors size gap3 fill [] = refl
asked-sectors size gap3 fill (key ∷ keys) =
    let address = field_symbols (address_content key) 22 in
    let data_field = field_symbols (data_content size fill) gap3 in
    let others = flat_map (sector_symbols size gap3 fill) keys in
    asked-append (address ++ data_field) others
    ∙ ap (λ xs. xs ++ asked_in others) (asked-append address data_field ∙ ap (λ xs. xs ++ asked_in data_field) (asked-address key) ∙ ap (λ xs. key_bytes key ++ xs) (asked-data size gap3 fill))
    ∙ ap (λ xs. key_bytes key ++ xs) (asked-sectors size gap3 fill keys)

asked-start : asked_in before_sectors ≡ []
unfolding asked_in before_sectors
asked-start = refl

pub asked-track : (keys : List Chrn) (n gap3 fill : ℕ) → asked_in (track_symbols keys n gap3 fill) ≡ flat_map key_bytes keys
asked-track keys n gap3 fill =
    let sectors = sectors_symbols (content_size n) gap3 fill keys in
    asked-append before_sectors sectors
    ∙ ap (λ xs. xs ++ asked_in sectors) asked-start
    ∙ asked-sectors (content_size n) gap3 fill keys

-- the next byte that is asked for is the first of them
pub asked_first : (left : List Symbol) (key : ℕ) → next_symbol left ≡ Key key → asked_in left ≡ key ∷ asked_in (drop 1 left)
unfolding asked_in
asked_first (Key byte ∷ rest) key e = let f : byte ≡ key = cc e in ap (λ b. b ∷ asked_in rest) f
asked_first _ key e = absurd (cc e)

pub asked_same : (left : List Symbol) → (AsksKey left → ⊥) → asked_in (drop 1 left) ≡ asked_in left
unfolding asked_in
asked_same (Key byte ∷ rest) h = absurd (h (byte, refl))
asked_same _ h = refl

-- ---- the next symbols, with 4E behind the last

filled_enough : (left : List Symbol) (m a b : ℕ) → m ≤ a → m ≤ b → take m (left ++ gap a) ≡ take m (left ++ gap b)
filled_enough left zero a b h l = refl
filled_enough [] (suc m) (suc a) (suc b) h l = ap (λ xs. filler ∷ xs) (filled_enough [] m a b (omega arith) (omega arith))
filled_enough (symbol ∷ left) (suc m) a b h l = ap (λ xs. symbol ∷ xs) (filled_enough left m a b (omega arith) (omega arith))
filled_enough [] (suc m) _ _ h l = absurd (omega arith)

pub filled_more : (left : List Symbol) (m : ℕ) → filled (suc m) left ≡ next_symbol left ∷ filled m (drop 1 left)
filled_more [] m = refl
filled_more (symbol ∷ left) m = ap (λ xs. symbol ∷ xs) (filled_enough left m (suc m) m (omega arith) (omega arith))

-- one word more
pub recorded_more : (items : List ℕ) (last : Bool) (left : List Symbol) (m : ℕ) → items ++ recorded last (filled (suc m) left) ≡ (items ++ word_after last (next_symbol left) ∷ []) ++ recorded (symbol_bit (next_symbol left)) (filled m (drop 1 left))
unfolding recorded
recorded_more items last left m =
    ap (λ xs. items ++ recorded last xs) (filled_more left m)
    ∙ sym (append_assoc items (word_after last (next_symbol left) ∷ []) (recorded (symbol_bit (next_symbol left)) (filled m (drop 1 left))))

pub recorded_none : (last : Bool) (left : List Symbol) → recorded last (filled 0 left) ≡ []
unfolding recorded
recorded_none last left = refl

-- ---- the loop of a whole track

pub laid_start : (keys : List Chrn) (n gap3 fill words : ℕ) (items : List ℕ) → items ≡ [] → items ++ recorded false (filled (words - length items) (track_symbols keys n gap3 fill)) ≡ lay keys n gap3 fill words
unfolding lay
laid_start keys n gap3 fill words items none =
    let symbols = track_symbols keys n gap3 fill in
    let count : words - length items ≡ words = omega (arith, ap length none) in
    ap (λ m. items ++ recorded false (filled m symbols)) count
    ∙ ap (λ xs. xs ++ recorded false (filled words symbols)) none

pub laid_more : (track items more : List ℕ) (last : Bool) (left : List Symbol) (words word : ℕ) → length items < words → more ≡ items ++ word ∷ [] → word ≡ word_after last (next_symbol left) → items ++ recorded last (filled (words - length items) left) ≡ track → more ++ recorded (symbol_bit (next_symbol left)) (filled (words - length more) (drop 1 left)) ≡ track
laid_more track items more last left words word within e is laid =
    let len : length more ≡ length items + 1 = omega (arith, ap length e, length-append items (word ∷ [])) in
    let count : suc (words - length more) ≡ words - length items = omega arith in
    let rest = recorded (symbol_bit (next_symbol left)) (filled (words - length more) (drop 1 left)) in
    ap (λ xs. xs ++ rest) (e ∙ ap (λ w. items ++ w ∷ []) is)
    ∙ sym (recorded_more items last left (words - length more))
    ∙ ap (λ m. items ++ recorded last (filled m left)) count
    ∙ laid

pub laid_all : (track items : List ℕ) (last : Bool) (left : List Symbol) (words : ℕ) → words ≤ length items → items ++ recorded last (filled (words - length items) left) ≡ track → items ≡ track
laid_all track items last left words all laid =
    let none : words - length items ≡ 0 = omega arith in
    sym (ap (λ m. items ++ recorded last (filled m left)) none ∙ ap (λ xs. items ++ xs) (recorded_none last left) ∙ append-nil items) ∙ laid

-- the byte that is handed in
pub asked_byte : (left : List Symbol) (bytes : List ℕ) (asked byte key : ℕ) → asked_in left ≡ drop asked bytes → byte ≡ get_or bytes asked 0 → next_symbol left ≡ Key key → byte ≡ key
asked_byte left bytes asked byte key so_far is e =
    let head : get_or (drop asked bytes) 0 0 ≡ key = ap (λ xs. get_or xs 0 0) (sym so_far ∙ asked_first left key e) in
    let none : asked + 0 ≡ asked = omega arith in
    is ∙ ap (λ k. get_or bytes k 0) (sym none) ∙ sym (get_or-drop asked bytes 0 0) ∙ head

pub asked_more : (left : List Symbol) (bytes : List ℕ) (asked : ℕ) → AsksKey left → asked_in left ≡ drop asked bytes → asked_in (drop 1 left) ≡ drop (asked + 1) bytes
asked_more left bytes asked asks so_far =
    ap (drop 1) (sym (asked_first left asks.0 asks.1) ∙ so_far) ∙ drop-drop 1 asked bytes
