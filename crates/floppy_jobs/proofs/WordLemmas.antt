-- Numbers and names are read back as what they spell, and joined words are read back as these words.
use Rattle.std.proofs.Common.{◌≡◌, ℕ, ◌+◌, ◌-◌, ◌*◌, ◌/◌, ◌%◌, ◌^◌, ◌<◌, ◌≤◌, Bool, true, false, ◌&&◌, not, List, [], ◌∷◌, ◌++◌, length, get_or, zero, suc, nat_le, nat_lt, eqb, filter, Option, Some, refl, ap, ◌∙◌, arith, lit<, le-leb, lt-ltb, leb-true, ltb-true, length-append, Ok}
use Rattle.std.proofs.lemmas.Bool.{le-ltb}
use Rattle.std.proofs.lemmas.Bool.Decides.{nat_tests}
use Rattle.std.proofs.lemmas.Fmt.{decimal_is_IsNumeral, decimal_nonempty, length-decimal-le, hex_one_digit}
use Rattle.std.proofs.lemmas.List.Elements.{All-from_recursion}
use Rattle.std.proofs.lemmas.List.Splits.{slice_split_none, slice_split_at}
use Rattle.std.specs.Prelude.{⊤}
use Rattle.std.specs.Char.{digit_value}
use Rattle.std.specs.Fmt.{decimal, digit_glyph}
use Rattle.std.specs.List.{list_all, slice_split, join_with_byte, AllByRecursion}
use Rattle.std.specs.Str.Lines.{strip_carriage_return}
use Rattle.std.specs.Str.Parse.{AllDigits, IsNumeral, digits_value}
use Rattle.floppy_jobs.proofs.NameLemmas.{and_left, and_right}
use Rattle.floppy_jobs.specs.Lines.{lines_of, words_of, line_of, text_of}
use Rattle.floppy_jobs.specs.Names.{is_name_byte, is_name_text, name_of}
use Rattle.floppy_jobs.specs.Numbers.{all_digits, number_of, byte_of, address_of, length_of, hex_byte_of, tries_of}
use Rattle.floppy_jobs.specs.Spelling.{hex_digit, hex2, hex5}

and_from : (a b : Bool) → a ≡ true → b ≡ true → (a && b) ≡ true
and_from true b h k = k
and_from false b h k = h

-- whether each byte is at least m
abbrev pub from : ℕ → List ℕ → Bool
from m bytes = list_all (λ b. nat_le m b) bytes

-- whether this is a word: it has bytes, each of them at least 36, so none is a space, the end of a line or '#'
abbrev pub is_word : List ℕ → Bool
is_word word = nat_lt 0 (length word) && from 36 word

abbrev pub AreWords : List (List ℕ) → Type 0
AreWords [] = ⊤
AreWords (w ∷ ws) = (is_word w ≡ true) × AreWords ws

-- digits

digit_ink : (base c : ℕ) → base ≤ 16 → digit_value c < base → 36 ≤ c
digit_ink base c b h = grind (arith, nat_tests)

digits_ink : (base : ℕ) (ds : List ℕ) → base ≤ 16 → AllDigits base ds → from 36 ds ≡ true
digits_ink base [] b h = refl
digits_ink base (c ∷ cs) b h = and_from _ _ (le-leb 36 c (digit_ink base c b h.0)) (digits_ink base cs b h.1)

numeral_word : (base : ℕ) (ds : List ℕ) → base ≤ 16 → IsNumeral base ds → is_word ds ≡ true
numeral_word base ds b h = and_from _ _ (lt-ltb 0 (length ds) h.0) (digits_ink base ds b h.1)

all_digits-true : (base : ℕ) (ds : List ℕ) → AllDigits base ds → all_digits base ds ≡ true
all_digits-true base [] h = refl
all_digits-true base (c ∷ cs) h = and_from _ _ (lt-ltb (digit_value c) base h.0) (all_digits-true base cs h.1)

number_of-numeral : (base fewest most least greatest n : ℕ) (ds : List ℕ) → IsNumeral base ds → digits_value base ds ≡ n
    → fewest ≤ length ds → length ds ≤ most → least ≤ n → n ≤ greatest → number_of base fewest most least greatest ds ≡ Some n
unfolding number_of
number_of-numeral base fewest most least greatest n ds h v few many low high =
    let tests : (nat_le fewest (length ds) && nat_le (length ds) most && all_digits base ds && nat_le least (digits_value base ds) && nat_le (digits_value base ds) greatest) ≡ true =
    and_from _ _ (and_from _ _ (and_from _ _ (and_from _ _ (le-leb fewest (length ds) few) (le-leb (length ds) most many)) (all_digits-true base ds h.1))
    (le-leb least (digits_value base ds) (omega arith))) (le-leb (digits_value base ds) greatest (omega arith)) in
    rw tests (ap Some v)

-- decimal numbers

decimal-reads : (k least greatest n : ℕ) → 0 < k → n < 10 ^ k → n < 2 ^ 64 → least ≤ n → n ≤ greatest → number_of 10 1 k least greatest (decimal n) ≡ Some n
decimal-reads k least greatest n pos short small low high =
    let numeral = decimal_is_IsNumeral n small in
    number_of-numeral 10 1 k least greatest n (decimal n) numeral.0 numeral.1 (decimal_nonempty n small) (length-decimal-le k n pos short small) low high

pub byte-decimal : (n : ℕ) → n < 256 → byte_of (decimal n) ≡ Some n
unfolding byte_of
byte-decimal n h = decimal-reads 3 0 255 n (lit< tt) (omega arith) (omega arith) (omega arith) (omega arith)

pub length-decimal : (n : ℕ) → (1 ≤ n) × (n ≤ 65536) → length_of (decimal n) ≡ Some n
unfolding length_of
length-decimal n h = decimal-reads 5 1 65536 n (lit< tt) (omega arith) (omega arith) (omega arith) (omega arith)

pub tries-decimal : (n : ℕ) → (1 ≤ n) × (n ≤ 10) → tries_of (decimal n) ≡ Some n
unfolding tries_of
tries-decimal n h = decimal-reads 2 1 10 n (lit< tt) (omega arith) (omega arith) (omega arith) (omega arith)

pub decimal-word : (n : ℕ) → n < 65537 → is_word (decimal n) ≡ true
decimal-word n h = numeral_word 10 (decimal n) (omega arith) (decimal_is_IsNumeral n (omega arith)).0

-- hexadecimal numbers

glyph_value : (d : ℕ) → d < 16 → digit_value (digit_glyph true d) ≡ d
glyph_value d h = grind (arith, nat_tests)

abbrev glyph : ℕ → ℕ
glyph n = digit_glyph true (n % 16)

hex_digit-is : (n : ℕ) → hex_digit n ≡ glyph n ∷ []
hex_digit-is n = hex_one_digit true (n % 16) (omega arith)

hex2-is : (n : ℕ) → hex2 n ≡ glyph (n / 16) ∷ glyph n ∷ []
hex2-is n = rw (hex_digit-is (n / 16), hex_digit-is n) refl

hex5-is : (n : ℕ) → hex5 n ≡ glyph (n / 65536) ∷ glyph (n / 4096) ∷ glyph (n / 256) ∷ glyph (n / 16) ∷ glyph n ∷ []
hex5-is n = rw (hex_digit-is (n / 65536), hex_digit-is (n / 4096), hex_digit-is (n / 256), hex_digit-is (n / 16), hex_digit-is n) refl

glyph_digit : (n : ℕ) → digit_value (glyph n) < 16
glyph_digit n = rw (glyph_value (n % 16) (omega arith)) (omega arith)

value2 : (n a b : ℕ) → a ≡ n / 16 % 16 → b ≡ n % 16 → n < 256 → (0 * 16 + a) * 16 + b ≡ n
value2 n a b p q h = omega arith

value5 : (n a b c d e : ℕ) → a ≡ n / 65536 % 16 → b ≡ n / 4096 % 16 → c ≡ n / 256 % 16 → d ≡ n / 16 % 16 → e ≡ n % 16 → n < 0x100000
    → ((((0 * 16 + a) * 16 + b) * 16 + c) * 16 + d) * 16 + e ≡ n
value5 n a b c d e p q r s t h = omega arith

hex2-numeral : (n : ℕ) → IsNumeral 16 (hex2 n)
hex2-numeral n = rw (hex2-is n) (lit< tt, (glyph_digit (n / 16), (glyph_digit n, tt)))

pub hex_byte-hex2 : (n : ℕ) → n < 256 → hex_byte_of (hex2 n) ≡ Some n
unfolding hex_byte_of
hex_byte-hex2 n h =
    let value : digits_value 16 (hex2 n) ≡ n =
    rw (hex2-is n) (value2 n _ _ (glyph_value (n / 16 % 16) (omega arith)) (glyph_value (n % 16) (omega arith)) h) in
    let len : length (hex2 n) ≡ 2 = rw (hex2-is n) refl in
    number_of-numeral 16 2 2 0 255 n (hex2 n) (hex2-numeral n) value (omega arith) (omega arith) (omega arith) (omega arith)

hex5-numeral : (n : ℕ) → IsNumeral 16 (hex5 n)
hex5-numeral n = rw (hex5-is n) (lit< tt, (glyph_digit (n / 65536), (glyph_digit (n / 4096), (glyph_digit (n / 256), (glyph_digit (n / 16), (glyph_digit n, tt))))))

pub address-hex5 : (n : ℕ) → n < 0x100000 → address_of (hex5 n) ≡ Some n
unfolding address_of
address-hex5 n h =
    let value : digits_value 16 (hex5 n) ≡ n =
    rw (hex5-is n) (value5 n _ _ _ _ _ (glyph_value (n / 65536 % 16) (omega arith)) (glyph_value (n / 4096 % 16) (omega arith))
    (glyph_value (n / 256 % 16) (omega arith)) (glyph_value (n / 16 % 16) (omega arith)) (glyph_value (n % 16) (omega arith)) h) in
    let len : length (hex5 n) ≡ 5 = rw (hex5-is n) refl in
    number_of-numeral 16 1 5 0 0xFFFFF n (hex5 n) (hex5-numeral n) value (omega arith) (omega arith) (omega arith) (omega arith)

pub hex2-word : (n : ℕ) → is_word (hex2 n) ≡ true
hex2-word n = numeral_word 16 (hex2 n) (omega arith) (hex2-numeral n)

pub hex5-word : (n : ℕ) → is_word (hex5 n) ≡ true
hex5-word n = numeral_word 16 (hex5 n) (omega arith) (hex5-numeral n)

-- lengths, so that no spelling passes the limit of a line

pub length-byte : (n : ℕ) → n < 256 → length (decimal n) ≤ 3
length-byte n h = length-decimal-le 3 n (lit< tt) (omega arith) (omega arith)

pub length-length : (n : ℕ) → n < 65537 → length (decimal n) ≤ 5
length-length n h = length-decimal-le 5 n (lit< tt) (omega arith) (omega arith)

pub length-hex2 : (n : ℕ) → length (hex2 n) ≡ 2
length-hex2 n = rw (hex2-is n) refl

pub length-hex5 : (n : ℕ) → length (hex5 n) ≡ 5
length-hex5 n = rw (hex5-is n) refl

-- names

pub name-reads : (name : List ℕ) → is_name_text name ≡ true → name_of name ≡ Some name
unfolding name_of
name-reads name h = rw h refl

name_byte_ink : (c : ℕ) → is_name_byte c ≡ true → 36 ≤ c
name_byte_ink c h = grind (arith, nat_tests)

name_ink : (name : List ℕ) → list_all is_name_byte name ≡ true → from 36 name ≡ true
name_ink [] h = refl
name_ink (c ∷ cs) h = and_from _ _ (le-leb 36 c (name_byte_ink c (and_left _ _ h))) (name_ink cs (and_right _ _ h))

pub name-word : (name : List ℕ) → is_name_text name ≡ true → is_word name ≡ true
unfolding is_name_text
name-word name h =
    let long = leb-true 1 (length name) (and_left _ _ (and_left _ _ (and_left _ _ (and_left _ _ h)))) in
    and_from _ _ (lt-ltb 0 (length name) (omega arith)) (name_ink name (and_right _ _ h))

pub name-length : (name : List ℕ) → is_name_text name ≡ true → length name ≤ 64
unfolding is_name_text
name-length name h = leb-true (length name) 64 (and_right _ _ (and_left _ _ (and_left _ _ (and_left _ _ h))))

-- joined words

no_space : (word : List ℕ) → from 36 word ≡ true → AllByRecursion (λ b. eqb b 32 ≡ false) word
no_space [] h = tt
no_space (b ∷ bs) h =
    let ink = leb-true 36 b (and_left _ _ h) in
    let other : eqb b 32 ≡ false = grind (arith, nat_tests) in
    (other, no_space bs (and_right _ _ h))

split-join : (w : List ℕ) (ws : List (List ℕ)) → AreWords (w ∷ ws) → slice_split (λ b. eqb b 32) (join_with_byte 32 (w ∷ ws)) ≡ w ∷ ws
split-join w [] h = slice_split_none (λ b. eqb b 32) w (All-from_recursion _ w (no_space w (and_right _ _ h.0)))
split-join w (v ∷ vs) h =
    slice_split_at (λ b. eqb b 32) w 32 (join_with_byte 32 (v ∷ vs)) (All-from_recursion _ w (no_space w (and_right _ _ h.0))) refl
    ∙ ap (λ (parts : List (List ℕ)). w ∷ parts) (split-join v vs h.1)

kept : (ws : List (List ℕ)) → AreWords ws → filter (λ word. not (eqb (length word) 0)) ws ≡ ws
kept [] h = refl
kept (w ∷ ws) h =
    let long = ltb-true 0 (length w) (and_left _ _ h.0) in
    let some : eqb (length w) 0 ≡ false = grind (arith, nat_tests) in
    rw (some, kept ws h.1) refl

pub words_of-join : (w : List ℕ) (ws : List (List ℕ)) → AreWords (w ∷ ws) → words_of (join_with_byte 32 (w ∷ ws)) ≡ w ∷ ws
words_of-join w ws h = ap (filter (λ word. not (eqb (length word) 0))) (split-join w ws h) ∙ kept (w ∷ ws) h

weaker : (bytes : List ℕ) → from 36 bytes ≡ true → from 32 bytes ≡ true
weaker [] h = refl
weaker (b ∷ bs) h = and_from _ _ (le-leb 32 b (omega (arith, leb-true 36 b (and_left _ _ h)))) (weaker bs (and_right _ _ h))

from-append : (m : ℕ) (xs ys : List ℕ) → from m xs ≡ true → from m ys ≡ true → from m (xs ++ ys) ≡ true
from-append m [] ys h k = k
from-append m (x ∷ xs) ys h k = and_from _ _ (and_left _ _ h) (from-append m xs ys (and_right _ _ h) k)

pub joined : (ws : List (List ℕ)) → AreWords ws → from 32 (join_with_byte 32 ws) ≡ true
joined [] h = refl
joined (w ∷ []) h = weaker w (and_right _ _ h.0)
joined (w ∷ v ∷ vs) h = from-append 32 w (32 ∷ join_with_byte 32 (v ∷ vs)) (weaker w (and_right _ _ h.0)) (joined (v ∷ vs) h.1)

-- bytes that are all at least a space are one line, and no end of a line is taken off

pub lines_of-one : (b : ℕ) (bs : List ℕ) → from 32 (b ∷ bs) ≡ true → lines_of (b ∷ bs) ≡ (b ∷ bs) ∷ []
lines_of-one b [] h =
    let low = leb-true 32 b (and_left _ _ h) in
    let other : eqb b 10 ≡ false = grind (arith, nat_tests) in
    rw other refl
lines_of-one b (c ∷ cs) h =
    let low = leb-true 32 b (and_left _ _ h) in
    let other : eqb b 10 ≡ false = grind (arith, nat_tests) in
    let rest : lines_of (c ∷ cs) ≡ (c ∷ cs) ∷ [] = lines_of-one c cs (and_right _ _ h) in
    rw (other, rest) refl

at_least : (m : ℕ) (bytes : List ℕ) (i : ℕ) → from m bytes ≡ true → i < length bytes → m ≤ get_or bytes i 0
at_least m [] i h k = absurd (omega arith)
at_least m (b ∷ bs) zero h k = leb-true m b (and_left _ _ h)
at_least m (b ∷ bs) (suc i) h k = at_least m bs i (and_right _ _ h) (omega arith)

pub strip-one : (b : ℕ) (bs : List ℕ) → from 32 (b ∷ bs) ≡ true → strip_carriage_return (b ∷ bs) ≡ b ∷ bs
strip-one b bs h =
    let last = at_least 32 (b ∷ bs) (length (b ∷ bs) - 1) h (omega arith) in
    let other : eqb (get_or (b ∷ bs) (length (b ∷ bs) - 1) 0) 13 ≡ false = grind (arith, nat_tests) in
    rw other refl

pub lines_of-text : (text : List ℕ) → 0 < length text → from 32 text ≡ true → lines_of text ≡ text ∷ []
lines_of-text [] pos h = absurd (omega arith)
lines_of-text (b ∷ bs) pos h = lines_of-one b bs h

pub strip-text : (text : List ℕ) → 0 < length text → from 32 text ≡ true → strip_carriage_return text ≡ text
strip-text [] pos h = absurd (omega arith)
strip-text (b ∷ bs) pos h = strip-one b bs h

-- a text that begins with a word is no comment
pub first_ink : (w : List ℕ) (ws : List (List ℕ)) → is_word w ≡ true → eqb (get_or (join_with_byte 32 (w ∷ ws)) 0 0) 35 ≡ false
first_ink [] ws h = cc
first_ink (b ∷ bs) [] h =
    let ink = leb-true 36 b (and_left _ _ (and_right _ _ h)) in grind (arith, nat_tests)
first_ink (b ∷ bs) (v ∷ vs) h =
    let ink = leb-true 36 b (and_left _ _ (and_right _ _ h)) in grind (arith, nat_tests)

pub no_shorter : (w : List ℕ) (ws : List (List ℕ)) → is_word w ≡ true → 0 < length (join_with_byte 32 (w ∷ ws))
no_shorter w [] h = ltb-true 0 (length w) (and_left _ _ h)
no_shorter w (v ∷ vs) h = omega (arith, length-append w (32 ∷ join_with_byte 32 (v ∷ vs)))

-- a line of words says what the words spell
pub line_of-words : {T : Type 0} (spelled : List (List ℕ) → Option T) (item : T) (text w : List ℕ) (ws : List (List ℕ))
    → length text ≤ 200 → eqb (get_or text 0 0) 35 ≡ false → words_of text ≡ w ∷ ws → spelled (w ∷ ws) ≡ Some item
    → line_of spelled text ≡ Some (Some item)
unfolding line_of
line_of-words spelled item text w ws short first words reads =
    let fits : nat_lt 200 (length text) ≡ false = le-ltb 200 (length text) short in
    let some : eqb (length (w ∷ ws)) 0 ≡ false = grind (arith, nat_tests) in
    rw (fits, first, words, some, reads) refl

-- a text with one such line alone says the same
pub text_of-words : {T : Type 0} (spelled : List (List ℕ) → Option T) (item : T) (text : List ℕ)
    → 0 < length text → length text ≤ 200 → from 32 text ≡ true → line_of spelled text ≡ Some (Some item)
    → text_of spelled 100000 text ≡ Ok (item ∷ [])
unfolding text_of
text_of-words spelled item text pos short plain line =
    let fits : nat_lt 4194304 (length text) ≡ false = le-ltb 4194304 (length text) (omega arith) in
    rw (fits, lines_of-text text pos plain, strip-text text pos plain, line) refl
