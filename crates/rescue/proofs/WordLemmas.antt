-- The words of a line spell it, and no other words do.
use Rattle.std.proofs.Common.{◌≡◌, ℕ, ◌/◌, ◌%◌, ◌<◌, ◌≤◌, Bool, true, false, ◌&&◌, cond, List, [], ◌∷◌, length, get_or, zero, suc, nat_le, nat_lt, eqb, Option, Some, None, option_and_then, refl, sym, ap, ◌∙◌, subst, arith, lit<, le-leb, lt-ltb, leb-true, ltb-true}
use Rattle.rescue.proofs.Common.{nat_tests, decimal_is_IsNumeral, length-decimal-le, decimal-digits_value, first_decimal, decimal_digit, hex_one_digit, numerals_by_value, tells_digits, decimal, digit_glyph, AllDigits, IsNumeral, digits_value, Code, BadRequest, NoMark, Protected, NotFound, Changed, Overrun, Page, BadCrc, Seek, NotReady, code_text, line_words, IsLogLine, LogLine}
use Rattle.std.proofs.lemmas.Slice.Eq.{bytes_eq-Decides}
use Rattle.std.specs.Char.{digit_value}
use Rattle.std.specs.Prelude.{codes}
use Rattle.floppy_jobs.specs.Spelling.{hex2}
use Rattle.std.specs.Str.{bytes_eq}
use Rattle.floppy_jobs.specs.Numbers.{all_digits, number_of}
use Rattle.sector_model.specs.Orders.{IsDeviceRefusal}
use Rattle.rescue.specs.Fields.{plain_of, code_of, line_of}

pub and_left : (a b : Bool) → (a && b) ≡ true → a ≡ true
and_left true b h = refl
and_left false b h = h

pub and_right : (a b : Bool) → (a && b) ≡ true → b ≡ true
and_right true b h = h
and_right false b h = cc

and_from : (a b : Bool) → a ≡ true → b ≡ true → (a && b) ≡ true
and_from true b h k = k
and_from false b h k = h

-- if a choice between a value and none gave something, the test held and this is the value
given : {T : Type 0} (t : Bool) (v n : T) → cond t (Some v) None ≡ Some n → (t ≡ true) × (v ≡ n)
given true v n h = (refl, cc)
given false v n h = absurd (cc)

given_after : {T : Type 0} (t : Bool) (o : Option T) (n : T) → cond t None o ≡ Some n → (t ≡ false) × (o ≡ Some n)
given_after true o n h = absurd (cc)
given_after false o n h = (refl, h)

tests_pass : (a b c d e : Bool) → (a && b && c && d && e) ≡ true → (a ≡ true) × (c ≡ true) × (d ≡ true) × (e ≡ true)
tests_pass a b c d e h =
    let abcd = and_left (a && b && c && d) e h in
    let abc = and_left (a && b && c) d abcd in
    (and_left a b (and_left (a && b) c abc), and_right (a && b) c abc, and_right (a && b && c) d abcd, and_right (a && b && c && d) e h)

-- numbers

digits_told : (ds : List ℕ) → all_digits 10 ds ≡ true → AllDigits 10 ds
digits_told [] h = tt
digits_told (c ∷ cs) h = (ltb-true (digit_value c) 10 (and_left _ _ h), digits_told cs (and_right _ _ h))

digits_tested : (ds : List ℕ) → AllDigits 10 ds → all_digits 10 ds ≡ true
digits_tested [] h = refl
digits_tested (c ∷ cs) h = and_from _ _ (lt-ltb (digit_value c) 10 h.0) (digits_tested cs h.1)

-- what is known of a number that was read
record IsRead (least greatest : ℕ) (word : List ℕ) (n : ℕ) : Type 0 where
  pub some : 1 ≤ length word
  pub digits : AllDigits 10 word
  pub value : digits_value 10 word ≡ n
  pub low : least ≤ n
  pub high : n ≤ greatest

number_read : (least greatest : ℕ) (word : List ℕ) (n : ℕ) → number_of 10 1 3 least greatest word ≡ Some n → IsRead least greatest word n
unfolding number_of
number_read least greatest word n h =
    let read = given _ _ _ h in
    let tests = tests_pass (nat_le 1 (length word)) (nat_le (length word) 3) (all_digits 10 word) (nat_le least (digits_value 10 word)) (nat_le (digits_value 10 word) greatest) read.0 in
    let value : digits_value 10 word ≡ n = read.1 in
    let some : 1 ≤ length word = leb-true 1 (length word) tests.0 in
    let from : least ≤ digits_value 10 word = leb-true least (digits_value 10 word) tests.2 in
    let to : digits_value 10 word ≤ greatest = leb-true (digits_value 10 word) greatest tests.3 in
    record { some = some; digits = digits_told word tests.1; value = value; low = omega arith; high = omega arith }

number_reads : (least greatest n : ℕ) (word : List ℕ) → IsNumeral 10 word → digits_value 10 word ≡ n → length word ≤ 3 → least ≤ n → n ≤ greatest
    → number_of 10 1 3 least greatest word ≡ Some n
unfolding number_of
number_reads least greatest n word h value most low high =
    let tests : (nat_le 1 (length word) && nat_le (length word) 3 && all_digits 10 word && nat_le least (digits_value 10 word) && nat_le (digits_value 10 word) greatest) ≡ true =
    and_from _ _ (and_from _ _ (and_from _ _ (and_from _ _ (le-leb 1 (length word) (omega arith)) (le-leb (length word) 3 most)) (digits_tested word h.1))
    (le-leb least (digits_value 10 word) (omega arith))) (le-leb (digits_value 10 word) greatest (omega arith)) in
    rw tests (ap Some value)

no_zero : (word : List ℕ) → (nat_lt 1 (length word) && eqb (get_or word 0 0) 48) ≡ false → 1 ≤ length word → get_or word 0 0 ≡ 48 → length word ≡ 1
no_zero word h some first = grind (arith, nat_tests)

-- a number that was read is spelled by its word
pub plain_of-read : (least greatest : ℕ) (word : List ℕ) (n : ℕ) → greatest < 256 → plain_of least greatest word ≡ Some n
    → (word ≡ decimal n) × (least ≤ n) × (n ≤ greatest)
unfolding plain_of
plain_of-read least greatest word n small h =
    let tested = given_after _ _ _ h in
    let read = number_read least greatest word n tested.1 in
    let spelled = decimal-digits_value (numerals_by_value _ tells_digits) word read.digits (omega (arith, read.some))
    (no_zero word tested.0 read.some) (omega (arith, read.value, read.high)) in
    (sym spelled ∙ ap decimal read.value, read.low, read.high)

plain_decimal : (n : ℕ) → n < 256 → (nat_lt 1 (length (decimal n)) && eqb (get_or (decimal n) 0 0) 48) ≡ false
plain_decimal zero h = rw (decimal_digit 0 (lit< tt)) refl
plain_decimal (suc n) h =
    let first = first_decimal (suc n) (omega arith) (omega arith) in
    grind (arith, nat_tests)

-- the spelling of each number is read as that number
pub plain_of-decimal : (least greatest n : ℕ) → greatest < 256 → least ≤ n → n ≤ greatest → plain_of least greatest (decimal n) ≡ Some n
unfolding plain_of
plain_of-decimal least greatest n small low high =
    let numeral = decimal_is_IsNumeral n (omega arith) in
    rw (plain_decimal n (omega arith))
    (number_reads least greatest n (decimal n) numeral.0 numeral.1 (length-decimal-le 3 n (lit< tt) (omega arith) (omega arith)) low high)

-- codes

same_bytes : (xs ys : List ℕ) → bytes_eq xs ys ≡ true → xs ≡ ys
same_bytes xs ys h = grind (arith, bytes_eq-Decides xs ys)

hex2-is : (n : ℕ) → hex2 n ≡ digit_glyph true (n / 16 % 16) ∷ digit_glyph true (n % 16) ∷ []
hex2-is n = rw (hex_one_digit true (n / 16 % 16) (omega arith), hex_one_digit true (n % 16) (omega arith)) refl

-- the table of codes
abbrev pub plain_text : Code → List ℕ
plain_text BadRequest = codes "01"
plain_text NoMark = codes "02"
plain_text Protected = codes "03"
plain_text NotFound = codes "04"
plain_text Changed = codes "06"
plain_text Overrun = codes "08"
plain_text Page = codes "09"
plain_text BadCrc = codes "10"
plain_text Seek = codes "40"
plain_text NotReady = codes "80"

pub code_text-is : (code : Code) → code_text code ≡ plain_text code
code_text-is BadRequest = hex2-is 0x01
code_text-is NoMark = hex2-is 0x02
code_text-is Protected = hex2-is 0x03
code_text-is NotFound = hex2-is 0x04
code_text-is Changed = hex2-is 0x06
code_text-is Overrun = hex2-is 0x08
code_text-is Page = hex2-is 0x09
code_text-is BadCrc = hex2-is 0x10
code_text-is Seek = hex2-is 0x40
code_text-is NotReady = hex2-is 0x80

code_tested : (text word : List ℕ) (code found : Code) (o : Option Code) → text ≡ code_text code → IsDeviceRefusal code
    → cond (bytes_eq word text) (Some code) o ≡ Some found
    → (o ≡ Some found → (word ≡ code_text found) × IsDeviceRefusal found)
    → (word ≡ code_text found) × IsDeviceRefusal found
code_tested text word code found o is device h others = by_test (bytes_eq word text) refl h
  where
    by_test : (t : Bool) → bytes_eq word text ≡ t → cond t (Some code) o ≡ Some found → (word ≡ code_text found) × IsDeviceRefusal found
    by_test true e k =
        let same : code ≡ found = cc in
        (same_bytes word text e ∙ is ∙ ap code_text same, subst IsDeviceRefusal same device)
    by_test false e k = others k

-- a refusal that was read is spelled by its word
pub code_of-read : (word : List ℕ) (code : Code) → code_of word ≡ Some code → (word ≡ code_text code) × IsDeviceRefusal code
unfolding code_of
code_of-read word code h =
    code_tested (codes "02") word NoMark code _ (sym (code_text-is NoMark)) tt h (λ h1.
    code_tested (codes "04") word NotFound code _ (sym (code_text-is NotFound)) tt h1 (λ h2.
    code_tested (codes "08") word Overrun code _ (sym (code_text-is Overrun)) tt h2 (λ h3.
    code_tested (codes "10") word BadCrc code _ (sym (code_text-is BadCrc)) tt h3 (λ h4.
    code_tested (codes "40") word Seek code _ (sym (code_text-is Seek)) tt h4 (λ h5. absurd (cc (h5)))))))

-- the spelling of each refusal of a drive is read as that refusal
pub code_of-text : (code : Code) → IsDeviceRefusal code → code_of (code_text code) ≡ Some code
unfolding code_of
code_of-text NoMark h = rw (code_text-is NoMark) refl
code_of-text NotFound h = rw (code_text-is NotFound) refl
code_of-text Overrun h = rw (code_text-is Overrun) refl
code_of-text BadCrc h = rw (code_text-is BadCrc) refl
code_of-text Seek h = rw (code_text-is Seek) refl
code_of-text _ h = absurd h

-- lines

bound : {A B : Type 0} (o : Option A) (f : A → Option B) (y : B) → option_and_then f o ≡ Some y → (x : A) × ((o ≡ Some x) × (f x ≡ Some y))
bound (Some x) f y h = (x, (refl, h))
bound None f y h = absurd (cc)

fields_read : (sectors : ℕ) (cylinder head number code : List ℕ) (line : LogLine) → sectors < 256
    → line_of sectors (cylinder ∷ head ∷ number ∷ code ∷ []) ≡ Some line
    → ((cylinder ∷ head ∷ number ∷ code ∷ []) ≡ line_words line) × IsLogLine sectors line
unfolding line_of
fields_read sectors cylinder head number code line small h =
    let c = bound (plain_of 0 79 cylinder) _ line h in
    let d = bound (plain_of 0 1 head) _ line c.1.1 in
    let r = bound (plain_of 1 sectors number) _ line d.1.1 in
    let e = bound (code_of code) _ line r.1.1 in
    let is_c = plain_of-read 0 79 cylinder c.0 (omega arith) c.1.0 in
    let is_h = plain_of-read 0 1 head d.0 (omega arith) d.1.0 in
    let is_r = plain_of-read 1 sectors number r.0 small r.1.0 in
    let is_code = code_of-read code e.0 e.1.0 in
    let made : record { key = record { c = c.0; h = d.0; r = r.0; n = 2 }; code = e.0 } ≡ line = cc (e.1.1) in
    subst (λ (l : LogLine). ((cylinder ∷ head ∷ number ∷ code ∷ []) ≡ line_words l) × IsLogLine sectors l) made (
      cc (is_c.0, is_h.0, is_r.0, is_code.0),
      record { cylinder = is_c.2; head = is_h.2; first = is_r.1; last = is_r.2; size = refl; refused = is_code.1 },
    )

-- a line that was read is spelled by its words
pub line_of-read : (sectors : ℕ) (words : List (List ℕ)) (line : LogLine) → sectors < 256 → line_of sectors words ≡ Some line
    → (words ≡ line_words line) × IsLogLine sectors line
unfolding line_of
line_of-read sectors (c ∷ d ∷ r ∷ e ∷ []) line small h = fields_read sectors c d r e line small h
line_of-read sectors _ line small h = absurd (cc)

-- the words of each line are read as that line
pub line_of-words : (sectors : ℕ) (line : LogLine) → sectors < 256 → IsLogLine sectors line → line_of sectors (line_words line) ≡ Some line
unfolding line_of
line_of-words sectors line small h =
    rw (
      plain_of-decimal 0 79 line.key.c (omega arith) (omega arith) h.cylinder,
      plain_of-decimal 0 1 line.key.h (omega arith) (omega arith) h.head,
      plain_of-decimal 1 sectors line.key.r small h.first h.last,
      code_of-text line.code h.refused,
    )
    (ap (λ (n : ℕ). Some (record { key = record { c = line.key.c; h = line.key.h; r = line.key.r; n = n }; code = line.code })) (sym h.size))
