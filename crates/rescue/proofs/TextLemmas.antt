-- Cutting a text at spaces and at line feeds gives the words and lines from which it was joined.
use Rattle.std.proofs.Common.{◌≡◌, ℕ, ◌+◌, ◌<◌, ◌≤◌, Bool, false, List, [], ◌∷◌, ◌++◌, length, take, drop, get_or, nat_lt, eqb, cond, Some, None, refl, sym, ap, ◌∙◌, subst, arith, lit<, lit≤}
use Rattle.rescue.proofs.Common.{eqb-true, nat_tests, decimal_is_IsNumeral, All-from_recursion, drop-drop, digit_from_value, decimal, AllByRecursion, join_with_byte, position, position_or_len, AllDigits, Code, BadRequest, NoMark, Protected, NotFound, Changed, Overrun, Page, BadCrc, Seek, NotReady, line_of, words_of, pieces_of, BeginsWith, BeginsWithNone, code_text, line_words, line_text, IsLogLine, LogLine}
use Rattle.std.proofs.lemmas.List.Splits.{slice_split_none, slice_split_at, length-slice_split, join_with_byte-slice_split}
use Rattle.std.proofs.lemmas.List.Splits.{slice_split_first}
use Rattle.std.proofs.lemmas.List.Sums.{split_at_first, fails_before_first, passes_at_first}
use Rattle.rescue.proofs.WordLemmas.{plain_text, code_text-is, line_of-read, line_of-words}

-- each number is m or more
abbrev AllFrom : ℕ → List ℕ → Type 0
AllFrom m bytes = AllByRecursion (λ b. m ≤ b) bytes

from-append : (m : ℕ) (xs ys : List ℕ) → AllFrom m xs → AllFrom m ys → AllFrom m (xs ++ ys)
from-append m [] ys h k = k
from-append m (x ∷ xs) ys h k = (h.0, from-append m xs ys h.1 k)

weaker : (m n : ℕ) (xs : List ℕ) → n ≤ m → AllFrom m xs → AllFrom n xs
weaker m n [] low h = tt
weaker m n (x ∷ xs) low h = (omega (arith, h.0), weaker m n xs low h.1)

-- a number below m isn't among numbers from m on
none_is : (m c : ℕ) (xs : List ℕ) → c < m → AllFrom m xs → AllByRecursion (λ b. eqb b c ≡ false) xs
none_is m c [] low h = tt
none_is m c (x ∷ xs) low h =
    let above = h.0 in
    let other : eqb x c ≡ false = grind (arith, nat_tests) in
    (other, none_is m c xs low h.1)

digits_from : (ds : List ℕ) → AllDigits 10 ds → AllFrom 48 ds
digits_from [] h = tt
digits_from (c ∷ cs) h = ((digit_from_value c h.0).0, digits_from cs h.1)

decimal_from : (n : ℕ) → n < 256 → AllFrom 48 (decimal n)
decimal_from n h = digits_from (decimal n) (decimal_is_IsNumeral n (omega arith)).0.1

plain_from : (code : Code) → AllFrom 48 (plain_text code)
plain_from BadRequest = (lit≤ tt, (lit≤ tt, tt))
plain_from NoMark = (lit≤ tt, (lit≤ tt, tt))
plain_from Protected = (lit≤ tt, (lit≤ tt, tt))
plain_from NotFound = (lit≤ tt, (lit≤ tt, tt))
plain_from Changed = (lit≤ tt, (lit≤ tt, tt))
plain_from Overrun = (lit≤ tt, (lit≤ tt, tt))
plain_from Page = (lit≤ tt, (lit≤ tt, tt))
plain_from BadCrc = (lit≤ tt, (lit≤ tt, tt))
plain_from Seek = (lit≤ tt, (lit≤ tt, tt))
plain_from NotReady = (lit≤ tt, (lit≤ tt, tt))

code_from : (code : Code) → AllFrom 48 (code_text code)
code_from code = subst (AllFrom 48) (sym (code_text-is code)) (plain_from code)

cut : (word rest : List ℕ) → AllFrom 48 word → words_of (word ++ (32 ∷ rest)) ≡ word ∷ words_of rest
cut word rest h = slice_split_at (λ b. eqb b 32) word 32 rest (All-from_recursion _ word (none_is 48 32 word (lit< tt) h)) refl

uncut : (word : List ℕ) → AllFrom 48 word → words_of word ≡ word ∷ []
uncut word h = slice_split_none (λ b. eqb b 32) word (All-from_recursion _ word (none_is 48 32 word (lit< tt) h))

words_of-joined : (c h r code : List ℕ) → AllFrom 48 c → AllFrom 48 h → AllFrom 48 r → AllFrom 48 code
    → words_of (join_with_byte 32 (c ∷ h ∷ r ∷ code ∷ [])) ≡ c ∷ h ∷ r ∷ code ∷ []
words_of-joined c h r code ic ih ir icode =
    cut c _ ic ∙ ap (λ (ws : List (List ℕ)). c ∷ ws) (cut h _ ih ∙ ap (λ (ws : List (List ℕ)). h ∷ ws) (cut r _ ir ∙ ap (λ (ws : List (List ℕ)). r ∷ ws) (uncut code icode)))

-- the words of a line's text are the line's words
pub words_of-line : (sectors : ℕ) (line : LogLine) → sectors < 256 → IsLogLine sectors line → words_of (line_text line) ≡ line_words line
words_of-line sectors line small h =
    words_of-joined _ _ _ _ (decimal_from line.key.c (omega (arith, h.cylinder))) (decimal_from line.key.h (omega (arith, h.head)))
    (decimal_from line.key.r (omega (arith, h.last))) (code_from line.code)

joined_from : (word rest : List ℕ) → AllFrom 48 word → AllFrom 32 rest → AllFrom 32 (word ++ (32 ∷ rest))
joined_from word rest h k = from-append 32 word (32 ∷ rest) (weaker 48 32 word (lit≤ tt) h) (lit≤ tt, k)

line_from : (sectors : ℕ) (line : LogLine) → sectors < 256 → IsLogLine sectors line → AllFrom 32 (line_text line)
line_from sectors line small h =
    joined_from _ _ (decimal_from line.key.c (omega (arith, h.cylinder)))
    (joined_from _ _ (decimal_from line.key.h (omega (arith, h.head)))
    (joined_from _ _ (decimal_from line.key.r (omega (arith, h.last)))
    (weaker 48 32 (code_text line.code) (lit≤ tt) (code_from line.code))))

-- the first piece of a text that begins with a line is that line
pub pieces_of-line : (sectors : ℕ) (line : LogLine) (others : List ℕ) → sectors < 256 → IsLogLine sectors line
    → pieces_of (line_text line ++ (10 ∷ others)) ≡ line_text line ∷ pieces_of others
pieces_of-line sectors line others small h =
    slice_split_at (λ b. eqb b 10) (line_text line) 10 others
    (All-from_recursion _ (line_text line) (none_is 32 10 (line_text line) (lit< tt) (line_from sectors line small h))) refl

-- the text of a line is read as that line
pub read_as : (sectors : ℕ) (line : LogLine) → sectors < 256 → IsLogLine sectors line → line_of sectors (words_of (line_text line)) ≡ Some line
read_as sectors line small h = ap (line_of sectors) (words_of-line sectors line small h) ∙ line_of-words sectors line small h

-- what was read as a line is the text of that line
pub is_text : (sectors : ℕ) (text : List ℕ) (line : LogLine) → sectors < 256 → line_of sectors (words_of text) ≡ Some line → text ≡ line_text line
is_text sectors text line small h =
    sym (join_with_byte-slice_split 32 text) ∙ ap (join_with_byte 32) (line_of-read sectors (words_of text) line small h).0

-- the ways in which a text begins

pub begins : (sectors : ℕ) (text piece others : List ℕ) (line : LogLine) → sectors < 256 → text ≡ piece ++ (10 ∷ others)
    → line_of sectors (words_of piece) ≡ Some line → BeginsWith sectors text line others
begins sectors text piece others line small joined read =
    let is = is_text sectors piece line small read in
    record { begins = joined ∙ ap (λ (p : List ℕ). p ++ (10 ∷ others)) is; valid = (line_of-read sectors (words_of piece) line small read).1 }

same_head : {T : Type 0} (x y : T) (xs ys : List T) → x ∷ xs ≡ y ∷ ys → x ≡ y
same_head x y xs ys h = cc

pub same_tail : {T : Type 0} (x y : T) (xs ys : List T) → x ∷ xs ≡ y ∷ ys → xs ≡ ys
same_tail x y xs ys h = cc

pieces_begun : (sectors : ℕ) (text : List ℕ) (line : LogLine) (others : List ℕ) → sectors < 256 → BeginsWith sectors text line others
    → pieces_of text ≡ line_text line ∷ pieces_of others
pieces_begun sectors text line others small b = ap pieces_of b.begins ∙ pieces_of-line sectors line others small b.valid

pub begins_unended : (sectors : ℕ) (text : List ℕ) → sectors < 256 → pieces_of text ≡ text ∷ [] → BeginsWithNone sectors text
begins_unended sectors text small whole line others b =
    let empty = same_tail _ _ _ _ (sym whole ∙ pieces_begun sectors text line others small b) in
    omega (arith, length-slice_split (λ c. eqb c 10) others, ap length empty)

pub begins_unread : (sectors : ℕ) (text piece others : List ℕ) → sectors < 256 → pieces_of text ≡ piece ∷ pieces_of others
    → line_of sectors (words_of piece) ≡ None → BeginsWithNone sectors text
begins_unread sectors text piece others small split unread line more b =
    let same = same_head _ _ _ _ (sym split ∙ pieces_begun sectors text line more small b) in
    let read = ap (λ (p : List ℕ). line_of sectors (words_of p)) same ∙ read_as sectors line small b.valid in
    absurd (cc (read, unread))

-- a text begins with at most one line
pub begins_with_one : (sectors : ℕ) (text : List ℕ) (line line' : LogLine) (others others' : List ℕ) → sectors < 256
    → BeginsWith sectors text line others → BeginsWith sectors text line' others' → line ≡ line'
begins_with_one sectors text line line' others others' small b b' =
    let same = same_head _ _ _ _ (sym (pieces_begun sectors text line others small b) ∙ pieces_begun sectors text line' others' small b') in
    let read = read_as sectors line small b.valid in
    let read' = read_as sectors line' small b'.valid in
    let both = sym read ∙ ap (λ (p : List ℕ). line_of sectors (words_of p)) same ∙ read' in
    cc (both)

-- the first line feed

abbrev feed : ℕ → Bool
feed b = eqb b 10

none_found : (p n : ℕ) → cond (nat_lt p n) (Some p) None ≡ None → n ≤ p
none_found p n h = grind (arith, nat_tests)

found_at : (p n i : ℕ) → cond (nat_lt p n) (Some p) None ≡ Some i → (i ≡ p) × (p < n)
found_at p n i h = grind (arith, nat_tests)

-- a text without a line feed is one piece
pub pieces_of-whole : (text : List ℕ) → position feed text ≡ None → pieces_of text ≡ text ∷ []
pieces_of-whole text h =
    let none = none_found (position_or_len feed text) (length text) h in
    slice_split_none feed text (λ k d inside. fails_before_first feed text k d (omega (arith, none)))

-- what stands before the first line feed and after it
pub first_piece : (text line rest others : List ℕ) (end : ℕ) → position feed text ≡ Some end → line ≡ take end text → rest ≡ drop end text → others ≡ drop 1 rest
    → (pieces_of text ≡ line ∷ pieces_of others) × (text ≡ line ++ (10 ∷ others))
first_piece text line rest others end h front back behind =
    let at = found_at (position_or_len feed text) (length text) end h in
    let before : line ≡ take (position_or_len feed text) text = front ∙ ap (λ (i : ℕ). take i text) at.0 in
    let after : others ≡ drop (position_or_len feed text + 1) text = behind ∙ ap (drop 1) back ∙ drop-drop 1 end text ∙ ap (λ (i : ℕ). drop i text) (omega (arith, at.0)) in
    let whole = slice_split_first feed text 0 at.1 in
    let parts = split_at_first feed text 0 at.1 in
    let byte = eqb-true (get_or text (position_or_len feed text) 0) 10 (passes_at_first feed text 0 at.1) in
    (cc (whole, before, after), parts ∙ cc (byte, before, after))
