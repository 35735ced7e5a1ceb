-- A request that is read has its numbers in range, and its names are names.
use Rattle.std.proofs.Common.{◌≡◌, ℕ, ◌+◌, ◌<◌, ◌≤◌, Bool, true, false, ◌&&◌, List, [], ◌∷◌, length, nat_le, nat_lt, cond, Option, Some, None, option_map, Result, Ok, Err, IfOk, refl, sym, subst, arith, leb-true}
use Rattle.std.specs.Prelude.{codes, option_and_then}
use Rattle.std.specs.List.{AllByRecursion, All}
use Rattle.std.specs.Str.{bytes_eq}
use Rattle.std.specs.Str.Lines.{strip_carriage_return}
use Rattle.std.specs.Str.Parse.{digits_value}
use Rattle.std.proofs.lemmas.List.Elements.{All-from_recursion}
use Rattle.flop_base.specs.declared.key.Chrn.{Chrn}
use Rattle.floppy_jobs.specs.declared.lines.JobError.{JobError}
use Rattle.floppy_jobs.specs.declared.request.Request.{Request}
use Rattle.floppy_jobs.specs.declared.request.Request.TheVariants as request
use Rattle.floppy_jobs.specs.Lines.{lines_of, line_of, lines_say, with_line, words_of, is_passed_over, text_of}
use Rattle.floppy_jobs.specs.LinesRead.{ReadsText}
use Rattle.floppy_jobs.specs.Names.{name_of, is_name_text, IsName}
use Rattle.floppy_jobs.specs.Numbers.{all_digits, number_of, byte_of, address_of, length_of, hex_byte_of, tries_of}
use Rattle.floppy_jobs.specs.Requests.{insert_of, blank_of, blankdd_of, eject_of, ack_of, sector_of, read_of, write_of, writedel_of, format_of, fill_of, dump_of, unit_of, rate_word_of, rate_of, tries_line_of, plain_of, request_of}
use Rattle.floppy_jobs.specs.Valid.{IsByte, IsSector, IsLength, IsRequest}
use Rattle.floppy_jobs.proofs.NameLemmas.{and_left, and_right}

-- what a choice or a chain of readings gave

chosen : {A : Type 0} (P : A → Type 0) (b : Bool) (x y : Option A) → ((z : A) → x ≡ Some z → P z) → ((z : A) → y ≡ Some z → P z)
    → (z : A) → cond b x y ≡ Some z → P z
chosen P true x y f g z h = f z h
chosen P false x y f g z h = g z h

nothing : {A : Type 0} (P : A → Type 0) (z : A) → None ≡ Some z → P z
nothing P z h = cc

bound : {A B : Type 0} (P : B → Type 0) (o : Option A) (f : A → Option B) → ((x : A) → o ≡ Some x → (y : B) → f x ≡ Some y → P y)
    → (y : B) → option_and_then f o ≡ Some y → P y
bound P None f g y h = cc
bound P (Some x) f g y h = g x refl y h

given : {A : Type 0} (P : A → Type 0) (x y : A) → P x → Some x ≡ Some y → P y
given P x y p h = let e : x ≡ y = cc in subst P e p

-- numbers and names

number_range : (least greatest n : ℕ) (b : Bool) (value : ℕ) → cond (b && nat_le least value && nat_le value greatest) (Some value) None ≡ Some n
    → (least ≤ n) × (n ≤ greatest)
number_range least greatest n b value h =
    tested (b && nat_le least value && nat_le value greatest) refl h
  where
    tested : (t : Bool) → (b && nat_le least value && nat_le value greatest) ≡ t → cond t (Some value) None ≡ Some n → (least ≤ n) × (n ≤ greatest)
    tested true e k =
        let same : value ≡ n = cc in
        let low = leb-true least value (and_right _ _ (and_left _ _ e)) in
        let high = leb-true value greatest (and_right _ _ e) in
        (omega arith, omega arith)
    tested false e k = cc

number_of-range : (base fewest most least greatest : ℕ) (word : List ℕ) (n : ℕ) → number_of base fewest most least greatest word ≡ Some n → (least ≤ n) × (n ≤ greatest)
unfolding number_of
number_of-range base fewest most least greatest word n h =
    number_range least greatest n (nat_le fewest (length word) && nat_le (length word) most && all_digits base word) (digits_value base word) h

byte-range : (word : List ℕ) (n : ℕ) → byte_of word ≡ Some n → IsByte n
unfolding byte_of
byte-range word n h = omega (arith, (number_of-range 10 1 3 0 255 word n h).1)

address-range : (word : List ℕ) (n : ℕ) → address_of word ≡ Some n → n < 0x100000
unfolding address_of
address-range word n h = omega (arith, (number_of-range 16 1 5 0 0xFFFFF word n h).1)

length-range : (word : List ℕ) (n : ℕ) → length_of word ≡ Some n → IsLength n
unfolding length_of
length-range word n h = number_of-range 10 1 5 1 65536 word n h

hex_byte-range : (word : List ℕ) (n : ℕ) → hex_byte_of word ≡ Some n → IsByte n
unfolding hex_byte_of
hex_byte-range word n h = omega (arith, (number_of-range 16 2 2 0 255 word n h).1)

tries-range : (word : List ℕ) (n : ℕ) → tries_of word ≡ Some n → (1 ≤ n) × (n ≤ 10)
unfolding tries_of
tries-range word n h = number_of-range 10 1 2 1 10 word n h

name-is : (word name : List ℕ) → name_of word ≡ Some name → IsName name
unfolding name_of
name-is word name h = tested (is_name_text word) refl h
  where
    tested : (t : Bool) → is_name_text word ≡ t → cond t (Some word) None ≡ Some name → IsName name
    tested true e k = let same : word ≡ name = cc in subst IsName same e
    tested false e k = cc

-- the lines of a job

insert-valid : (fields : List (List ℕ)) (r : Request) → insert_of fields ≡ Some r → IsRequest r
unfolding insert_of
insert-valid (d ∷ word ∷ []) r h = bound IsRequest (byte_of d) _ (λ bay b. bound IsRequest (name_of word) _ (λ name n y k.
    given IsRequest (request.Insert bay name) y (byte-range d bay b, name-is word name n) k)) r h
insert-valid _ r h = cc

blank-valid : (fields : List (List ℕ)) (r : Request) → blank_of fields ≡ Some r → IsRequest r
unfolding blank_of
blank-valid (d ∷ word ∷ count ∷ []) r h = bound IsRequest (byte_of d) _ (λ bay b. bound IsRequest (name_of word) _ (λ name n. bound IsRequest (byte_of count) _ (λ cylinders c y k.
    given IsRequest (request.Blank bay name cylinders) y (byte-range d bay b, name-is word name n, byte-range count cylinders c) k))) r h
blank-valid _ r h = cc

blankdd-valid : (fields : List (List ℕ)) (r : Request) → blankdd_of fields ≡ Some r → IsRequest r
unfolding blankdd_of
blankdd-valid (d ∷ word ∷ count ∷ []) r h = bound IsRequest (byte_of d) _ (λ bay b. bound IsRequest (name_of word) _ (λ name n. bound IsRequest (byte_of count) _ (λ cylinders c y k.
    given IsRequest (request.BlankDd bay name cylinders) y (byte-range d bay b, name-is word name n, byte-range count cylinders c) k))) r h
blankdd-valid _ r h = cc

eject-valid : (fields : List (List ℕ)) (r : Request) → eject_of fields ≡ Some r → IsRequest r
unfolding eject_of
eject-valid (d ∷ []) r h = bound IsRequest (byte_of d) _ (λ bay b y k.
    given IsRequest (request.Eject bay) y (byte-range d bay b) k) r h
eject-valid _ r h = cc

ack-valid : (fields : List (List ℕ)) (r : Request) → ack_of fields ≡ Some r → IsRequest r
unfolding ack_of
ack-valid (d ∷ []) r h = bound IsRequest (byte_of d) _ (λ bay b y k.
    given IsRequest (request.Ack bay) y (byte-range d bay b) k) r h
ack-valid _ r h = cc

unit-valid : (fields : List (List ℕ)) (r : Request) → unit_of fields ≡ Some r → IsRequest r
unfolding unit_of
unit-valid (d ∷ []) r h = bound IsRequest (byte_of d) _ (λ bay b y k.
    given IsRequest (request.Unit bay) y (byte-range d bay b) k) r h
unit-valid _ r h = cc

abbrev IsSectorRead : ℕ × Chrn × ℕ → Type 0
IsSectorRead at = IsSector at.0 at.1 at.2

sector-valid : (fields : List (List ℕ)) (found : ℕ × Chrn × ℕ) → sector_of fields ≡ Some found → IsSectorRead found
unfolding sector_of
sector-valid (d ∷ cylinder ∷ head ∷ sector ∷ size ∷ place ∷ []) found got = bound IsSectorRead (byte_of d) _ (λ bay b. bound IsSectorRead (byte_of cylinder) _ (λ c cb. bound IsSectorRead (byte_of head) _ (λ h hb. bound IsSectorRead (byte_of sector) _ (λ r rb. bound IsSectorRead (byte_of size) _ (λ n nb. bound IsSectorRead (address_of place) _ (λ address a y k.
    given IsSectorRead (bay, record { c = c; h = h; r = r; n = n }, address) y (byte-range d bay b, byte-range cylinder c cb, byte-range head h hb, byte-range sector r rb, byte-range size n nb, address-range place address a) k)))))) found got
sector-valid _ found got = cc

read-valid : (fields : List (List ℕ)) (r : Request) → read_of fields ≡ Some r → IsRequest r
unfolding read_of
read-valid fields r h = bound IsRequest (sector_of fields) _ (λ at s y k.
    given IsRequest (request.Read at.0 at.1 at.2) y (sector-valid fields at s) k) r h

write-valid : (fields : List (List ℕ)) (r : Request) → write_of fields ≡ Some r → IsRequest r
unfolding write_of
write-valid fields r h = bound IsRequest (sector_of fields) _ (λ at s y k.
    given IsRequest (request.Write at.0 at.1 at.2) y (sector-valid fields at s) k) r h

writedel-valid : (fields : List (List ℕ)) (r : Request) → writedel_of fields ≡ Some r → IsRequest r
unfolding writedel_of
writedel-valid fields r h = bound IsRequest (sector_of fields) _ (λ at s y k.
    given IsRequest (request.WriteDeleted at.0 at.1 at.2) y (sector-valid fields at s) k) r h

format-valid : (fields : List (List ℕ)) (r : Request) → format_of fields ≡ Some r → IsRequest r
unfolding format_of
format-valid (d ∷ cylinder ∷ head ∷ []) r got = bound IsRequest (byte_of d) _ (λ bay b. bound IsRequest (byte_of cylinder) _ (λ c cb. bound IsRequest (byte_of head) _ (λ h hb y k.
    given IsRequest (request.Format bay c h) y (byte-range d bay b, byte-range cylinder c cb, byte-range head h hb) k))) r got
format-valid _ r h = cc

fill-valid : (fields : List (List ℕ)) (r : Request) → fill_of fields ≡ Some r → IsRequest r
unfolding fill_of
fill-valid (place ∷ count ∷ value ∷ []) r h = bound IsRequest (address_of place) _ (λ address a. bound IsRequest (length_of count) _ (λ size l. bound IsRequest (hex_byte_of value) _ (λ byte b y k.
    given IsRequest (request.Fill address size byte) y (address-range place address a, length-range count size l, hex_byte-range value byte b) k))) r h
fill-valid _ r h = cc

dump-valid : (fields : List (List ℕ)) (r : Request) → dump_of fields ≡ Some r → IsRequest r
unfolding dump_of
dump-valid (place ∷ count ∷ []) r h = bound IsRequest (address_of place) _ (λ address a. bound IsRequest (length_of count) _ (λ size l y k.
    given IsRequest (request.Dump address size) y (address-range place address a, length-range count size l) k)) r h
dump-valid _ r h = cc

rate-valid : (fields : List (List ℕ)) (r : Request) → rate_of fields ≡ Some r → IsRequest r
unfolding rate_of
rate-valid (d ∷ word ∷ []) r h = bound IsRequest (byte_of d) _ (λ bay b. bound IsRequest (rate_word_of word) _ (λ rate w y k.
    given IsRequest (request.SetRate bay rate) y (byte-range d bay b) k)) r h
rate-valid _ r h = cc

tries_line-valid : (fields : List (List ℕ)) (r : Request) → tries_line_of fields ≡ Some r → IsRequest r
unfolding tries_line_of
tries_line-valid (word ∷ []) r h = bound IsRequest (tries_of word) _ (λ tries t y k.
    given IsRequest (request.Tries tries) y (tries-range word tries t) k) r h
tries_line-valid _ r h = cc

plain-valid : (verb : List ℕ) (fields : List (List ℕ)) (r : Request) → plain_of verb fields ≡ Some r → IsRequest r
unfolding plain_of
plain-valid verb fields r h =
    chosen IsRequest (bytes_eq verb (codes "eject")) _ _ (eject-valid fields) (
    chosen IsRequest (bytes_eq verb (codes "ack")) _ _ (ack-valid fields) (
    chosen IsRequest (bytes_eq verb (codes "read")) _ _ (read-valid fields) (
    chosen IsRequest (bytes_eq verb (codes "write")) _ _ (write-valid fields) (
    chosen IsRequest (bytes_eq verb (codes "writedel")) _ _ (writedel-valid fields) (
    chosen IsRequest (bytes_eq verb (codes "format")) _ _ (format-valid fields) (
    chosen IsRequest (bytes_eq verb (codes "fill")) _ _ (fill-valid fields) (
    chosen IsRequest (bytes_eq verb (codes "dump")) _ _ (dump-valid fields) (
    chosen IsRequest (bytes_eq verb (codes "unit")) _ _ (unit-valid fields) (
    chosen IsRequest (bytes_eq verb (codes "rate")) _ _ (rate-valid fields) (
    chosen IsRequest (bytes_eq verb (codes "tries")) _ _ (tries_line-valid fields) (
    nothing IsRequest))))))))))) r h

pub request-valid : (words : List (List ℕ)) (r : Request) → request_of words ≡ Some r → IsRequest r
unfolding request_of
request-valid [] r h = cc
request-valid (verb ∷ fields) r h =
    chosen IsRequest (bytes_eq verb (codes "insert")) _ _ (insert-valid fields) (
    chosen IsRequest (bytes_eq verb (codes "blank")) _ _ (blank-valid fields) (
    chosen IsRequest (bytes_eq verb (codes "blankdd")) _ _ (blankdd-valid fields) (plain-valid verb fields))) r h

-- texts

line-valid : {T : Type 0} (P : T → Type 0) (spelled : List (List ℕ) → Option T) (each : (words : List (List ℕ)) (x : T) → spelled words ≡ Some x → P x)
    → (line : List ℕ) (x : T) → line_of spelled line ≡ Some (Some x) → P x
unfolding line_of
line-valid {T} P spelled each line x h = long (nat_lt 200 (length line)) h
  where
    said : (o : Option T) → o ≡ spelled (words_of line) → option_map Some o ≡ Some (Some x) → P x
    said None e k = cc
    said (Some y) e k = let same : y ≡ x = cc in subst P same (each (words_of line) y (sym e))

    passed : (t : Bool) → cond t (Some None) (option_map Some (spelled (words_of line))) ≡ Some (Some x) → P x
    passed true k = cc
    passed false k = said (spelled (words_of line)) refl k

    long : (t : Bool) → cond t None (cond (is_passed_over line) (Some None) (option_map Some (spelled (words_of line)))) ≡ Some (Some x) → P x
    long true k = cc
    long false k = passed (is_passed_over line) k

with_line-valid : {T : Type 0} (P : T → Type 0) (n : ℕ) (o : Option (Option T)) (said : Result (List T) ℕ)
    → ((x : T) → o ≡ Some (Some x) → P x) → ((more : List T) → said ≡ Ok more → AllByRecursion P more)
    → (items : List T) → with_line n o said ≡ Ok items → AllByRecursion P items
with_line-valid P n (Some None) said each rest items h = rest items h
with_line-valid P n (Some (Some x)) (Ok more) each rest items h =
    let same : x ∷ more ≡ items = cc in
    subst (AllByRecursion P) same (each x refl, rest more refl)
with_line-valid P n _ _ each rest items h = cc

lines-valid : {T : Type 0} (P : T → Type 0) (spelled : List (List ℕ) → Option T) (each : (words : List (List ℕ)) (x : T) → spelled words ≡ Some x → P x)
    → (most n : ℕ) (lines : List (List ℕ)) (items : List T) → lines_say spelled most n lines ≡ Ok items → AllByRecursion P items
lines-valid {T} P spelled each most n [] items h =
    let same : [] ≡ items = cc in subst (AllByRecursion P) same tt
lines-valid {T} P spelled each most n (line ∷ lines) items h =
    within (nat_lt most n) (with_line n (line_of spelled (strip_carriage_return line)) (lines_say spelled most (n + 1) lines))
    (with_line-valid P n (line_of spelled (strip_carriage_return line)) (lines_say spelled most (n + 1) lines)
    (line-valid P spelled each (strip_carriage_return line)) (λ more k. lines-valid P spelled each most (n + 1) lines more k) items) h
  where
    within : (t : Bool) (said : Result (List T) ℕ) → (said ≡ Ok items → AllByRecursion P items) → cond t (Err n) said ≡ Ok items → AllByRecursion P items
    within true said f k = cc
    within false said f k = f k

pub text-valid : {T : Type 0} (P : T → Type 0) (spelled : List (List ℕ) → Option T) (each : (words : List (List ℕ)) (x : T) → spelled words ≡ Some x → P x)
    → (most : ℕ) (text : List ℕ) (items : List T) → text_of spelled most text ≡ Ok items → All P items
unfolding text_of
text-valid P spelled each most text items h = fits (nat_lt 4194304 (length text)) h
  where
    fits : (t : Bool) → cond t (Err 0) (lines_say spelled most 1 (lines_of text)) ≡ Ok items → All P items
    fits true k = cc
    fits false k = All-from_recursion P items (lines-valid P spelled each most 1 (lines_of text) items k)

-- what holds of each item that a text says also holds of each item that a call returned
pub kept-valid : {A T : Type 0} (P : T → Type 0) (items : A → List T) (r : Result A JobError) (said : Result (List T) ℕ)
    → ((xs : List T) → said ≡ Ok xs → All P xs) → ReadsText items r said → IfOk r (λ kept. All P (items kept))
kept-valid P items (Ok kept) said f h = f (items kept) h
kept-valid P items (Err bad) said f h = tt
