-- The lines of a dump, one after the other, and what is put of them.
use Rattle.std.proofs.Common.{arith, map, zero, subst, inl, inr, length-drop, ◌≡◌, ℕ, ◌+◌, ◌-◌, ◌*◌, ◌/◌, ◌%◌, ◌<◌, suc, min, List, [], ◌∷◌, ◌++◌, length, take, drop, append_assoc, append-nil, refl, ap, ◌∙◌, sym, Option, Some, None}
use Rattle.commands.proofs.Common.{range_with_len, flat_map, take_all, map-append, cases_lt, Status, grown, IsCutOf, GrowsByPart, hex5, dump_byte, line_end}
use Rattle.std.specs.Prelude.{Result, Ok, Err, OnErr}
use Rattle.sector_model.specs.Texts.{dump_line, dump_lines}

-- the first lines of a dump
unfoldable pub lines_below : ℕ → List ℕ → ℕ → List (List ℕ)
lines_below address bytes count =
    map (λ i. dump_line (address + 16 * i) (take 16 (drop (16 * i) bytes))) (range_with_len 0 count)

-- the lines of a dump from one on
unfoldable pub lines_from : ℕ → List ℕ → ℕ → ℕ → List (List ℕ)
lines_from address bytes start count =
    map (λ i. dump_line (address + 16 * i) (take 16 (drop (16 * i) bytes))) (range_with_len start count)

-- a report that grew twice grew by the lines of both
pub grown-twice : (told : Option (List (List ℕ))) (first second : List (List ℕ)) → grown (grown told first) second ≡ grown told (first ++ second)
grown-twice None first second = refl
grown-twice (Some told) first second = ap (λ s. Some s) (append_assoc told first second)

-- what is put of a line when a part of it is put doesn't depend on the lines after it
cut-longer : (next rest cut : List (List ℕ)) → IsCutOf next cut → IsCutOf (next ++ rest) cut
cut-longer next rest [] is = tt
cut-longer [] rest (first ∷ others) is = absurd is
cut-longer (line ∷ later) rest (first ∷ others) is = is

-- a report that grew by whole lines and by a part of the next ones grew by a part of all
pub part-behind : (told new : Option (List (List ℕ))) (first second rest : List (List ℕ)) → GrowsByPart (grown told first) second new → GrowsByPart told (first ++ (second ++ rest)) new
part-behind None new first second rest grows = grows
part-behind (Some told) new first second rest grows = (
  first ++ grows.0,
  grows.1 ++ rest,
  grows.2,
  ap (λ s. first ++ (s ++ rest)) grows.3 ∙ ap (λ s. first ++ s) (append_assoc grows.0 grows.1 rest) ∙ sym (append_assoc first grows.0 (grows.1 ++ rest)),
  cut-longer grows.1 rest grows.2 grows.4,
  grows.5 ∙ ap (λ s. Some s) (append_assoc told first (grows.0 ++ grows.2) ∙ ap (λ s. told ++ s) (sym (append_assoc first grows.0 grows.2))),
)

-- a report to which nothing was put grew by a part of any lines
pub part-nothing : (told : Option (List (List ℕ))) (lines : List (List ℕ)) → GrowsByPart told lines told
part-nothing None lines = refl
part-nothing (Some told) lines = ([], lines, [], refl, tt, ap (λ s. Some s) (sym (append-nil told)))

-- a part of the first lines is a part of all
pub part-longer : (told new : Option (List (List ℕ))) (first second : List (List ℕ)) → GrowsByPart told first new → GrowsByPart told (first ++ second) new
part-longer None new first second grows = grows
part-longer (Some told) new first second grows = (
  grows.0,
  grows.1 ++ second,
  grows.2,
  ap (λ s. s ++ second) grows.3 ∙ append_assoc grows.0 grows.1 second,
  cut-longer grows.1 second grows.2 grows.4,
  grows.5,
)

-- the digits of an address depend only on its last twenty bits
pub hex5-wraps : (n m : ℕ) → m ≡ n % 4294967296 → hex5 m ≡ hex5 n
hex5-wraps n m same =
    let first : m / 65536 % 16 ≡ n / 65536 % 16 = omega arith in
    let second : m / 4096 % 16 ≡ n / 4096 % 16 = omega arith in
    let third : m / 256 % 16 ≡ n / 256 % 16 = omega arith in
    let fourth : m / 16 % 16 ≡ n / 16 % 16 = omega arith in
    let fifth : m % 16 ≡ n % 16 = omega arith in
    rw (first, second, third, fourth, fifth) refl

pub dump_line-wraps : (n m : ℕ) (bytes : List ℕ) → m ≡ n % 4294967296 → dump_line m bytes ≡ dump_line n bytes
unfolding dump_line
dump_line-wraps n m bytes same = ap (λ s. s ++ (flat_map dump_byte bytes ++ line_end)) (hex5-wraps n m same)

-- numbers in a row, in two parts
range_split : (a n m : ℕ) → range_with_len a (n + m) ≡ range_with_len a n ++ range_with_len (a + n) m
range_split a zero m =
    let count : zero + m ≡ m = omega arith in
    let start : a + zero ≡ a = omega arith in
    ap (λ k. range_with_len a k) count ∙ ap (λ k. range_with_len k m) (sym start)
range_split a (suc n) m =
    let count : suc n + m ≡ suc (n + m) = omega arith in
    let start : a + 1 + n ≡ a + suc n = omega arith in
    ap (λ k. range_with_len a k) count ∙ ap (λ ks. a ∷ ks) (range_split (a + 1) n m ∙ ap (λ k. range_with_len (a + 1) n ++ range_with_len k m) start)

-- a dump is its first lines, the next one, and the rest
lines_split : (address : ℕ) (bytes : List ℕ) (i m : ℕ) → lines_below address bytes (i + (1 + m)) ≡ lines_below address bytes i ++ dump_line (address + 16 * i) (take 16 (drop (16 * i) bytes)) ∷ lines_from address bytes (i + 1) m
unfolding lines_below lines_from
lines_split address bytes i m =
    let next : 0 + i ≡ i = omega arith in
    let count : 1 + m ≡ suc m = omega arith in
    let line = λ (k : ℕ). dump_line (address + 16 * k) (take 16 (drop (16 * k) bytes)) in
    ap (map line) (range_split 0 i (1 + m))
    ∙ map-append line (range_with_len 0 i) (range_with_len (0 + i) (1 + m))
    ∙ ap (λ k. map line (range_with_len 0 i) ++ map line (range_with_len k (1 + m))) next
    ∙ ap (λ k. map line (range_with_len 0 i) ++ map line (range_with_len i k)) count

lines_none : (address : ℕ) (bytes : List ℕ) (i : ℕ) → lines_from address bytes i 0 ≡ []
unfolding lines_from
lines_none address bytes i = refl

-- no line so far
pub lines-none : (address : ℕ) (bytes : List ℕ) → lines_below address bytes 0 ≡ []
unfolding lines_below
lines-none address bytes = refl

-- one line more
lines-more : (address : ℕ) (bytes : List ℕ) (i : ℕ) → lines_below address bytes (i + 1) ≡ lines_below address bytes i ++ dump_line (address + 16 * i) (take 16 (drop (16 * i) bytes)) ∷ []
lines-more address bytes i =
    lines_split address bytes i 0 ∙ ap (λ s. lines_below address bytes i ++ dump_line (address + 16 * i) (take 16 (drop (16 * i) bytes)) ∷ s) (lines_none address bytes (i + 1))

-- all lines together are the dump
pub lines-all : (address : ℕ) (bytes : List ℕ) → lines_below address bytes ((length bytes + 15) / 16) ≡ dump_lines address bytes
unfolding lines_below dump_lines
lines-all address bytes = refl

-- the bytes of a line, however short the last is
pub row_of-line : (bytes row : List ℕ) (i : ℕ) → row ≡ take (min (length bytes) (16 * i + 16) - 16 * i) (drop (16 * i) bytes) → row ≡ take 16 (drop (16 * i) bytes)
row_of-line bytes row i is =
    is ∙ clipped (drop (16 * i) bytes) (min (length bytes) (16 * i + 16) - 16 * i) (omega (arith, length-drop (16 * i) bytes))
  where
    clipped : (l : List ℕ) (m : ℕ) → m ≡ min (length l) 16 → take m l ≡ take 16 l
    clipped l m same = elim (cases_lt (length l) 16) [
      | inl short ↦ (take_all m l (omega arith) ∙ sym (take_all 16 l (omega arith)))
      | inr more ↦ (let cut : m ≡ 16 = omega arith in ap (λ k. take k l) cut)
    ]

-- a line was put whole: one line more
pub line-put : (told before now : Option (List (List ℕ))) (address place i : ℕ) (bytes row : List ℕ) → before ≡ grown told (lines_below address bytes i) → place ≡ (address + 16 * i) % 4294967296 → row ≡ take 16 (drop (16 * i) bytes) → now ≡ grown before (dump_line place row ∷ []) → now ≡ grown told (lines_below address bytes (i + 1))
line-put told before now address place i bytes row so_far at is put =
    put ∙ ap (λ b. grown b (dump_line place row ∷ [])) so_far ∙ grown-twice told (lines_below address bytes i) (dump_line place row ∷ [])
    ∙ ap (λ s. grown told (lines_below address bytes i ++ s ∷ [])) (dump_line-wraps (address + 16 * i) place row at ∙ ap (dump_line (address + 16 * i)) is)
    ∙ ap (grown told) (sym (lines-more address bytes i))

-- a line was cut: a part of the dump was put
pub line-cut : (told before now : Option (List (List ℕ))) (address place i : ℕ) (bytes row : List ℕ) → before ≡ grown told (lines_below address bytes i) → place ≡ (address + 16 * i) % 4294967296 → row ≡ take 16 (drop (16 * i) bytes) → i < (length bytes + 15) / 16 → GrowsByPart before (dump_line place row ∷ []) now → GrowsByPart told (dump_lines address bytes) now
line-cut told before now address place i bytes row so_far at is within cut =
    let row_line = dump_line (address + 16 * i) (take 16 (drop (16 * i) bytes)) in
    let line : dump_line place row ≡ row_line = dump_line-wraps (address + 16 * i) place row at ∙ ap (dump_line (address + 16 * i)) is in
    let there : GrowsByPart (grown told (lines_below address bytes i)) (row_line ∷ []) now = subst (λ (b : Option (List (List ℕ))). GrowsByPart b (row_line ∷ []) now) so_far (subst (λ (s : List ℕ). GrowsByPart before (s ∷ []) now) line cut) in
    let rest = (length bytes + 15) / 16 - (i + 1) in
    let count : i + (1 + rest) ≡ (length bytes + 15) / 16 = omega arith in
    let whole : lines_below address bytes i ++ row_line ∷ lines_from address bytes (i + 1) rest ≡ dump_lines address bytes = sym (lines_split address bytes i rest) ∙ ap (lines_below address bytes) count ∙ lines-all address bytes in
    subst (λ (s : List (List ℕ)). GrowsByPart told s now) whole (part-behind told now (lines_below address bytes i) (row_line ∷ []) (lines_from address bytes (i + 1) rest) there)

-- no lines leave a report as it is
pub grown-nothing : (told : Option (List (List ℕ))) → grown told [] ≡ told
grown-nothing None = refl
grown-nothing (Some told) = ap (λ s. Some s) (append-nil told)

-- a fact that holds anyway holds on an error
pub on_err : {P : Type 0} (result : Result (Unit {0}) Status) → P → OnErr result P
on_err (Ok x) fact = tt
on_err (Err e) fact = fact
