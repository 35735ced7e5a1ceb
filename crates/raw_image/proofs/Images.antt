-- A medium that is read from bytes is spelled by them, and a medium that bytes spell is read from them.
use Rattle.std.proofs.Common.{◌≡◌, ℕ, zero, suc, ◌+◌, ◌*◌, ◌/◌, ◌≤◌, Bool, true, false, cond, ltb, List, [], ◌∷◌, ◌++◌, length, take, drop, refl, sym, ap, subst, ◌∙◌, arith, Result, Ok, Err, inl, inr, length-append, length-drop}
use Rattle.std.specs.Prelude.{IfOk}
use Rattle.raw_image.proofs.Common.{drop_of_length-le, cases_lt, ltb-false, le-ltb, append-nil, take_at, drop_at, take-append-drop, get_or-drop, get_or-take, get_or_past, length-take-le, length-take, ImageError, TooShort, Trailing, Version, First, Second, Disk, IsDisk, words_of, bytes_of, Header, word_count, header_of, header_bytes, spelling, Spells, disk_of, whole_length, body_of, Reads}
use Rattle.raw_image.specs.Header.{◌>>=◌}
use Rattle.raw_image.specs.Image.{image_of}
use Rattle.raw_image.proofs.Pairs.{IsBytes, IsWords, length-bytes_of, bytes_again, words_again}
use Rattle.raw_image.proofs.Headers.{bind_ok, CanTell, header_found, header_again}

IsBytes-drop : (n : ℕ) (bytes : List ℕ) → IsBytes bytes → IsBytes (drop n bytes)
IsBytes-drop n bytes h i = rw get_or-drop (h (n + i))

IsBytes-take : (n : ℕ) (bytes : List ℕ) → IsBytes bytes → IsBytes (take n bytes)
IsBytes-take n bytes h i =
    elim (cases_lt i n) [
      | inl lt ↦ rw (get_or-take n bytes i 0 lt) (h i)
      | inr le ↦ rw (get_or_past (take n bytes) i 0 (omega (arith, length-take n bytes))) (omega arith)
    ]

words_fit : (bytes : List ℕ) → IsBytes bytes → IsWords (words_of bytes)
words_fit (high ∷ low ∷ rest) fits zero =
    let high_fits = fits 0 in
    let low_fits = fits 1 in
    omega (arith, high_fits, low_fits)
words_fit (high ∷ low ∷ rest) fits (suc k) = words_fit rest (λ i. fits (suc (suc i))) k
words_fit _ fits k = omega arith

guard_ok : (b : Bool) (e : ImageError) (r : Result Disk ImageError) (d : Disk) → cond b (Err e) r ≡ Ok d → (b ≡ false) × (r ≡ Ok d)
guard_ok true e r d same = absurd cc
guard_ok false e r d same = (refl, same)

abbrev done : Disk → Result Disk ImageError
done d = Ok d

same_ok : (x y : Disk) → done x ≡ done y → x ≡ y
same_ok x y e = cc

-- the spelling in either version
spells_by : (v : Version) (d : Disk) (bytes : List ℕ) → IsDisk d → CanTell v d.rate → bytes ≡ spelling v d → Spells bytes d
spells_by First d bytes valid tells same = (valid, inr (tells, same))
spells_by Second d bytes valid tells same = (valid, inl same)

pub image_found : (bytes : List ℕ) (d : Disk) → IsBytes bytes → image_of bytes ≡ Ok d → Spells bytes d
unfolding image_of
image_found bytes d fits e =
    let rest = drop 14 bytes in
    let a = guard_ok (ltb (length bytes) 14) (TooShort 14 (length bytes)) (header_of (take 14 bytes) >>= body_of bytes) d e in
    let long : 14 ≤ length bytes = ltb-false _ _ a.0 in
    let b = bind_ok (header_of (take 14 bytes)) (body_of bytes) d a.1 in
    let h = b.0 in
    let c = guard_ok (ltb (length bytes) (whole_length h)) (TooShort (whole_length h) (length bytes)) (cond (ltb (whole_length h) (length bytes)) (Err (Trailing (whole_length h))) (Ok (disk_of h (words_of rest)))) d b.2 in
    let g = guard_ok (ltb (whole_length h) (length bytes)) (Trailing (whole_length h)) (Ok (disk_of h (words_of rest))) d c.1 in
    let least : whole_length h ≤ length bytes = ltb-false _ _ c.0 in
    let most : length bytes ≤ whole_length h = ltb-false _ _ g.0 in
    let len : length rest ≡ 2 * word_count h = omega (arith, length-drop 14 bytes, least, most) in
    let found = header_found (take 14 bytes) h (IsBytes-take 14 bytes fits) (length-take-le 14 bytes long) b.1 in
    let v = found.0 in
    let rest_fits = IsBytes-drop 14 bytes fits in
    let even : drop (length rest / 2 * 2) rest ≡ [] = drop_of_length-le rest {i = length rest / 2 * 2} (omega (arith, len)) in
    let body : bytes_of (words_of rest) ≡ rest = sym (append-nil (bytes_of (words_of rest))) ∙ ap (λ (bs : List ℕ). bytes_of (words_of rest) ++ bs) (sym even) ∙ bytes_again rest rest_fits in
    let valid : IsDisk (disk_of h (words_of rest)) = record {
      cylinders = found.1.ranges.cylinders;
      heads = found.1.ranges.heads;
      words_per_track = found.1.ranges.words_per_track;
      count = omega (arith, ap length body, length-bytes_of (words_of rest), len);
      each = words_fit rest rest_fits;
    } in
    let whole : bytes ≡ spelling v (disk_of h (words_of rest)) =
    sym (take-append-drop 14 bytes) ∙ ap (λ (bs : List ℕ). bs ++ rest) found.1.spelled ∙ ap (λ (bs : List ℕ). header_bytes v (disk_of h []) ++ bs) (sym body) in
    subst (λ (x : Disk). Spells bytes x) (same_ok (disk_of h (words_of rest)) d g.1) (spells_by v (disk_of h (words_of rest)) bytes valid found.1.tells whole)

-- the fields of a medium without its words
abbrev header_from : Disk → Header
header_from d = record { protected = d.protected; cylinders = d.cylinders; heads = d.heads; rate = d.rate; words_per_track = d.words_per_track }

length-header_bytes : (v : Version) (d : Disk) → length (header_bytes v d) ≡ 14
length-header_bytes First d = refl
length-header_bytes Second d = refl

pub spelling_again : (v : Version) (d : Disk) → IsDisk d → CanTell v d.rate → image_of (spelling v d) ≡ Ok d
unfolding image_of
spelling_again v d valid tells =
    let head = header_bytes v d in
    let body = bytes_of d.words in
    let head_len = length-header_bytes v d in
    let len : length (head ++ body) ≡ whole_length (header_from d) = omega (arith, length-append head body, head_len, length-bytes_of d.words, valid.count) in
    let long : ltb (length (head ++ body)) 14 ≡ false = le-ltb _ _ (omega (arith, len)) in
    let not_short : ltb (length (head ++ body)) (whole_length (header_from d)) ≡ false = le-ltb _ _ (omega (arith, len)) in
    let not_long : ltb (whole_length (header_from d)) (length (head ++ body)) ≡ false = le-ltb _ _ (omega (arith, len)) in
    let front : take 14 (head ++ body) ≡ head = take_at head body 14 head_len in
    let back : drop 14 (head ++ body) ≡ body = drop_at head body 14 head_len in
    let header : header_of head ≡ Ok (header_from d) = header_again v (header_from d) tells (record { cylinders = valid.cylinders; heads = valid.heads; words_per_track = valid.words_per_track }) in
    rw (long, front, header, not_short, not_long, back, words_again d.words valid.each) refl

pub image_again : (bytes : List ℕ) (d : Disk) → Spells bytes d → image_of bytes ≡ Ok d
image_again bytes d (valid, inl second) = ap image_of second ∙ spelling_again Second d valid tt
image_again bytes d (valid, inr first) = ap image_of first.1 ∙ spelling_again First d valid first.0

-- ---- the two laws of what was answered

pub is_found : (bytes : List ℕ) (r : Result Disk ImageError) → IsBytes bytes → Reads (image_of bytes) r → IfOk r (Spells bytes)
is_found bytes (Ok d) fits read = image_found bytes d fits read
is_found bytes (Err e) fits read = tt

pub is_only : (bytes : List ℕ) (r : Result Disk ImageError) (d : Disk) → Reads (image_of bytes) r → Spells bytes d → Reads (Ok d) r
is_only bytes r d read spells = subst (λ (image : Result Disk ImageError). Reads image r) (image_again bytes d spells) read
