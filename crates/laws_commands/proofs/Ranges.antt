-- The ranges of the fields of a disk that an image gives.
use Rattle.std.proofs.Common.{◌≡◌, ℕ, ◌+◌, ◌*◌, ◌≤◌, Bool, true, false, cond, leb, ltb, List, length, get_or, take, drop, subst, arith, Option, Some, None, Result, Ok, Err}
use Rattle.laws_commands.proofs.Common.{ok_or, leb-true, and_parts, Rate, Disk, ImageError, TooShort, BadMagic, Trailing, disk_of, body_of, whole_length, words_of}
use Rattle.raw_image.specs.Header.{Header, ◌>>=◌, field, version_of, protection_of, rate_of, within, header_of}
use Rattle.raw_image.specs.Image.{image_of}
use Rattle.raw_image.proofs.Headers.{bind_ok}

abbrev told_header : Header → Result Header ImageError
told_header h = Ok h

abbrev told_disk : Disk → Result Disk ImageError
told_disk d = Ok d

field_some : {A : Type 0} (offset : ℕ) (o : Option A) (x : A) → field offset o ≡ Ok x → o ≡ Some x
field_some offset None x same = absurd (cc same)
field_some offset (Some y) x same = cc same

within_range : (least most n m : ℕ) → within least most n ≡ Some m → (m ≤ most) × (least ≤ m)
within_range least most n m e = grind (arith, leb, cond, and_parts, leb-true)

-- the steps of reading a header, each together with the steps after it
abbrev words_then : List ℕ → Bool → ℕ → ℕ → Rate → Result Header ImageError
words_then bytes p c h r =
    field 12 (within 64 16384 (256 * get_or bytes 12 0 + get_or bytes 13 0)) >>= λ w. Ok (record { protected = p; cylinders = c; heads = h; rate = r; words_per_track = w })

abbrev rate_then : List ℕ → Option Rate → Bool → ℕ → ℕ → Result Header ImageError
rate_then bytes told p c h = field 11 told >>= words_then bytes p c h

abbrev heads_then : List ℕ → Option Rate → Bool → ℕ → Result Header ImageError
heads_then bytes told p c = field 10 (within 1 2 (get_or bytes 10 0)) >>= rate_then bytes told p c

abbrev cylinders_then : List ℕ → Option Rate → Bool → Result Header ImageError
cylinders_then bytes told p = field 9 (within 1 80 (get_or bytes 9 0)) >>= heads_then bytes told p

abbrev flags_then : List ℕ → Option Rate → Result Header ImageError
flags_then bytes told = field 8 (protection_of (get_or bytes 8 0)) >>= cylinders_then bytes told

header_range : (bytes : List ℕ) (h : Header) → header_of bytes ≡ Ok h
    → (h.cylinders ≤ 80) × (h.heads ≤ 2) × (1 ≤ h.cylinders) × (h.words_per_track ≤ 16384)
unfolding header_of
header_range bytes h e =
    let v = bind_ok (ok_or (version_of bytes) BadMagic) (λ v. flags_then bytes (rate_of v (get_or bytes 11 0))) h e in
    let told = rate_of v.0 (get_or bytes 11 0) in
    let p = bind_ok (field 8 (protection_of (get_or bytes 8 0))) (cylinders_then bytes told) h v.2 in
    let c = bind_ok (field 9 (within 1 80 (get_or bytes 9 0))) (heads_then bytes told p.0) h p.2 in
    let s = bind_ok (field 10 (within 1 2 (get_or bytes 10 0))) (rate_then bytes told p.0 c.0) h c.2 in
    let r = bind_ok (field 11 told) (words_then bytes p.0 c.0 s.0) h s.2 in
    let w = bind_ok (field 12 (within 64 16384 (256 * get_or bytes 12 0 + get_or bytes 13 0))) (λ w. Ok (record { protected = p.0; cylinders = c.0; heads = s.0; rate = r.0; words_per_track = w })) h r.2 in
    let header : Header = record { protected = p.0; cylinders = c.0; heads = s.0; rate = r.0; words_per_track = w.0 } in
    let cylinders = within_range 1 80 (get_or bytes 9 0) c.0 (field_some 9 _ c.0 c.1) in
    let heads = within_range 1 2 (get_or bytes 10 0) s.0 (field_some 10 _ s.0 s.1) in
    let words = within_range 64 16384 (256 * get_or bytes 12 0 + get_or bytes 13 0) w.0 (field_some 12 _ w.0 w.1) in
    subst (λ (x : Header). (x.cylinders ≤ 80) × (x.heads ≤ 2) × (1 ≤ x.cylinders) × (x.words_per_track ≤ 16384)) (same_ok header h w.2)
    (cylinders.0, heads.0, cylinders.1, words.0)
  where
    same_ok : (x y : Header) → told_header x ≡ told_header y → x ≡ y
    same_ok x y e = cc e

guard_ok : (b : Bool) (e : ImageError) (r : Result Disk ImageError) (d : Disk) → cond b (Err e) r ≡ Ok d → r ≡ Ok d
guard_ok true e r d same = absurd (cc same)
guard_ok false e r d same = same

pub image_range : (bytes : List ℕ) (d : Disk) → image_of bytes ≡ Ok d
    → (d.cylinders ≤ 80) × (d.heads ≤ 2) × (1 ≤ d.cylinders) × (d.words_per_track ≤ 16384)
unfolding image_of
image_range bytes d e =
    let a = guard_ok (ltb (length bytes) 14) (TooShort 14 (length bytes)) (header_of (take 14 bytes) >>= body_of bytes) d e in
    let b = bind_ok (header_of (take 14 bytes)) (body_of bytes) d a in
    let rest = words_of (drop 14 bytes) in
    let c = guard_ok (ltb (length bytes) (whole_length b.0)) (TooShort (whole_length b.0) (length bytes)) (cond (ltb (whole_length b.0) (length bytes)) (Err (Trailing (whole_length b.0))) (Ok (disk_of b.0 rest))) d b.2 in
    let g = guard_ok (ltb (whole_length b.0) (length bytes)) (Trailing (whole_length b.0)) (Ok (disk_of b.0 rest)) d c in
    subst (λ (x : Disk). (x.cylinders ≤ 80) × (x.heads ≤ 2) × (1 ≤ x.cylinders) × (x.words_per_track ≤ 16384)) (same_ok (disk_of b.0 rest) d g) (header_range (take 14 bytes) b.0 b.1)
  where
    same_ok : (x y : Disk) → told_disk x ≡ told_disk y → x ≡ y
    same_ok x y e = cc e
