-- The file that is written of an image is read as that image.
use Rattle.std.proofs.Common.{◌≡◌, ℕ, zero, suc, ◌+◌, ◌*◌, ◌^◌, ◌%◌, ◌≤◌, ◌<◌, Bool, true, false, not, ◌&&◌, eqb, ltb, cond, List, [], ◌∷◌, ◌++◌, length, get_or, replicate, Option, Some, None, Result, Ok, refl, sym, ap, ◌∙◌, append_assoc, length-append, arith, All}
use Rattle.std.specs.Prelude.{IfSome}
use Rattle.imagedisk.proofs.Common.{list_any, flat_map, eqb-true, le-ltb, le-leb, take_at, drop_at, get_or-map, flat_map-cons, list_any_at, Rate, R500, R250, Chrn, ImageError, ImdKind, Absent, Good, Deleted, Bad, BadDeleted, ImdSector, ImdTrack, KeyPart, Cylinder, Head, Number, kept_size, IsImdSector, IsImdTrack, Rest, part, mode_byte, rate_of, cylinder_of, size_code_of, head_of, has_track, new_head_of, map_at, key_at, kind_of, part_of, map_of, differs, needed_map, head_byte, is_all, sector_bytes}
use Rattle.raw_image.specs.Header.{◌>>=◌, field}
use Rattle.imagedisk.specs.declared.header.Header.{Header}
use Rattle.imagedisk.specs.Headers.{header_at}
use Rattle.imagedisk.specs.Reading.{content_at, sector_at, sectors_at}

-- the bytes that are left, which begin at this offset
abbrev pub left_at : ℕ → List ℕ → Rest
left_at offset bytes = record { offset = offset; bytes = bytes }

-- Reading from these bytes gives this value and uses them up, at any offset, and whatever bytes follow.
abbrev pub Reads : {A : Type 0} → (Rest → Result (A × Rest) ImageError) → List ℕ → A → Type 0
Reads read bytes value = (offset : ℕ) (more : List ℕ) → (after : ℕ) × (read (left_at offset (bytes ++ more)) ≡ Ok (value, left_at after more))

pub then : {A B : Type 0} (r : Result A ImageError) (f : A → Result B ImageError) (x : A) (y : Result B ImageError) → r ≡ Ok x → f x ≡ y → (r >>= f) ≡ y
then {A = A} r f x y e h = ap (λ (s : Result A ImageError). s >>= f) e ∙ h

-- ---- parts

pub part_again : (count : ℕ) (front : List ℕ) (offset : ℕ) (more : List ℕ) → length front ≡ count
    → part count (left_at offset (front ++ more)) ≡ Ok (front, left_at (offset + count) more)
part_again count front offset more len =
    let long : ltb (length (front ++ more)) count ≡ false = le-ltb _ _ (omega (arith, length-append front more)) in
    rw (long, take_at front more count len, drop_at front more count len) refl

pub field_again : {A : Type 0} (offset : ℕ) (told : Option A) (x : A) → told ≡ Some x → field offset told ≡ Ok x
field_again offset told x e = rw e refl

-- ---- sectors

filled_by : (content : List ℕ) (fill : ℕ) → is_all fill content ≡ true → content ≡ replicate (length content) fill
filled_by [] fill e = refl
filled_by (b ∷ bs) fill e =
    elim (eqb b fill) as (λ t. eqb b fill ≡ t → (t && is_all fill bs) ≡ true → b ∷ bs ≡ replicate (suc (length bs)) fill) [
      | true ↦ (λ same rest. let ih = filled_by bs fill rest in let head = eqb-true b fill same in cc)
      | false ↦ (λ other rest. absurd cc)
    ] refl e

-- the rest of a sector is read, once its type was read
typed : (key : Chrn) (type : ℕ) (kind : ImdKind) (body content : List ℕ) (offset after : ℕ) (more : List ℕ)
    → kind_of type ≡ Some kind → content_at type (128 * 2 ^ key.n) (left_at (offset + 1) (body ++ more)) ≡ Ok (content, left_at after more)
    → sector_at key (left_at offset ((type ∷ body) ++ more)) ≡ Ok (record { key = key; kind = kind; content = content }, left_at after more)
unfolding sector_at
typed key type kind body content offset after more known read =
    then (part 1 (left_at offset ((type ∷ body) ++ more))) (λ t. field offset (kind_of (get_or t.0 0 0)) >>= λ k. content_at (get_or t.0 0 0) (128 * 2 ^ key.n) t.1 >>= λ x. Ok (record { key = key; kind = k; content = x.0 }, x.1))
    (type ∷ [], left_at (offset + 1) (body ++ more)) _ (part_again 1 (type ∷ []) offset (body ++ more) refl)
    (then (field offset (kind_of type)) (λ k. content_at type (128 * 2 ^ key.n) (left_at (offset + 1) (body ++ more)) >>= λ x. Ok (record { key = key; kind = k; content = x.0 }, x.1)) kind _ (field_again offset (kind_of type) kind known)
    (then (content_at type (128 * 2 ^ key.n) (left_at (offset + 1) (body ++ more))) (λ x. Ok (record { key = key; kind = kind; content = x.0 }, x.1)) (content, left_at after more) _ read refl))

-- a sector with data is written with one byte if all its bytes are equal, and otherwise with all bytes
with_data : (full : ℕ) (kind : ImdKind) (key : Chrn) (content : List ℕ) → eqb full 0 ≡ false → eqb (full % 2) 0 ≡ false → eqb (full + 1) 0 ≡ false → eqb ((full + 1) % 2) 0 ≡ true
    → kind_of full ≡ Some kind → kind_of (full + 1) ≡ Some kind → length content ≡ 128 * 2 ^ key.n
    → Reads (sector_at key) (cond (is_all (get_or content 0 0) content) ((full + 1) ∷ get_or content 0 0 ∷ []) (full ∷ content)) (record { key = key; kind = kind; content = content })
with_data full kind key content some odd more_some even known more_known len offset more =
    elim (is_all (get_or content 0 0) content) as (λ t. is_all (get_or content 0 0) content ≡ t → (after : ℕ) × (sector_at key (left_at offset (cond t ((full + 1) ∷ get_or content 0 0 ∷ []) (full ∷ content) ++ more)) ≡ Ok (record { key = key; kind = kind; content = content }, left_at after more))) [
      | true ↦ (λ filled.
          let fill = get_or content 0 0 in
          let all : replicate (128 * 2 ^ key.n) fill ≡ content = ap (λ (n : ℕ). replicate n fill) (sym len) ∙ sym (filled_by content fill filled) in
          let read : content_at (full + 1) (128 * 2 ^ key.n) (left_at (offset + 1) ((fill ∷ []) ++ more)) ≡ Ok (content, left_at (offset + 1 + 1) more) =
          rw (more_some, even) (then (part 1 (left_at (offset + 1) ((fill ∷ []) ++ more))) (λ x. Ok (replicate (128 * 2 ^ key.n) (get_or x.0 0 0), x.1)) (fill ∷ [], left_at (offset + 1 + 1) more) _ (part_again 1 (fill ∷ []) (offset + 1) more refl) (ap (λ (x : List ℕ). Ok (x, left_at (offset + 1 + 1) more)) all)) in
          (offset + 1 + 1, typed key (full + 1) kind (fill ∷ []) content offset (offset + 1 + 1) more more_known read))
      | false ↦ (λ mixed.
          let read : content_at full (128 * 2 ^ key.n) (left_at (offset + 1) (content ++ more)) ≡ Ok (content, left_at (offset + 1 + 128 * 2 ^ key.n) more) =
          rw (some, odd) (part_again (128 * 2 ^ key.n) content (offset + 1) more len) in
          (offset + 1 + 128 * 2 ^ key.n, typed key full kind content content offset (offset + 1 + 128 * 2 ^ key.n) more known read))
    ] refl

nothing_is : (content : List ℕ) → length content ≡ 0 → content ≡ []
nothing_is [] e = refl
nothing_is (b ∷ bs) e = absurd (omega arith)

-- the sector with this kind, key and content
abbrev made : Chrn → ImdKind → List ℕ → ImdSector
made key kind content = record { key = key; kind = kind; content = content }

of_kind : (n : ℕ) (key : Chrn) (kind : ImdKind) (content : List ℕ) → key.n ≡ n → length content ≡ kept_size kind n → Reads (sector_at key) (sector_bytes (made key kind content)) (made key kind content)
of_kind n key Absent content coded len = λ offset more. (offset + 1, typed key 0 Absent [] content offset (offset + 1) more refl (ap (λ (x : List ℕ). Ok (x, left_at (offset + 1) more)) (sym (nothing_is content len))))
of_kind n key Good content coded len = with_data 1 Good key content refl refl refl refl refl refl (len ∙ ap (λ (m : ℕ). 128 * 2 ^ m) (sym coded))
of_kind n key Deleted content coded len = with_data 3 Deleted key content refl refl refl refl refl refl (len ∙ ap (λ (m : ℕ). 128 * 2 ^ m) (sym coded))
of_kind n key Bad content coded len = with_data 5 Bad key content refl refl refl refl refl refl (len ∙ ap (λ (m : ℕ). 128 * 2 ^ m) (sym coded))
of_kind n key BadDeleted content coded len = with_data 7 BadDeleted key content refl refl refl refl refl refl (len ∙ ap (λ (m : ℕ). 128 * 2 ^ m) (sym coded))

pub sector_again : (n : ℕ) (sector : ImdSector) → IsImdSector n sector → Reads (sector_at sector.key) (sector_bytes sector) sector
sector_again n sector is = of_kind n sector.key sector.kind sector.content is.coded is.size

-- `key` gives the keys of these sectors, the first of which has number `first`
abbrev pub KeysAre : (ℕ → Chrn) → ℕ → List ImdSector → Type 0
KeysAre key first sectors = (i : ℕ) (d : ImdSector) → i < length sectors → key (first + i) ≡ (get_or sectors i d).key

pub sectors_again : (n : ℕ) (key : ℕ → Chrn) (first : ℕ) (sectors : List ImdSector) → All (IsImdSector n) sectors → KeysAre key first sectors
    → Reads (sectors_at key first (length sectors)) (flat_map sector_bytes sectors) sectors
unfolding sectors_at
sectors_again n key first [] each keys offset more = (offset, refl)
sectors_again n key first (sector ∷ sectors) each keys offset more =
    let this : key first ≡ sector.key = ap key (omega arith) ∙ keys 0 sector (omega arith) in
    let others : KeysAre key (suc first) sectors = λ i d lt. ap key (omega arith) ∙ keys (suc i) d (omega arith) in
    let read = sector_again n sector (each 0 sector (omega arith)) offset (flat_map sector_bytes sectors ++ more) in
    let ih = sectors_again n key (suc first) sectors (λ i d lt. each (suc i) d (omega arith)) others read.0 more in
    let regrouped : flat_map sector_bytes (sector ∷ sectors) ++ more ≡ sector_bytes sector ++ (flat_map sector_bytes sectors ++ more) =
    ap (λ (x : List ℕ). x ++ more) (flat_map-cons sector_bytes sector sectors) ∙ append_assoc (sector_bytes sector) (flat_map sector_bytes sectors) more in
    let first_read : sector_at (key first) (left_at offset (flat_map sector_bytes (sector ∷ sectors) ++ more)) ≡ Ok (sector, left_at read.0 (flat_map sector_bytes sectors ++ more)) =
    ap (λ (k : Chrn). sector_at k (left_at offset (flat_map sector_bytes (sector ∷ sectors) ++ more))) this ∙ ap (λ (x : List ℕ). sector_at sector.key (left_at offset x)) regrouped ∙ read.1 in (
      ih.0,
      then (sector_at (key first) (left_at offset (flat_map sector_bytes (sector ∷ sectors) ++ more))) (λ s. sectors_at key (suc first) (length sectors) s.1 >>= λ rest. Ok (s.0 ∷ rest.0, rest.1))
          (sector, left_at read.0 (flat_map sector_bytes sectors ++ more)) _ first_read
          (then (sectors_at key (suc first) (length sectors) (left_at read.0 (flat_map sector_bytes sectors ++ more))) (λ rest. Ok (sector ∷ rest.0, rest.1)) (sectors, left_at ih.0 more) _ ih.1 refl),
    )

-- ---- the five bytes

abbrev pub header_for : Rate → ImdTrack → Header
header_for rate track = record {
  rate = rate;
  c = track.c;
  h = track.h;
  has_cylinders = differs Cylinder track.c track.sectors;
  has_heads = differs Head track.h track.sectors;
  sectors = length track.sectors;
  n = track.n;
}

rate_own : (rate : Rate) → rate_of (Some rate) (mode_byte rate) ≡ Some rate
rate_own R500 = refl
rate_own R250 = refl

pub rate_again : (before : Option Rate) (rate : Rate) → IfSome before (λ earlier. earlier ≡ rate) → rate_of before (mode_byte rate) ≡ Some rate
rate_again None R500 same = refl
rate_again None R250 same = refl
rate_again (Some earlier) rate same = ap (λ (r : Rate). rate_of (Some r) (mode_byte rate)) same ∙ rate_own rate

abbrev head_with : ℕ → Bool → Bool → ℕ
head_with h cylinders heads = h + cond cylinders 128 0 + cond heads 64 0

head_again : (h : ℕ) (cylinders heads : Bool) → h ≤ 1 → (head_with h cylinders heads % 64 ≡ h) × (head_of (head_with h cylinders heads) ≡ Some (record { has_cylinders = cylinders; has_heads = heads; head = h }))
head_again zero true true le = (refl, refl)
head_again zero true false le = (refl, refl)
head_again zero false true le = (refl, refl)
head_again zero false false le = (refl, refl)
head_again (suc zero) true true le = (refl, refl)
head_again (suc zero) true false le = (refl, refl)
head_again (suc zero) false true le = (refl, refl)
head_again (suc zero) false false le = (refl, refl)
head_again (suc (suc h)) cylinders heads le = absurd (omega arith)

new_head_again : (tracks : List ImdTrack) (c h : ℕ) (cylinders heads : Bool) → h ≤ 1 → has_track tracks c h ≡ false
    → new_head_of tracks c (head_with h cylinders heads) ≡ Some (record { has_cylinders = cylinders; has_heads = heads; head = h })
new_head_again tracks c h cylinders heads le fresh =
    let again = head_again h cylinders heads le in
    ap (λ (low : ℕ). cond (has_track tracks c low) None (head_of (head_with h cylinders heads))) again.0
    ∙ ap (λ (t : Bool). cond t None (head_of (head_with h cylinders heads))) fresh ∙ again.1

abbrev pub five_of : Rate → ImdTrack → List ℕ
five_of rate track = mode_byte rate ∷ track.c ∷ head_byte track ∷ length track.sectors ∷ track.n ∷ []

pub header_again : (before : Option Rate) (tracks : List ImdTrack) (rate : Rate) (track : ImdTrack) (offset : ℕ) (more : List ℕ)
    → IfSome before (λ earlier. earlier ≡ rate) → IsImdTrack track → has_track tracks track.c track.h ≡ false
    → header_at before tracks (left_at offset (five_of rate track ++ more)) ≡ Ok (header_for rate track, left_at (offset + 5) more)
unfolding header_at
header_again before tracks rate track offset more same is fresh =
    let head = new_head_again tracks track.c track.h (differs Cylinder track.c track.sectors) (differs Head track.h track.sectors) is.head fresh in
    let cylinder : cylinder_of track.c ≡ Some track.c = rw (le-leb track.c 79 is.cylinder) refl in
    let coded : size_code_of track.n ≡ Some track.n = rw (le-leb 1 track.n is.coded.0, le-leb track.n 6 is.coded.1) refl in
    let after = left_at (offset + 5) more in
    then (part 5 (left_at offset (five_of rate track ++ more))) _ (five_of rate track, after) _ (part_again 5 (five_of rate track) offset more refl)
    (then (field offset (rate_of before (mode_byte rate))) _ rate _ (field_again offset _ rate (rate_again before rate same))
    (then (field (offset + 1) (cylinder_of track.c)) _ track.c _ (field_again (offset + 1) _ track.c cylinder)
    (then (field (offset + 2) (new_head_of tracks track.c (head_byte track))) _ (record { has_cylinders = differs Cylinder track.c track.sectors; has_heads = differs Head track.h track.sectors; head = track.h }) _ (field_again (offset + 2) _ _ head)
    (then (field (offset + 4) (size_code_of track.n)) (λ n. Ok (
      record {
        rate = rate;
        c = track.c;
        h = track.h;
        has_cylinders = differs Cylinder track.c track.sectors;
        has_heads = differs Head track.h track.sectors;
        sectors = length track.sectors;
        n = n;
      },
      after,
    )) track.n _ (field_again (offset + 4) _ track.n coded) refl))))

-- ---- maps and keys

pub map_again : (there : Bool) (count : ℕ) (bytes : List ℕ) → length bytes ≡ count → Reads (map_at there count) (cond there bytes []) (cond there bytes [])
map_again true count bytes len offset more = (offset + count, part_again count bytes offset more len)
map_again false count bytes len offset more = (offset, refl)

none_passes : (test : ImdSector → Bool) (sectors : List ImdSector) (i : ℕ) (d : ImdSector) (t : Bool) → i < length sectors → list_any test sectors ≡ false → test (get_or sectors i d) ≡ t → t ≡ false
none_passes test sectors i d true lt none passes = let met = list_any_at test sectors i d lt passes in cc
none_passes test sectors i d false lt none passes = refl

same_part : (a b : ℕ) (t : Bool) → eqb a b ≡ t → not t ≡ false → a ≡ b
same_part a b true test is = eqb-true a b test
same_part a b false test is = absurd cc

needed_at : (wanted : KeyPart) (value : ℕ) (sectors : List ImdSector) (i : ℕ) (d : ImdSector) → i < length sectors
    → get_or (needed_map wanted value sectors) i value ≡ part_of wanted (get_or sectors i d).key
needed_at wanted value sectors i d lt =
    elim (differs wanted value sectors) as (λ t. differs wanted value sectors ≡ t → get_or (cond t (map_of wanted sectors) []) i value ≡ part_of wanted (get_or sectors i d).key) [
      | true ↦ (λ some. get_or-map (λ (sector : ImdSector). part_of wanted sector.key) sectors i d value lt)
      | false ↦ (λ none.
          let same = none_passes (λ (sector : ImdSector). not (eqb (part_of wanted sector.key) value)) sectors i d _ lt none refl in
          sym (same_part (part_of wanted (get_or sectors i d).key) value (eqb (part_of wanted (get_or sectors i d).key) value) refl same))
    ] refl

abbrev key_with : ℕ → ℕ → ℕ → ℕ → Chrn
key_with c h r n = record { c = c; h = h; r = r; n = n }

pub keys_are : (rate : Rate) (track : ImdTrack) → IsImdTrack track
    → KeysAre (key_at (header_for rate track) (map_of Number track.sectors) (needed_map Cylinder track.c track.sectors) (needed_map Head track.h track.sectors)) 0 track.sectors
keys_are rate track is i d lt =
    let key = key_at (header_for rate track) (map_of Number track.sectors) (needed_map Cylinder track.c track.sectors) (needed_map Head track.h track.sectors) in
    let sectors = track.sectors in
    let k = (get_or sectors i d).key in
    let start : 0 + i ≡ i = omega arith in
    let c = needed_at Cylinder track.c sectors i d lt in
    let h = needed_at Head track.h sectors i d lt in
    let r = get_or-map (λ (sector : ImdSector). part_of Number sector.key) sectors i d 0 lt in
    let n = (is.sectors i d lt).coded in
    ap key start
    ∙ ap (λ (x : ℕ). key_with x (get_or (needed_map Head track.h sectors) i track.h) (get_or (map_of Number sectors) i 0) track.n) c
    ∙ ap (λ (x : ℕ). key_with k.c x (get_or (map_of Number sectors) i 0) track.n) h
    ∙ ap (λ (x : ℕ). key_with k.c k.h x track.n) r
    ∙ ap (λ (x : ℕ). key_with k.c k.h k.r x) (sym n)
