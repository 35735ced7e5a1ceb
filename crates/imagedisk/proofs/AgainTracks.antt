-- The bytes that are written of tracks are read as these tracks.
use Rattle.std.proofs.Common.{◌≡◌, ℕ, zero, suc, ◌+◌, ◌≤◌, ◌<◌, Bool, true, false, ◌&&◌, eqb, List, [], ◌∷◌, ◌++◌, length, get_or, Option, Some, None, Ok, refl, sym, ap, subst, ◌∙◌, append_assoc, length-append, arith, ltb, All, AllPairs}
use Rattle.std.specs.Prelude.{IfSome}
use Rattle.std.specs.Option.{unwrap_or}
use Rattle.imagedisk.proofs.Common.{flat_map, eqb-true, lt-ltb, get_or_append_left, append-nil, get_or-append_seam, flat_map-cons, list_any_none, Rate, R500, ImdSector, ImdTrack, ImdImage, KeyPart, Cylinder, Head, Number, IsImdTrack, IsImdImage, AreApart, part, has_track, header_at, map_at, key_at, sectors_at, image_with, tracks_begin, text, map_of, differs, needed_map, sector_bytes, track_bytes, file_of}
use Rattle.imagedisk.specs.Reading.{track_at, tracks_at, image_of}
use Rattle.imagedisk.proofs.Loops.{opened}
use Rattle.imagedisk.proofs.Again.{left_at, then, part_again, five_of, header_for, header_again, map_again, sectors_again, keys_are}

-- ---- a track

map_size : (wanted : KeyPart) (sectors : List ImdSector) → length (map_of wanted sectors) ≡ length sectors
map_size wanted [] = refl
map_size wanted (sector ∷ sectors) = ap suc (map_size wanted sectors)

regrouped : (a b c d e more : List ℕ) → ((((a ++ b) ++ c) ++ d) ++ e) ++ more ≡ a ++ (b ++ (c ++ (d ++ (e ++ more))))
regrouped a b c d e more = simp append_assoc

pub track_again : (before : Option Rate) (tracks : List ImdTrack) (rate : Rate) (track : ImdTrack) (offset : ℕ) (more : List ℕ)
    → IfSome before (λ earlier. earlier ≡ rate) → IsImdTrack track → has_track tracks track.c track.h ≡ false
    → (after : ℕ) × (track_at before tracks (left_at offset (track_bytes rate track ++ more)) ≡ Ok (rate, track, left_at after more))
unfolding track_at
track_again before tracks rate track offset more same is fresh =
    let sectors = track.sectors in
    let header = header_for rate track in
    let numbers = map_of Number sectors in
    let cylinders = needed_map Cylinder track.c sectors in
    let heads = needed_map Head track.h sectors in
    let rest = flat_map sector_bytes sectors in
    let count = length sectors in
    let read = header_again before tracks rate track offset (numbers ++ (cylinders ++ (heads ++ (rest ++ more)))) same is fresh in
    let read1 = part_again count numbers (offset + 5) (cylinders ++ (heads ++ (rest ++ more))) (map_size Number sectors) in
    let read2 = map_again (differs Cylinder track.c sectors) count (map_of Cylinder sectors) (map_size Cylinder sectors) (offset + 5 + count) (heads ++ (rest ++ more)) in
    let read3 = map_again (differs Head track.h sectors) count (map_of Head sectors) (map_size Head sectors) read2.0 (rest ++ more) in
    let key = key_at header numbers cylinders heads in
    let read4 = sectors_again track.n key 0 sectors is.sectors (keys_are rate track is) read3.0 more in (
      read4.0,
      ap (λ (bytes : List ℕ). track_at before tracks (left_at offset bytes)) (regrouped (five_of rate track) numbers cylinders heads rest more)
          ∙ then (header_at before tracks (left_at offset (five_of rate track ++ (numbers ++ (cylinders ++ (heads ++ (rest ++ more))))))) _ (header, left_at (offset + 5) (numbers ++ (cylinders ++ (heads ++ (rest ++ more))))) _ read
          (then (part count (left_at (offset + 5) (numbers ++ (cylinders ++ (heads ++ (rest ++ more)))))) _ (numbers, left_at (offset + 5 + count) (cylinders ++ (heads ++ (rest ++ more)))) _ read1
          (then (map_at (differs Cylinder track.c sectors) count (left_at (offset + 5 + count) (cylinders ++ (heads ++ (rest ++ more))))) _ (cylinders, left_at read2.0 (heads ++ (rest ++ more))) _ read2.1
          (then (map_at (differs Head track.h sectors) count (left_at read2.0 (heads ++ (rest ++ more)))) _ (heads, left_at read3.0 (rest ++ more)) _ read3.1
          (then (sectors_at key 0 count (left_at read3.0 (rest ++ more))) (λ s. Ok (rate, record { c = track.c; h = track.h; n = track.n; sectors = s.0 }, s.1)) (sectors, left_at read4.0 more) _ read4.1 refl)))),
    )

some_bytes : (rate : Rate) (track : ImdTrack) → 0 < length (track_bytes rate track)
some_bytes rate track = omega arith

-- ---- tracks

both_differ : (a b c d : ℕ) (s t : Bool) → eqb a c ≡ s → eqb b d ≡ t → (a ≡ c → b ≡ d → ⊥) → (s && t) ≡ false
both_differ a b c d true true e f apart = absurd (apart (eqb-true a c e) (eqb-true b d f))
both_differ a b c d _ _ e f apart = refl

is_fresh : (front : List ImdTrack) (track : ImdTrack) (tracks : List ImdTrack) → AllPairs AreApart (front ++ track ∷ tracks) → has_track front track.c track.h ≡ false
is_fresh front track tracks apart =
    list_any_none (λ (t : ImdTrack). eqb t.c track.c && eqb t.h track.h) front (λ k d lt.
    let all = front ++ track ∷ tracks in
    let within : length front < length all = omega (arith, length-append front (track ∷ tracks)) in
    let two : AreApart (get_or all k d) (get_or all (length front) d) = apart k (length front) d lt within in
    let one : AreApart (get_or front k d) (get_or all (length front) d) = subst (λ (t : ImdTrack). AreApart t (get_or all (length front) d)) (get_or_append_left front (track ∷ tracks) d k lt) two in
    let these : AreApart (get_or front k d) track = subst (λ (t : ImdTrack). AreApart (get_or front k d) t) (get_or-append_seam front track tracks d) one in
    both_differ (get_or front k d).c (get_or front k d).h track.c track.h _ _ refl refl these)

abbrev image_at : Rate → List ImdTrack → ImdImage
image_at rate tracks = record { rate = rate; tracks = tracks }

all_read : (most : ℕ) (rate : Option Rate) (tracks : List ImdTrack) (offset : ℕ) → tracks_at most rate tracks (left_at offset []) ≡ Ok (image_with rate tracks)
unfolding tracks_at
all_read zero rate tracks offset = refl
all_read (suc most) rate tracks offset = refl

pub tracks_again : (most : ℕ) (before : Option Rate) (rate : Rate) (front tracks : List ImdTrack) (offset : ℕ)
    → length (flat_map (track_bytes rate) tracks) ≤ most → IfSome before (λ earlier. earlier ≡ rate) → (tracks ≡ [] → unwrap_or before R500 ≡ rate)
    → All IsImdTrack tracks → AllPairs AreApart (front ++ tracks)
    → tracks_at most before front (left_at offset (flat_map (track_bytes rate) tracks)) ≡ Ok (image_at rate (front ++ tracks))
tracks_again most before rate front [] offset enough same last each apart =
    all_read most before front offset ∙ ap (λ (r : Rate). Ok (image_at r front)) (last refl) ∙ ap (λ (ts : List ImdTrack). Ok (image_at rate ts)) (sym (append-nil front))
tracks_again zero before rate front (track ∷ tracks) offset enough same last each apart =
    let longer = ap length (flat_map-cons (track_bytes rate) track tracks) in
    let parts = length-append (track_bytes rate track) (flat_map (track_bytes rate) tracks) in
    let five = some_bytes rate track in
    absurd (omega (arith, longer, parts, five))
tracks_again (suc most) before rate front (track ∷ tracks) offset enough same last each apart =
    let rest = flat_map (track_bytes rate) tracks in
    let longer = ap length (flat_map-cons (track_bytes rate) track tracks) in
    let parts = length-append (track_bytes rate track) rest in
    let five = some_bytes rate track in
    let read = track_again before front rate track offset rest same (each 0 track (omega arith)) (is_fresh front track tracks apart) in
    let moved : (front ++ track ∷ []) ++ tracks ≡ front ++ (track ∷ tracks) = append_assoc front (track ∷ []) tracks in
    let ih = tracks_again most (Some rate) rate (front ++ track ∷ []) tracks read.0 (omega (arith, longer, parts, five)) refl (λ e. refl) (λ k d lt. each (suc k) d (omega arith)) (subst (λ (ts : List ImdTrack). AllPairs AreApart ts) (sym moved) apart) in
    let full : 0 < length (track_bytes rate track ++ rest) = omega (arith, parts, five) in
    ap (λ (bytes : List ℕ). tracks_at (suc most) before front (left_at offset bytes)) (flat_map-cons (track_bytes rate) track tracks)
    ∙ opened most before front (left_at offset (track_bytes rate track ++ rest)) full
    ∙ then (track_at before front (left_at offset (track_bytes rate track ++ rest))) (λ x. tracks_at most (Some x.0) (front ++ x.1 ∷ []) x.2) (rate, track, left_at read.0 rest) _ read.1 ih
    ∙ ap (λ (ts : List ImdTrack). Ok (image_at rate ts)) moved

begun_at : (bytes : List ℕ) → tracks_begin (text ++ bytes) ≡ Ok (left_at 32 bytes)
begun_at bytes =
    let longer : ltb 31 (length (text ++ bytes)) ≡ true = lt-ltb 31 (length (text ++ bytes)) (omega (arith, length-append text bytes)) in
    rw longer refl

pub image_again : (image : ImdImage) → IsImdImage image → image_of (file_of image) ≡ Ok image
unfolding image_of
image_again image is =
    let bytes = flat_map (track_bytes image.rate) image.tracks in
    then (tracks_begin (text ++ bytes)) (λ rest. tracks_at (length rest.bytes) None [] rest) (left_at 32 bytes) _ (begun_at bytes)
    (tracks_again (length bytes) None image.rate [] image.tracks 32 (omega arith) tt (λ e. sym (is.rate e)) is.tracks is.apart)
