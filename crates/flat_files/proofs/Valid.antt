-- The image of a flat file is an image that an ImageDisk file can hold, and its tracks have room.
use Rattle.std.proofs.Common.{◌≡◌, ◌+◌, ◌-◌, ◌/◌, ◌%◌, ◌<◌, ◌≤◌, ◌∷◌, ◌++◌, [], ℕ, List, length, map, drop, get_or, sym, ap, ◌∙◌, subst, arith, ⊎_elim}
use Rattle.std.specs.Prelude.{slice_range, All}
use Rattle.flat_files.proofs.Common.{range_with_len, length-drop, length-take, length-map-range_with_len, get_or-map-range_with_len, map-range_with_len_more, gap_at, words_at, Rate, R500, R250, IsDensity, AreApart, IsImdImage, IsImdTrack, IsCrowded, IsFirstCrowded, ImdTrack, Suits, narrow_gap, flat_image, flat_sector, flat_track, rate_of}

-- one more item of a list made from the indices
pub pushed_more : {X : Type 0} (f : ℕ → X) (kept new : List X) (n : ℕ) (x : X) → kept ≡ map f (range_with_len 0 n) → x ≡ f n → new ≡ kept ++ x ∷ []
    → new ≡ map f (range_with_len 0 (n + 1))
pushed_more f kept new n x is at pushed =
    pushed ∙ ap (λ xs. xs ++ x ∷ []) is ∙ ap (λ y. map f (range_with_len 0 n) ++ y ∷ []) at ∙ sym (map-range_with_len_more f 0 n n (omega arith))

-- the length of a part of a list
pub length-part : (bytes : List ℕ) (from : ℕ) → from + 512 ≤ length bytes → length (slice_range bytes from (from + 512)) ≡ 512
length-part bytes from fits = omega (arith, length-take (from + 512 - from) (drop from bytes), length-drop from bytes)

track_is : (bytes : List ℕ) (sectors i : ℕ) (d : ImdTrack) → i < 160 → get_or (map (flat_track bytes sectors) (range_with_len 0 160)) i d ≡ flat_track bytes sectors i
track_is bytes sectors i d below = get_or-map-range_with_len (flat_track bytes sectors) 0 160 i i d below (omega arith)

apart : (bytes : List ℕ) (sectors i j : ℕ) → i < j → AreApart (flat_track bytes sectors i) (flat_track bytes sectors j)
apart bytes sectors i j less = λ c h. absurd (omega (arith, c, h, less))

pub valid_image : (bytes : List ℕ) (sectors : ℕ) (rate : Rate) → All IsImdTrack (flat_image bytes sectors rate).tracks → IsImdImage (flat_image bytes sectors rate)
valid_image bytes sectors rate tracks =
    let many : length (map (flat_track bytes sectors) (range_with_len 0 160)) ≡ 160 = length-map-range_with_len (flat_track bytes sectors) 0 160 in
    record {
      tracks = tracks;
      apart = λ i j d less within.
          let below : j < 160 = subst (λ (n : ℕ). j < n) many within in
          subst (λ (one : ImdTrack). AreApart one (get_or (map (flat_track bytes sectors) (range_with_len 0 160)) j d)) (sym (track_is bytes sectors i d (omega (arith, less, below))))
          (subst (λ (two : ImdTrack). AreApart (flat_track bytes sectors i) two) (sym (track_is bytes sectors j d below)) (apart bytes sectors i j less));
      rate = λ none. let zero : 160 ≡ 0 = sym many ∙ ap length none in absurd (omega (arith, zero));
    }

-- each track has room for its sectors
roomy : (sectors : ℕ) → IsDensity sectors → Suits 2 sectors (words_at (rate_of sectors)) (gap_at (rate_of sectors))
roomy sectors density =
    ⊎_elim (λ (nine : sectors ≡ 9). subst (λ (n : ℕ). Suits 2 n (words_at (rate_of n)) (gap_at (rate_of n))) (sym nine) (record { fits = omega arith; room = omega arith }))
    (λ (eighteen : sectors ≡ 18). subst (λ (n : ℕ). Suits 2 n (words_at (rate_of n)) (gap_at (rate_of n))) (sym eighteen) (record { fits = omega arith; room = omega arith })) density

wide : (rate : Rate) → narrow_gap ≤ gap_at rate
wide R500 = omega arith
wide R250 = omega arith

-- no track is therefore crowded
pub not_crowded : (bytes : List ℕ) (sectors c h i : ℕ) → IsDensity sectors → IsFirstCrowded narrow_gap (flat_image bytes sectors (rate_of sectors)) c h i → ⊥
not_crowded bytes sectors c h i density first =
    let many : length (map (flat_track bytes sectors) (range_with_len 0 160)) ≡ 160 = length-map-range_with_len (flat_track bytes sectors) 0 160 in
    let below : i < 160 = subst (λ (n : ℕ). i < n) many first.there in
    let crowded : IsCrowded narrow_gap (rate_of sectors) (flat_track bytes sectors i) =
    subst (λ (one : ImdTrack). IsCrowded narrow_gap (rate_of sectors) one) (track_is bytes sectors i (flat_track bytes sectors i) below) (first.crowded (flat_track bytes sectors i)) in
    let count : length (map (flat_sector bytes sectors (i / 2) (i % 2)) (range_with_len 0 sectors)) ≡ sectors = length-map-range_with_len (flat_sector bytes sectors (i / 2) (i % 2)) 0 sectors in
    crowded (gap_at (rate_of sectors)) (wide (rate_of sectors)) (omega arith)
    (subst (λ (n : ℕ). Suits 2 n (words_at (rate_of sectors)) (gap_at (rate_of sectors))) (sym count) (roomy sectors density))
