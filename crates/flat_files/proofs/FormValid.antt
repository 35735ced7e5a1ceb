-- The image of a flat file is an image that an ImageDisk file can hold.
use Rattle.std.proofs.Common.{◌≡◌, ◌+◌, ◌-◌, ◌<◌, ◌≤◌, ◌∷◌, ◌++◌, ◌==◌, [], ℕ, List, length, map, drop, get_or, sym, ap, ◌∙◌, subst, arith}
use Rattle.std.specs.Prelude.{slice_range, All}
use Rattle.flat_files.proofs.Common.{range_with_len, cond_both, length-drop, length-take, length-map-range_with_len, get_or-map-range_with_len, map-range_with_len_more, AreApart, IsImdImage, IsImdTrack, ImdTrack, IsForm, cylinder_of, head_of, tracks_of, form_image, form_track, FlatForm}

-- one more item of a list made from the indices
pub pushed_more : {X : Type 0} (f : ℕ → X) (kept new : List X) (n : ℕ) (x : X) → kept ≡ map f (range_with_len 0 n) → x ≡ f n → new ≡ kept ++ x ∷ []
    → new ≡ map f (range_with_len 0 (n + 1))
pushed_more f kept new n x is at pushed =
    pushed ∙ ap (λ xs. xs ++ x ∷ []) is ∙ ap (λ y. map f (range_with_len 0 n) ++ y ∷ []) at ∙ sym (map-range_with_len_more f 0 n n (omega arith))

-- the length of a part of a list
pub length-part : (bytes : List ℕ) (from size : ℕ) → from + size ≤ length bytes → length (slice_range bytes from (from + size)) ≡ size
length-part bytes from size fits = omega (arith, length-take (from + size - from) (drop from bytes), length-drop from bytes)

pub track_is : (form : FlatForm) (bytes : List ℕ) (i : ℕ) (d : ImdTrack) → i < tracks_of form
    → get_or (map (form_track form bytes) (range_with_len 0 (tracks_of form))) i d ≡ form_track form bytes i
track_is form bytes i d below = get_or-map-range_with_len (form_track form bytes) 0 (tracks_of form) i i d below (omega arith)

-- two tracks have different places
places_apart : (form : FlatForm) (i j : ℕ) → i < j → cylinder_of form i ≡ cylinder_of form j → head_of form i ≡ head_of form j → ⊥
places_apart form i j less c h = grind (arith, less, c, h)

some_tracks : (form : FlatForm) → IsForm form → 1 ≤ tracks_of form
some_tracks form is = cond_both (form.heads == 1) _ _ (λ tracks. 1 ≤ tracks) (λ one. is.some_cylinders) (λ two. omega (arith, is.some_cylinders))

pub valid_image : (form : FlatForm) (bytes : List ℕ) → IsForm form → All IsImdTrack (form_image form bytes).tracks → IsImdImage (form_image form bytes)
valid_image form bytes is tracks =
    let all : List ImdTrack = map (form_track form bytes) (range_with_len 0 (tracks_of form)) in
    let many : length all ≡ tracks_of form = length-map-range_with_len (form_track form bytes) 0 (tracks_of form) in
    record {
      tracks = tracks;
      apart = λ i j d less within.
          let below : j < tracks_of form = subst (λ (n : ℕ). j < n) many within in
          subst (λ (one : ImdTrack). AreApart one (get_or all j d)) (sym (track_is form bytes i d (omega (arith, less, below))))
          (subst (λ (two : ImdTrack). AreApart (form_track form bytes i) two) (sym (track_is form bytes j d below)) (λ c h. places_apart form i j less c h));
      rate = λ none. let zero : tracks_of form ≡ 0 = sym many ∙ ap length none in absurd (omega (arith, zero, some_tracks form is));
    }
