-- A flat file of 1.44 MB or 720 KB is a flat file of a geometry, and its medium is a medium of that geometry.
use Rattle.std.proofs.Common.{◌≡◌, ◌≤◌, ◌+◌, ◌-◌, ◌*◌, ◌/◌, ◌%◌, ◌==◌, ◌∷◌, [], ℕ, Bool, true, false, List, length, map, Result, Ok, Err, refl, sym, ap, ◌∙◌, subst, arith, cond, nat_lt, ◌⊎◌, inl, inr, ⊎_elim}
use Rattle.std.specs.Prelude.{slice_range}
use Rattle.flat_files.proofs.Common.{Vec, range_with_len, eqb-true, Rate, Disk, narrow_gap, HasImage, IsMediumOf, ImdImage, Good, ImdSector, ImdTrack, GivesFlat, IsFlatAgain, standard_form, sector_place, HasFlat, flat_image, flat_sector, flat_track, rate_of, HasForm, form_image, form_sector, form_track, Flat, FlatForm}
use Rattle.raw_image.specs.declared.error.ImageError.{ImageError}
use Rattle.raw_image.specs.declared.error.ImageError.TheVariants.{TooShort, Trailing}
use Rattle.flat_files.specs.declared.fault.FlatFault.{FlatFault}
use Rattle.flat_files.specs.declared.fault.FlatFault.TheVariants.{NoMemory}
use Rattle.flat_files.proofs.Fit.{given_again}

-- the geometry with this many sectors per track, at a rate
abbrev form_with : ℕ → Rate → FlatForm
form_with sectors rate = record { cylinders = 80; heads = 2; sectors = sectors; n = 2; rate = rate }

map_same : {X : Type 0} (f g : ℕ → X) → ((i : ℕ) → f i ≡ g i) → (each : List ℕ) → map f each ≡ map g each
map_same f g same [] = refl
map_same f g same (i ∷ each) = ap (λ x. x ∷ map f each) (same i) ∙ ap (λ xs. g i ∷ xs) (map_same f g same each)

place_same : (sectors track i : ℕ) → sector_place sectors (track / 2) (track % 2) (i + 1) ≡ (track * sectors + i) * 512
place_same sectors track i =
    let whole : track / 2 * 2 + track % 2 ≡ track = omega arith in
    ap (λ (n : ℕ). (n * sectors + (i + 1) - 1) * 512) whole ∙ ap (λ (n : ℕ). n * 512) (omega arith)

abbrev sector_from : List ℕ → (c h i place : ℕ) → ImdSector
sector_from bytes c h i place = record {
  key = record { c = c; h = h; r = i + 1; n = 2 };
  kind = Good;
  content = slice_range bytes place (place + 512);
}

sector_same : (bytes : List ℕ) (sectors : ℕ) (rate : Rate) (track i : ℕ)
    → flat_sector bytes sectors (track / 2) (track % 2) i ≡ form_sector (form_with sectors rate) bytes track i
sector_same bytes sectors rate track i = ap (sector_from bytes (track / 2) (track % 2) i) (place_same sectors track i)

abbrev track_with : (track : ℕ) → List ImdSector → ImdTrack
track_with track sectors = record { c = track / 2; h = track % 2; n = 2; sectors = sectors }

track_same : (bytes : List ℕ) (sectors : ℕ) (rate : Rate) (track : ℕ) → flat_track bytes sectors track ≡ form_track (form_with sectors rate) bytes track
track_same bytes sectors rate track =
    ap (track_with track)
    (map_same (flat_sector bytes sectors (track / 2) (track % 2)) (form_sector (form_with sectors rate) bytes track) (sector_same bytes sectors rate track) (range_with_len 0 sectors))

abbrev image_with : Rate → List ImdTrack → ImdImage
image_with rate tracks = record { rate = rate; tracks = tracks }

image_same : (bytes : List ℕ) (sectors : ℕ) (rate : Rate) → flat_image bytes sectors rate ≡ form_image (form_with sectors rate) bytes
image_same bytes sectors rate =
    ap (image_with rate) (map_same (flat_track bytes sectors) (form_track (form_with sectors rate) bytes) (track_same bytes sectors rate) (range_with_len 0 160))

-- ---- which of the two densities it is

abbrev told : ℕ → Result ℕ ImageError
told n = Ok n

told_of : (nine eighteen short between : Bool) (have sectors : ℕ)
    → cond nine (told 9) (cond eighteen (told 18) (cond short (Err (TooShort 737280 have)) (cond between (Err (TooShort 1474560 have)) (Err (Trailing 1474560))))) ≡ told sectors
    → ((nine ≡ true) × (sectors ≡ 9)) ⊎ ((eighteen ≡ true) × (sectors ≡ 18))
told_of true eighteen short between have sectors is = inl (refl, cc)
told_of false true short between have sectors is = inr (refl, cc)
told_of false false true between have sectors is = absurd cc
told_of false false false true have sectors is = absurd cc
told_of false false false false have sectors is = absurd cc

form_from : (bytes : List ℕ) (sectors : ℕ) (rate : Rate) (disk : Disk) → 1 ≤ sectors → length bytes ≡ 160 * sectors * 512
    → IsMediumOf narrow_gap (flat_image bytes sectors rate) disk → HasImage disk (flat_image bytes sectors rate) → HasForm (form_with sectors rate) bytes disk
form_from bytes sectors rate disk some whole made found = record {
  form_is = record {
    some_cylinders = omega arith;
    most_cylinders = omega arith;
    some_heads = omega arith;
    most_heads = omega arith;
    some_sectors = some;
    some_size = omega arith;
    most_size = omega arith;
  };
  whole = whole;
  made = subst (λ (image : ImdImage). IsMediumOf narrow_gap image disk) (image_same bytes sectors rate) made;
  found = subst (λ (image : ImdImage). HasImage disk image) (image_same bytes sectors rate) found;
}

has_form : (bytes : List ℕ) (sectors : ℕ) (disk : Disk) → HasFlat bytes sectors disk → HasForm (standard_form disk.rate) bytes disk
has_form bytes sectors disk has =
    let have = length bytes in
    ⊎_elim
    (λ (nine : (have == 737280 ≡ true) × (sectors ≡ 9)).
    let made = form_from bytes sectors (rate_of sectors) disk (omega (arith, nine.1)) (omega (arith, eqb-true have 737280 nine.0, nine.1)) has.made has.found in
    subst (λ (rate : Rate). HasForm (standard_form rate) bytes disk) (sym (has.made.shape.rate ∙ ap rate_of nine.1))
    (subst (λ (n : ℕ). HasForm (form_with n (rate_of n)) bytes disk) nine.1 made))
    (λ (eighteen : (have == 1474560 ≡ true) × (sectors ≡ 18)).
    let made = form_from bytes sectors (rate_of sectors) disk (omega (arith, eighteen.1)) (omega (arith, eqb-true have 1474560 eighteen.0, eighteen.1)) has.made has.found in
    subst (λ (rate : Rate). HasForm (standard_form rate) bytes disk) (sym (has.made.shape.rate ∙ ap rate_of eighteen.1))
    (subst (λ (n : ℕ). HasForm (form_with n (rate_of n)) bytes disk) eighteen.1 made))
    (told_of (have == 737280) (have == 1474560) (nat_lt have 737280) (nat_lt have 1474560) have sectors has.told)

pub flat_again : (bytes : List ℕ) (sectors : ℕ) (disk : Disk) (result : Result (Vec ℕ) FlatFault) → HasFlat bytes sectors disk → GivesFlat disk result
    → IsFlatAgain bytes result
flat_again bytes sectors disk (Ok file) has given =
    let made = has_form bytes sectors disk has in given_again (standard_form disk.rate) bytes disk (Ok file) made (made.form_is, given)
flat_again bytes sectors disk (Err cause) has given =
    let made = has_form bytes sectors disk has in
    let is : Flat cause ≡ Flat NoMemory = given_again (standard_form disk.rate) bytes disk (Err (Flat cause)) made (made.form_is, given) in cc
