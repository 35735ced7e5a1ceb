-- A medium that a flat file made has the geometry of that file. It has no more sectors than the file, and it lacks
-- none.
use Rattle.std.proofs.Common.{◌≡◌, ◌+◌, ◌-◌, ◌*◌, ◌/◌, ◌%◌, ◌<◌, ◌≤◌, ◌==◌, ◌&&◌, ◌∷◌, [], ℕ, zero, suc, Bool, true, false, not, leb, List, length, map, get_or, Some, refl, sym, ap, ◌∙◌, subst, arith, eq-eqb, ne_eqb, le-leb}
use Rattle.std.specs.Prelude.{if◌then◌else◌}
use Rattle.flat_files.proofs.Common.{range_with_len, eqb-false, eqb-true, length-map-range_with_len, Disk, cylinder_count, has_other_side, head_count, ImdSector, ImdTrack, HasMore, IsOfForm, Lack, has_deleted, sector_on, sectors_on, IsForm, cylinder_of, head_of, tracks_of, HasForm, form_sector, form_track, FlatForm}
use Rattle.std.proofs.lemmas.List.Folds.{list_any_at}
use Rattle.imagedisk.proofs.OnMedium.{cylinder_in}
use Rattle.flat_files.proofs.Again.{form_sectors, sector_is}
use Rattle.flat_files.proofs.Filed.{at_place}
use Rattle.flat_files.proofs.FormValid.{track_is}

-- ---- the track of a cylinder and head

pub record IsNumber (form : FlatForm) (c h track : ℕ) : Type 0 where
  pub below : track < tracks_of form
  pub cylinder : cylinder_of form track ≡ c
  pub head : head_of form track ≡ h

number_by : (form : FlatForm) (c h : ℕ) (single : Bool) → (form.heads == 1) ≡ single → IsForm form → c < form.cylinders → h < form.heads
    → (form.heads * c + h < (if single then form.cylinders else 2 * form.cylinders))
    × ((if single then form.heads * c + h else (form.heads * c + h) / 2) ≡ c) × ((if single then 0 else (form.heads * c + h) % 2) ≡ h)
number_by form c h true is valid cylinder head =
    let one : form.heads ≡ 1 = eqb-true form.heads 1 is in
    let low : h < 1 = omega (arith, head, one) in
    let place : form.heads * c + h ≡ c = rw one (omega (arith, low)) in
    (omega (arith, place, cylinder), place, omega (arith, low))
number_by form c h false is valid cylinder head =
    let two : form.heads ≡ 2 = omega (arith, eqb-false form.heads 1 is, valid.some_heads, valid.most_heads) in
    let low : h < 2 = omega (arith, head, two) in
    let place : form.heads * c + h ≡ 2 * c + h = rw two refl in
    (omega (arith, place, cylinder, low), omega (arith, place, low), omega (arith, place, low))

pub number_of : (form : FlatForm) (c h : ℕ) → IsForm form → c < form.cylinders → h < form.heads → IsNumber form c h (form.heads * c + h)
number_of form c h valid cylinder head =
    let is = number_by form c h (form.heads == 1) refl valid cylinder head in
    record { below = is.0; cylinder = is.1; head = is.2 }

-- ---- the medium has no more sectors, and lacks none

none_deleted : (form : FlatForm) (bytes : List ℕ) (track : ℕ) (each : List ℕ) → has_deleted (map (form_sector form bytes track) each) ≡ false
none_deleted form bytes track [] = refl
none_deleted form bytes track (i ∷ each) = none_deleted form bytes track each

abbrev pub AreForm : FlatForm → List ℕ → List ImdTrack → Type 0
AreForm form bytes tracks =
    (track : ℕ) → track < tracks_of form → sectors_on tracks (cylinder_of form track) (head_of form track) ≡ form_sectors form bytes track

plain_there : (form : FlatForm) (bytes : List ℕ) (sectors : List ImdSector) (track : ℕ) → sectors ≡ form_sectors form bytes track
    → (leb (length sectors) form.sectors && not (has_deleted sectors)) ≡ true
plain_there form bytes sectors track is =
    let many : length sectors ≡ form.sectors = ap length is ∙ length-map-range_with_len (form_sector form bytes track) 0 form.sectors in
    let few = le-leb (length sectors) form.sectors (omega (arith, many)) in
    let none : has_deleted sectors ≡ false = ap has_deleted is ∙ none_deleted form bytes track (range_with_len 0 form.sectors) in
    rw (few, none) refl

-- the sectors on the track of a cylinder and head
sectors_at : (form : FlatForm) (bytes : List ℕ) (tracks : List ImdTrack) (c h track : ℕ) → AreForm form bytes tracks → IsNumber form c h track
    → sectors_on tracks c h ≡ form_sectors form bytes track
sectors_at form bytes tracks c h track all is =
    subst (λ (x : ℕ). sectors_on tracks c x ≡ form_sectors form bytes track) is.head
    (subst (λ (x : ℕ). sectors_on tracks x (head_of form track) ≡ form_sectors form bytes track) is.cylinder (all track is.below))

pub no_more : (form : FlatForm) (bytes : List ℕ) (tracks : List ImdTrack) (c h : ℕ) → IsForm form → AreForm form bytes tracks → HasMore tracks form c h → ⊥
no_more form bytes tracks c h valid all more =
    let track = form.heads * c + h in
    let sectors = sectors_at form bytes tracks c h track all (number_of form c h valid more.0.cylinder more.0.head) in
    let plain = plain_there form bytes (sectors_on tracks c h) track sectors in
    absurd (cc (plain, more.1))

pub none_lacks : (form : FlatForm) (bytes : List ℕ) (tracks : List ImdTrack) (c h r : ℕ) → IsForm form → AreForm form bytes tracks → Lack tracks form c h r → ⊥
none_lacks form bytes tracks c h r valid all lack =
    let track = form.heads * c + h in
    let number = number_of form c h valid lack.0.cylinder lack.0.head in
    let k = r - 1 in
    let first = lack.2.from_first in
    let last = lack.2.to_last in
    let there = sector_is form bytes tracks track k (omega (arith, first, last)) (all track number.below) in
    let on_c = subst (λ (x : ℕ). sector_on tracks form.n x (head_of form track) (k + 1) ≡ Some (form_sector form bytes track k)) number.cylinder there in
    let on_h = subst (λ (x : ℕ). sector_on tracks form.n c x (k + 1) ≡ Some (form_sector form bytes track k)) number.head on_c in
    let same : k + 1 ≡ r = omega (arith, first) in
    let on_r = subst (λ (x : ℕ). sector_on tracks form.n c h x ≡ Some (form_sector form bytes track k)) same on_h in
    absurd (cc (on_r, lack.2.lacks))

-- ---- the shape

cylinders_most : (f : ℕ → ImdTrack) (most a n : ℕ) → 1 ≤ most → ((i : ℕ) → i < a + n → (f i).c < most) → cylinder_count (map f (range_with_len a n)) ≤ most
cylinders_most f most a zero some each = some
cylinders_most f most a (suc n) some each =
    let one = each a (omega arith) in
    let others = cylinders_most f most (a + 1) n some (λ i below. each i (omega (arith, below))) in
    omega (arith, one, others)

none_on_head_1 : (f : ℕ → ImdTrack) (a n : ℕ) → ((i : ℕ) → i < a + n → (f i).h ≡ 0) → has_other_side (map f (range_with_len a n)) ≡ false
none_on_head_1 f a zero each = refl
none_on_head_1 f a (suc n) each =
    let one : ((f a).h == 1) ≡ false = ne_eqb (f a).h 1 (λ is. let zero_is = each a (omega arith) in omega (arith, is, zero_is)) in
    rw one (none_on_head_1 f (a + 1) n (λ i below. each i (omega (arith, below))))

cylinders_are : (form : FlatForm) (bytes : List ℕ) → IsForm form → cylinder_count (map (form_track form bytes) (range_with_len 0 (tracks_of form))) ≡ form.cylinders
cylinders_are form bytes valid =
    let f = form_track form bytes in
    let last = form.cylinders - 1 in
    let track = form.heads * last + 0 in
    let number = number_of form last 0 valid (omega (arith, valid.some_cylinders)) (omega (arith, valid.some_heads)) in
    let below = number.below in
    let many = length-map-range_with_len f 0 (tracks_of form) in
    let most = cylinders_most f form.cylinders 0 (tracks_of form) valid.some_cylinders (λ i less. (at_place form i valid (omega (arith, less))).cylinder) in
    let at : (get_or (map f (range_with_len 0 (tracks_of form))) track (f track)).c ≡ last =
    ap (λ (it : ImdTrack). it.c) (track_is form bytes track (f track) below) ∙ number.cylinder in
    let least = cylinder_in (map f (range_with_len 0 (tracks_of form))) track (f track) (omega (arith, many, below)) in
    omega (arith, most, least, at, valid.some_cylinders)

heads_by : (form : FlatForm) (bytes : List ℕ) (single : Bool) → (form.heads == 1) ≡ single → IsForm form
    → head_count (map (form_track form bytes) (range_with_len 0 (tracks_of form))) ≡ form.heads
heads_by form bytes true is valid =
    let f = form_track form bytes in
    let other : has_other_side (map f (range_with_len 0 (tracks_of form))) ≡ false =
    none_on_head_1 f 0 (tracks_of form) (λ i below. ap (λ (t : Bool). if t then 0 else i % 2) is) in
    ap (λ (t : Bool). if t then 2 else 1) other ∙ sym (eqb-true form.heads 1 is)
heads_by form bytes false is valid =
    let f = form_track form bytes in
    let two : form.heads ≡ 2 = omega (arith, eqb-false form.heads 1 is, valid.some_heads, valid.most_heads) in
    let track = form.heads * 0 + 1 in
    let number = number_of form 0 1 valid valid.some_cylinders (omega (arith, two)) in
    let below = number.below in
    let many = length-map-range_with_len f 0 (tracks_of form) in
    let at : (get_or (map f (range_with_len 0 (tracks_of form))) track (f track)).h ≡ 1 =
    ap (λ (it : ImdTrack). it.h) (track_is form bytes track (f track) below) ∙ number.head in
    let other : has_other_side (map f (range_with_len 0 (tracks_of form))) ≡ true =
    list_any_at (λ (it : ImdTrack). it.h == 1) (map f (range_with_len 0 (tracks_of form))) track (f track) (omega (arith, many, below)) (eq-eqb _ 1 at) in
    ap (λ (t : Bool). if t then 2 else 1) other ∙ sym two

pub shape_of : (form : FlatForm) (bytes : List ℕ) (disk : Disk) → HasForm form bytes disk → IsOfForm form disk
shape_of form bytes disk has = record {
  cylinders = has.made.shape.cylinders ∙ cylinders_are form bytes has.form_is;
  heads = has.made.shape.heads ∙ heads_by form bytes (form.heads == 1) refl has.form_is;
  rate = has.made.shape.rate;
}
