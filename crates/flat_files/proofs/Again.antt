-- If a flat file made a medium, the flat file of that medium is that file again.
use Rattle.std.proofs.Common.{◌≡◌, ◌+◌, ◌-◌, ◌*◌, ◌<◌, ◌≤◌, ◌==◌, ◌&&◌, ◌∷◌, ◌++◌, [], ℕ, zero, suc, Bool, true, false, cond, List, length, map, take, get_or, Option, Some, None, refl, sym, ap, ◌∙◌, subst, arith, ⊎_elim, eq-eqb, ne_eqb, take-add, take_all}
use Rattle.std.specs.Prelude.{find, slice_range}
use Rattle.flat_files.proofs.Common.{range_with_len, and_parts, cases_eq, eqb-true, length-map-range_with_len, Disk, HasTrack, track_of, HasImage, HasSectors, ImdImage, Good, ImdSector, ImdTrack, is_track, is_wanted, sector_on, sectors_on, IsForm, cylinder_of, file_length, head_of, sector_bytes, tracks_of, form_image, form_sector, form_track, FlatForm}
use Rattle.std.specs.Option.{option_map_or}
use Rattle.flat_files.specs.Files.{AddsRecords, AreOfTracks}
use Rattle.flat_files.proofs.Alike.{AreGood, same_sectors}
use Rattle.flat_files.proofs.FormValid.{track_is}

-- ---- what is found in a list

find_at : {X : Type 0} (p : X → Bool) (xs : List X) (x : X) → find p xs ≡ Some x → (i : ℕ) × (i < length xs) × ((d : X) → get_or xs i d ≡ x) × (p x ≡ true)
find_at p [] x is = absurd cc
find_at {X} p (y ∷ ys) x is =
    elim (p y) as (λ t. p y ≡ t → cond t (Some y) (find p ys) ≡ Some x → (i : ℕ) × (i < suc (length ys)) × ((d : X) → get_or (y ∷ ys) i d ≡ x) × (p x ≡ true)) [
      | true ↦ (λ e is. let same : y ≡ x = cc in (0, omega arith, λ d. same, ap p (sym same) ∙ e))
      | false ↦ (λ e is. let later = find_at p ys x is in (suc later.0, (let within = later.1 in omega (arith, within)), later.2, later.3))
    ] refl is

find_none : {X : Type 0} (p : X → Bool) (xs : List X) → find p xs ≡ None → (i : ℕ) (d : X) → i < length xs → p (get_or xs i d) ≡ false
find_none p [] is i d lt = absurd (omega arith)
find_none p (y ∷ ys) is zero d lt =
    elim (p y) as (λ t. cond t (Some y) (find p ys) ≡ None → t ≡ false) [
      | true ↦ (λ is. absurd cc)
      | false ↦ (λ is. refl)
    ] is
find_none p (y ∷ ys) is (suc i) d lt =
    elim (p y) as (λ t. cond t (Some y) (find p ys) ≡ None → p (get_or ys i d) ≡ false) [
      | true ↦ (λ is. absurd cc)
      | false ↦ (λ is. find_none p ys is i d (omega arith))
    ] is

-- in a list made from the indices, the only item that passes the test is found
find_made : {X : Type 0} (f : ℕ → X) (p : X → Bool) (k : ℕ) → p (f k) ≡ true → ((i : ℕ) → (i ≡ k → ⊥) → p (f i) ≡ false) → (a n : ℕ) → a ≤ k → k < a + n
    → find p (map f (range_with_len a n)) ≡ Some (f k)
find_made f p k met unmet a zero from below = absurd (omega (arith, from, below))
find_made f p k met unmet a (suc n) from below =
    ⊎_elim
    (λ (same : a ≡ k). ap (λ t. cond t (Some (f a)) (find p (map f (range_with_len (a + 1) n)))) (ap (λ i. p (f i)) same ∙ met) ∙ ap (λ i. Some (f i)) same)
    (λ (other : a ≡ k → ⊥). ap (λ t. cond t (Some (f a)) (find p (map f (range_with_len (a + 1) n)))) (unmet a other)
    ∙ find_made f p k met unmet (a + 1) n (omega (arith, from, other)) (omega (arith, below)))
    (cases_eq a k)

-- ---- the sectors of a track

abbrev pub form_sectors : FlatForm → List ℕ → (track : ℕ) → List ImdSector
form_sectors form bytes track = map (form_sector form bytes track) (range_with_len 0 form.sectors)

good_sectors : (form : FlatForm) (bytes : List ℕ) (track : ℕ) (each : List ℕ) → AreGood (map (form_sector form bytes track) each)
good_sectors form bytes track [] = tt
good_sectors form bytes track (i ∷ each) = (refl, good_sectors form bytes track each)

-- a track of a medium has these sectors
pub record IsOn (disk : Disk) (c h : ℕ) (sectors : List ImdSector) : Type 0 where
  pub there : HasTrack disk c h
  pub has : HasSectors (track_of disk c h) sectors

pub form_on : (form : FlatForm) (bytes : List ℕ) (disk : Disk) (track : ℕ) → HasImage disk (form_image form bytes) → track < tracks_of form
    → IsOn disk (cylinder_of form track) (head_of form track) (form_sectors form bytes track)
form_on form bytes disk track has below =
    let one = form_track form bytes track in
    let within : track < length (map (form_track form bytes) (range_with_len 0 (tracks_of form))) =
    subst (λ (n : ℕ). track < n) (sym (length-map-range_with_len (form_track form bytes) 0 (tracks_of form))) below in
    subst (λ (it : ImdTrack). IsOn disk it.c it.h it.sectors) (track_is form bytes track one below)
    (record { there = has.there track one within; has = has.tracks track one within })

pub no_sector : ImdSector
no_sector = record { key = record { c = 0; h = 0; r = 0; n = 0 }; kind = Good; content = [] }

no_track : ImdTrack
no_track = record { c = 0; h = 0; n = 0; sectors = [] }

is_here : (c h : ℕ) (track : ImdTrack) → track.c ≡ c → track.h ≡ h → is_track c h track ≡ true
is_here c h track same_c same_h = rw (eq-eqb track.c c same_c, eq-eqb track.h h same_h) refl

-- an image that has all of the medium has these sectors too
sectors_found : (disk : Disk) (image : ImdImage) (c h : ℕ) (sectors : List ImdSector) → IsOn disk c h sectors → AreGood sectors → 0 < length sectors
    → HasImage disk image → (found : Option ImdTrack) → find (is_track c h) image.tracks ≡ found → sectors_on image.tracks c h ≡ sectors
sectors_found disk image c h sectors on good some has None is =
    ⊎_elim
    (λ at. let none = find_none (is_track c h) image.tracks is at.0 no_track at.1 in
    let met = is_here c h (get_or image.tracks at.0 no_track) (at.2 no_track).0 (at.2 no_track).1 in absurd cc)
    (λ bare. absurd (bare (on.has.place 0) (get_or sectors 0 no_sector).key (on.has.address 0 no_sector some)))
    (has.others c h on.there)
sectors_found disk image c h sectors on good some has (Some track) is =
    let at = find_at (is_track c h) image.tracks track is in
    let both = and_parts (track.c == c) (track.h == h) at.3 in
    let on_it = subst (λ (it : ImdTrack). HasSectors (track_of disk it.c it.h) it.sectors) (at.2 no_track) (has.tracks at.0 no_track at.1) in
    let on_c = subst (λ (x : ℕ). HasSectors (track_of disk x track.h) track.sectors) (eqb-true track.c c both.0) on_it in
    let on_h = subst (λ (x : ℕ). HasSectors (track_of disk c x) track.sectors) (eqb-true track.h h both.1) on_c in
    ap (λ (found : Option ImdTrack). option_map_or (λ (it : ImdTrack). it.sectors) found []) is
    ∙ sym (same_sectors (track_of disk c h) sectors track.sectors on.has on_h good)

pub sectors_are : (form : FlatForm) (bytes : List ℕ) (disk : Disk) (image : ImdImage) (track : ℕ) → IsForm form → HasImage disk (form_image form bytes)
    → HasImage disk image → track < tracks_of form → sectors_on image.tracks (cylinder_of form track) (head_of form track) ≡ form_sectors form bytes track
sectors_are form bytes disk image track valid made has below =
    let many = length-map-range_with_len (form_sector form bytes track) 0 form.sectors in
    sectors_found disk image (cylinder_of form track) (head_of form track) (form_sectors form bytes track) (form_on form bytes disk track made below)
    (good_sectors form bytes track (range_with_len 0 form.sectors)) (omega (arith, many, valid.some_sectors)) has _ refl

-- ---- one of the sectors

passes : (c h n r s : ℕ) → s ≡ r → ((c == c) && ((h == h) && ((s == r) && (n == n)))) ≡ true
passes c h n r s same = rw (eq-eqb c c refl, eq-eqb h h refl, eq-eqb s r same, eq-eqb n n refl) refl

fails : (c h n r s : ℕ) → (s ≡ r → ⊥) → ((c == c) && ((h == h) && ((s == r) && (n == n)))) ≡ false
fails c h n r s other = rw (eq-eqb c c refl, eq-eqb h h refl, ne_eqb s r other) refl

pub sector_is : (form : FlatForm) (bytes : List ℕ) (tracks : List ImdTrack) (track k : ℕ) → k < form.sectors
    → sectors_on tracks (cylinder_of form track) (head_of form track) ≡ form_sectors form bytes track
    → sector_on tracks form.n (cylinder_of form track) (head_of form track) (k + 1) ≡ Some (form_sector form bytes track k)
sector_is form bytes tracks track k below sectors =
    let c = cylinder_of form track in
    let h = head_of form track in
    ap (find (is_wanted form.n c h (k + 1))) sectors
    ∙ find_made (form_sector form bytes track) (is_wanted form.n c h (k + 1)) k (passes c h form.n (k + 1) (k + 1) refl)
    (λ i other. fails c h form.n (k + 1) (i + 1) (λ same. other (omega (arith, same)))) 0 form.sectors (omega arith) (omega (arith, below))

-- ---- the bytes of the sectors

part_more : (bytes : List ℕ) (place size : ℕ) → take place bytes ++ slice_range bytes place (place + size) ≡ take (place + size) bytes
part_more bytes place size = let rest : place + size - place ≡ size = omega arith in rw rest (sym (take-add place size bytes))

same_content : (a b : ImdSector) → Some a ≡ Some b → b.content ≡ a.content
same_content a b is = let same : a ≡ b = cc in ap (λ (it : ImdSector). it.content) (sym same)

records_are : (form : FlatForm) (bytes : List ℕ) (tracks : List ImdTrack) (track count : ℕ) (old new : List ℕ) → count ≤ form.sectors
    → sectors_on tracks (cylinder_of form track) (head_of form track) ≡ form_sectors form bytes track
    → AddsRecords tracks form.n (cylinder_of form track) (head_of form track) count old new → old ≡ take (track * form.sectors * sector_bytes form) bytes
    → new ≡ take ((track * form.sectors + count) * sector_bytes form) bytes
unfolding AddsRecords
records_are form bytes tracks track zero old new most sectors adds before =
    let none : track * form.sectors ≡ track * form.sectors + 0 = omega arith in
    adds ∙ before ∙ ap (λ n. take (n * sector_bytes form) bytes) none
records_are form bytes tracks track (suc count) old new most sectors adds before =
    let size = sector_bytes form in
    let place = (track * form.sectors + count) * size in
    let so_far : adds.0 ≡ take place bytes = records_are form bytes tracks track count old adds.0 (omega (arith, most)) sectors adds.1 before in
    let one = sector_is form bytes tracks track count (omega (arith, most)) sectors in
    let content : adds.2.0.content ≡ slice_range bytes place (place + size) = same_content (form_sector form bytes track count) adds.2.0 (sym one ∙ adds.2.1) in
    let next : place + size ≡ (track * form.sectors + suc count) * size = omega arith in
    adds.2.2 ∙ ap (λ (b : List ℕ). b ++ adds.2.0.content) so_far ∙ ap (λ (b : List ℕ). take place bytes ++ b) content ∙ part_more bytes place size
    ∙ ap (λ n. take n bytes) next

tracks_are : (form : FlatForm) (bytes : List ℕ) (tracks : List ImdTrack) (count : ℕ) (file : List ℕ)
    → ((track : ℕ) → track < count → sectors_on tracks (cylinder_of form track) (head_of form track) ≡ form_sectors form bytes track)
    → AreOfTracks tracks form count file → file ≡ take (count * form.sectors * sector_bytes form) bytes
unfolding AreOfTracks
tracks_are form bytes tracks zero file all are =
    let none : 0 ≡ 0 * form.sectors * sector_bytes form = omega arith in are ∙ ap (λ n. take n bytes) none
tracks_are form bytes tracks (suc track) file all are =
    let before = tracks_are form bytes tracks track are.0 (λ i lt. all i (omega (arith, lt))) are.1 in
    let next : track * form.sectors + form.sectors ≡ suc track * form.sectors = omega arith in
    records_are form bytes tracks track form.sectors are.0 file (omega arith) (all track (omega arith)) are.3 before
    ∙ ap (λ n. take (n * sector_bytes form) bytes) next

-- the bytes of all sectors are the file
pub file_again : (form : FlatForm) (bytes : List ℕ) (disk : Disk) (image : ImdImage) (file : List ℕ) → IsForm form → length bytes ≡ file_length form
    → HasImage disk (form_image form bytes) → HasImage disk image → AreOfTracks image.tracks form (tracks_of form) file → file ≡ bytes
file_again form bytes disk image file valid whole made has are =
    tracks_are form bytes image.tracks (tracks_of form) file (λ track below. sectors_are form bytes disk image track valid made has below) are
    ∙ take_all (tracks_of form * form.sectors * sector_bytes form) bytes (omega (arith, whole))
