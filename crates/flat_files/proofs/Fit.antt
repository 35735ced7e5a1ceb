-- A medium that a flat file made has a flat file. Its tracks are such as an image can have, and nothing but a lack of
-- memory refuses it.
use Rattle.std.proofs.Common.{◌≡◌, ◌+◌, ◌*◌, ◌<◌, ◌≤◌, ℕ, zero, suc, List, length, get_or, Result, Ok, Err, refl, sym, ap, ◌∙◌, subst, arith, ⊎_elim}
use Rattle.flat_files.proofs.Common.{Vec, cases_eq, cases_lt, get_or-map-range_with_len, length-map-range_with_len, words_at, Rate, R500, R250, Chrn, Disk, HasTrack, track_of, narrow_gap, AreAddresses, IsAddressAt, one_key, HasSectors, IsMadeTrack, ImdSector, ImdTrack, GivesForm, IsFileAgain, head_of, tracks_of, HasForm, form_sector, form_track, FileFault, NoForm, Flat, FlatForm}
use Rattle.track_model.specs.declared.Field.{Field}
use Rattle.imagedisk.specs.Taken.{IsUnfit}
use Rattle.flat_files.specs.declared.fault.FlatFault.TheVariants as fault
use Rattle.flat_files.proofs.Again.{file_again, form_on, form_sectors, no_sector, sectors_are}
use Rattle.flat_files.proofs.FormValid.{track_is}
use Rattle.flat_files.proofs.Refused.{no_more, none_lacks, number_of, shape_of}

-- ---- as many address fields as sectors

no_field : Field
no_field = record { place = 0; key = record { c = 0; h = 0; r = 0; n = 0 } }

further : (words : List ℕ) (sectors : List ImdSector) (has : HasSectors words sectors) (j k p q : ℕ) → j < length sectors
    → p ≡ has.place j → q ≡ has.place k → p < q → j < k
further words sectors has j k p q within first second less =
    ⊎_elim (λ (before : j < k). before)
    (λ (not_before : k ≤ j).
    ⊎_elim (λ (same : k ≡ j). let place : has.place k ≡ has.place j = ap has.place same in absurd (omega (arith, first, second, less, place)))
    (λ (other : k ≡ j → ⊥). let earlier = has.ordered k j (omega (arith, not_before, other)) within in absurd (omega (arith, first, second, less, earlier)))
    (cases_eq k j))
    (cases_lt j k)

-- address field i is that of a sector with the number i or a higher one
index_of : (words : List ℕ) (fields : List Field) (sectors : List ImdSector) (has : HasSectors words sectors) → AreAddresses words fields → (i : ℕ) → i < length fields
    → (j : ℕ) × (i ≤ j) × (j < length sectors) × ((get_or fields i no_field).place ≡ has.place j)
index_of words fields sectors has addresses zero lt =
    let one = get_or fields 0 no_field in
    let found = has.only one.place one.key (addresses.each 0 no_field lt) in
    (found.0, omega arith, found.1, found.2)
index_of words fields sectors has addresses (suc i) lt =
    let one = get_or fields (suc i) no_field in
    let before = index_of words fields sectors has addresses i (omega (arith, lt)) in
    let found = has.only one.place one.key (addresses.each (suc i) no_field lt) in
    let later = addresses.ordered i (suc i) no_field (omega arith) lt in
    let next = further words sectors has before.0 found.0 (get_or fields i no_field).place one.place before.2 before.3 found.2 later in
    let so_far = before.1 in
    (found.0, omega (arith, so_far, next), found.1, found.2)

no_more_fields : (words : List ℕ) (fields : List Field) (sectors : List ImdSector) → HasSectors words sectors → AreAddresses words fields
    → (count : ℕ) → length fields ≡ count → count ≤ length sectors
no_more_fields words fields sectors has addresses zero many = omega arith
no_more_fields words fields sectors has addresses (suc last) many =
    let at = index_of words fields sectors has addresses last (omega (arith, many)) in
    let so_far = at.1 in
    let within = at.2 in
    omega (arith, so_far, within)

-- ---- the address fields are few enough for an image

most_words : (rate : Rate) → words_at rate ≤ 12500
most_words R500 = omega arith
most_words R250 = omega arith

small : (sectors content gap words : ℕ) → 146 + sectors * (62 + content + gap) ≤ words → words ≤ 12500 → sectors ≤ 255
small sectors content gap words fits most = omega (arith, fits, most)

few : (least : ℕ) (rate : Rate) (track : ImdTrack) (words : List ℕ) → IsMadeTrack least rate track words → 1 ≤ length track.sectors → length track.sectors ≤ 255
few least rate track words made some =
    ⊎_elim (λ empty. let none = ap length empty.0 in absurd (omega (arith, none, some)))
    (λ laid. small (length track.sectors) _ laid.1 (words_at rate) laid.2.suits.fits (most_words rate)) made

few_sectors : (form : FlatForm) (bytes : List ℕ) (disk : Disk) → HasForm form bytes disk → form.sectors ≤ 255
few_sectors form bytes disk has =
    let f = form_track form bytes in
    let track = form.heads * 0 + 0 in
    let number = number_of form 0 0 has.form_is has.form_is.some_cylinders has.form_is.some_heads in
    let below = number.below in
    let many = length-map-range_with_len f 0 (tracks_of form) in
    let made = has.made.made track (f track) (omega (arith, many, below)) in
    let laid : IsMadeTrack narrow_gap form.rate (f track) (track_of disk (f track).c (f track).h) =
    subst (λ (it : ImdTrack). IsMadeTrack narrow_gap form.rate it (track_of disk it.c it.h)) (track_is form bytes track (f track) below) made in
    let count = length-map-range_with_len (form_sector form bytes track) 0 form.sectors in
    let most = few narrow_gap form.rate (f track) (track_of disk (f track).c (f track).h) laid (omega (arith, count, has.form_is.some_sectors)) in
    omega (arith, count, most)

-- ---- the address fields of a track

size_is : (form : FlatForm) (bytes words : List ℕ) (track : ℕ) (field : Field) → HasSectors words (form_sectors form bytes track) → IsAddressAt words field.place field.key
    → field.key.n ≡ form.n
size_is form bytes words track field has at =
    let found = has.only field.place field.key at in
    let j = found.0 in
    let within = found.1 in
    let many = length-map-range_with_len (form_sector form bytes track) 0 form.sectors in
    let key = (get_or (form_sectors form bytes track) j no_sector).key in
    let there : IsAddressAt words field.place key = subst (λ (p : ℕ). IsAddressAt words p key) (sym found.2) (has.address j no_sector within) in
    let same : field.key ≡ key = one_key words field.place field.key key at there in
    ap (λ (k : Chrn). k.n) same
    ∙ ap (λ (sector : ImdSector). sector.key.n) (get_or-map-range_with_len (form_sector form bytes track) 0 form.sectors j j no_sector (omega (arith, many, within)) (omega arith))

never_unfit : (form : FlatForm) (bytes : List ℕ) (disk : Disk) (c h : ℕ) → HasForm form bytes disk → HasTrack disk c h → IsUnfit (track_of disk c h) → ⊥
never_unfit form bytes disk c h has there unfit =
    let shape = shape_of form bytes disk has in
    let track = form.heads * c + h in
    let number = number_of form c h has.form_is (omega (arith, there.0, shape.cylinders)) (omega (arith, there.1, shape.heads)) in
    let on = form_on form bytes disk track has.found number.below in
    let on_c = subst (λ (x : ℕ). HasSectors (track_of disk x (head_of form track)) (form_sectors form bytes track)) number.cylinder on.has in
    let on_h = subst (λ (x : ℕ). HasSectors (track_of disk c x) (form_sectors form bytes track)) number.head on_c in
    let words = track_of disk c h in
    let fields = unfit.0 in
    let count = no_more_fields words fields (form_sectors form bytes track) on_h unfit.1 (length fields) refl in
    let many = length-map-range_with_len (form_sector form bytes track) 0 form.sectors in
    let most = few_sectors form bytes disk has in
    unfit.2 form.n (record {
      count = omega (arith, count, many, most);
      coded = (has.form_is.some_size, has.form_is.most_size);
      sizes = λ i d lt. size_is form bytes words track (get_or fields i d) on_h (unfit.1.each i d lt);
    })

-- ---- the law

pub given_again : (form : FlatForm) (bytes : List ℕ) (disk : Disk) (result : Result (Vec ℕ) FileFault) → HasForm form bytes disk → GivesForm form disk result
    → IsFileAgain bytes result
given_again form bytes disk (Ok file) made given =
    let found = given.1.1 in
    file_again form bytes disk found.0 file.items given.0 made.whole made.found found.2 found.3
given_again form bytes disk (Err NoForm) made given = absurd (given made.form_is)
given_again form bytes disk (Err (Flat fault.Shape)) made given = absurd (given.1 (shape_of form bytes disk made))
given_again form bytes disk (Err (Flat (fault.Unfit c h))) made given = absurd (never_unfit form bytes disk c h made given.1.1.there given.1.1.unfit)
given_again form bytes disk (Err (Flat (fault.More c h))) made given =
    let found = given.1.1 in
    absurd (no_more form bytes found.0.tracks c h given.0 (λ track below. sectors_are form bytes disk found.0 track given.0 made.found found.2 below) found.3)
given_again form bytes disk (Err (Flat (fault.Lacks c h r))) made given =
    let found = given.1.1 in
    absurd (none_lacks form bytes found.0.tracks c h r given.0 (λ track below. sectors_are form bytes disk found.0 track given.0 made.found found.2 below) found.3)
given_again form bytes disk (Err (Flat fault.NoMemory)) made given = refl
