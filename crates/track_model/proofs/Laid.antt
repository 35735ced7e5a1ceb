-- What is Laid: a regular Lay, and a Laid track with one whole window more.
use Rattle.std.proofs.Common.{◌≡◌, ◌↔◌, ℕ, Bool, List, [], ◌∷◌, ◌++◌, refl, sym, subst}
use Rattle.track_model.proofs.Common.{Chrn, IsAddressAt, HasFieldFor, IsRegular, IsRegularLay, FieldWrite, with_window, ComesBy, IsLaid}
use Rattle.track_model.proofs.Aligned.{whole_aligned, whole_keeps}
use Rattle.track_model.proofs.Seams.{IsAligned, unstopped}

-- a regular formatted track is Laid
pub lay_laid : (track : List ℕ) (keys : List Chrn) (n gap3 fill words : ℕ) → IsRegularLay track keys n gap3 fill words → IsLaid track
lay_laid track keys n gap3 fill words regular =
    record { formatted = track; lay = (keys, n, gap3, fill, words, regular); writes = []; written = refl }

-- one more write after the others
comes_more : (track : List ℕ) (writes : List FieldWrite) (after : List ℕ) (p : ℕ) (deleted : Bool) (content : List ℕ) → ComesBy track writes after → HasFieldFor after p content → ComesBy track (writes ++ record { place = p; deleted = deleted; content = content } ∷ []) (with_window after p deleted content)
comes_more track [] after p deleted content same field =
    subst (λ it. HasFieldFor it p content × (with_window after p deleted content ≡ with_window it p deleted content)) same (field, refl)
comes_more track (write ∷ writes) after p deleted content (first, rest) field =
    (first, comes_more (with_window track write.place write.deleted write.content) writes after p deleted content rest field)

-- a Laid track with a whole window at the place of an address field is Laid, if the content has the size that the field
-- names
pub written_laid : (track : List ℕ) (p : ℕ) (deleted : Bool) (content : List ℕ) → IsLaid track → HasFieldFor track p content → IsLaid (with_window track p deleted content)
written_laid track p deleted content laid field = record {
  formatted = laid.formatted;
  lay = laid.lay;
  writes = laid.writes ++ record { place = p; deleted = deleted; content = content } ∷ [];
  written = comes_more laid.formatted laid.writes track p deleted content laid.written field;
}

-- what comes from an Aligned track by such writes is Aligned
pub comes_aligned : (track : List ℕ) (writes : List FieldWrite) (after : List ℕ) → IsAligned unstopped track → ComesBy track writes after → IsAligned unstopped after
comes_aligned track [] after aligned same = subst (IsAligned unstopped) (sym same) aligned
comes_aligned track (write ∷ writes) after aligned (field, rest) =
    comes_aligned (with_window track write.place write.deleted write.content) writes after
    (whole_aligned track write.place field.0 write.deleted write.content aligned field.1)
    rest

-- it has the same address fields
pub comes_addresses : (track : List ℕ) (writes : List FieldWrite) (after : List ℕ) → IsAligned unstopped track → ComesBy track writes after → (q : ℕ) (key : Chrn) → IsAddressAt track q key ↔ IsAddressAt after q key
comes_addresses track [] after aligned same q key =
    (λ a. subst (λ it. IsAddressAt it q key) (sym same) a, λ a. subst (λ it. IsAddressAt it q key) same a)
comes_addresses track (write ∷ writes) after aligned (field, rest) q key =
    let here = (whole_keeps track write.place field.0 write.deleted write.content aligned field.1).addresses q key in
    let more = comes_addresses (with_window track write.place write.deleted write.content) writes after (whole_aligned track write.place field.0 write.deleted write.content aligned field.1) rest q key in
    (λ a. more.0 (here.0 a), λ a. here.1 (more.1 a))

-- and it is regular if the track is
pub comes_regular : (track : List ℕ) (writes : List FieldWrite) (after : List ℕ) (c h : ℕ) → IsAligned unstopped track → ComesBy track writes after → IsRegular track c h → IsRegular after c h
comes_regular track [] after c h aligned same regular = subst (λ it. IsRegular it c h) (sym same) regular
comes_regular track (write ∷ writes) after c h aligned (field, rest) regular =
    comes_regular (with_window track write.place write.deleted write.content) writes after c h
    (whole_aligned track write.place field.0 write.deleted write.content aligned field.1)
    rest
    ((whole_keeps track write.place field.0 write.deleted write.content aligned field.1).regular c h regular)
