-- Diskettes that have the sectors of an image.
use Rattle.std.proofs.Common.{◌≡◌, ℕ, zero, suc, ◌<◌, ◌⊎◌, true, false, eqb, List, [], ◌∷◌, length, get_or, refl, sym, ap, subst, ◌∙◌, arith, eq-eqb, inl, inr}
use Rattle.imagedisk.proofs.Common.{eqb-true, get_or_default, Chrn, Disk, HasTrack, track_of, Field, IsAddressAt, ImdKind, Good, Deleted, ImdTrack, ImdImage, IsImdImage, Holds, IsTrackOf, HasTrackAt, IsImageOf, IsMediumOf, IsFoundAs, HasSectors, HasImage, SharesSectors}
use Rattle.imagedisk.proofs.FoundAgain.{made_has, empty_has}
use Rattle.imagedisk.proofs.OnMedium.{has_track}

held_found : (track : List ℕ) (p n : ℕ) (kind : ImdKind) (content : List ℕ) → Holds track p n kind content → IsFoundAs track p n kind content
held_found track p n Good content held = held
held_found track p n Deleted content held = held
held_found track p n _ content held = held.0

no_field : Field
no_field = record { place = 0; key = record { c = 0; h = 0; r = 0; n = 0 } }

pub taken_has : (words : List ℕ) (c h : ℕ) (track : ImdTrack) → IsTrackOf words c h track → HasSectors words track.sectors
taken_has words c h track is =
    let fields = is.fields in
    let count = is.sectors.count in
    record {
      place = λ i. (get_or fields i no_field).place;
      ordered = λ i j lt within. is.addresses.ordered i j no_field lt (omega (arith, count));
      address = λ i d lt.
          subst (λ (key : Chrn). IsAddressAt words (get_or fields i no_field).place key) (sym (is.sectors.each i no_field d (omega (arith, count))).key) (is.addresses.each i no_field (omega (arith, count)));
      data_are = λ i d lt.
          let one = is.sectors.each i no_field d (omega (arith, count)) in
          let sector = get_or track.sectors i d in
          subst (λ (key : Chrn). IsFoundAs words (get_or fields i no_field).place key.n sector.kind sector.content) (sym one.key)
          (held_found words (get_or fields i no_field).place (get_or fields i no_field).key.n sector.kind sector.content one.data_are);
      only = λ p key at.
          let found = is.addresses.all (record { place = p; key = key }) at in (
            found.0,
            (let within = found.1 in omega (arith, within, count)),
            ap (λ (f : Field). f.place) (sym found.2 ∙ get_or_default fields found.0 (record { place = p; key = key }) no_field found.1),
          );
    }

pub image_has : (disk : Disk) (image : ImdImage) → IsImageOf disk image → HasImage disk image
image_has disk image is = record {
  there = λ i d lt. (is.each i d lt).there;
  tracks = λ i d lt.
      let one = is.each i d lt in
      let track = get_or image.tracks i d in
      taken_has (track_of disk track.c track.h) track.c track.h track one.holds;
  others = is.all;
}

-- no track of this cylinder and head is among these
abbrev NoneAt : List ImdTrack → ℕ → ℕ → Type 0
NoneAt tracks c h = (i : ℕ) (d : ImdTrack) → i < length tracks → (get_or tracks i d).c ≡ c → (get_or tracks i d).h ≡ h → ⊥

at_next : (track : ImdTrack) (tracks : List ImdTrack) (c h : ℕ) → HasTrackAt tracks c h → HasTrackAt (track ∷ tracks) c h
at_next track tracks c h at = (suc at.0, (let within = at.1 in omega (arith, within)), at.2)

none_next : (track : ImdTrack) (tracks : List ImdTrack) (c h : ℕ) → (track.c ≡ c → track.h ≡ h → ⊥) → NoneAt tracks c h → NoneAt (track ∷ tracks) c h
none_next track tracks c h other none zero d lt = other
none_next track tracks c h other none (suc i) d lt = none i d (omega arith)

same_or_not : (a b : ℕ) → (a ≡ b) ⊎ (a ≡ b → ⊥)
same_or_not a b =
    elim (eqb a b) as (λ t. eqb a b ≡ t → (a ≡ b) ⊎ (a ≡ b → ⊥)) [
      | true ↦ (λ e. inl (eqb-true a b e))
      | false ↦ (λ e. inr (λ same. let met = eq-eqb a b same in absurd cc))
    ] refl

at_or_not : (tracks : List ImdTrack) (c h : ℕ) → HasTrackAt tracks c h ⊎ NoneAt tracks c h
at_or_not [] c h = inr (λ i d lt. absurd (omega arith))
at_or_not (track ∷ tracks) c h =
    elim (at_or_not tracks c h) [
      | inl at ↦ inl (at_next track tracks c h at)
      | inr none ↦ elim (same_or_not track.c c) [
        | inr other ↦ inr (none_next track tracks c h (λ same_c same_h. other same_c) none)
        | inl same_c ↦ elim (same_or_not track.h h) [
          | inl same_h ↦ inl (0, omega arith, λ d. (same_c, same_h))
          | inr other ↦ inr (none_next track tracks c h (λ e same_h. other same_h) none)
        ]
      ]
    ]

pub medium_has : (least : ℕ) (image : ImdImage) (disk : Disk) → IsImdImage image → IsMediumOf least image disk → HasImage disk image
medium_has least image disk valid is = record {
  there = λ i d lt. has_track image disk i d valid is.shape lt;
  tracks = λ i d lt.
      let track = get_or image.tracks i d in
      made_has least image.rate track (track_of disk track.c track.h) (valid.tracks i d lt) (is.made i d lt);
  others = λ c h has. elim (at_or_not image.tracks c h) [
    | inl at ↦ inl at
    | inr none ↦ (
        let empty = is.others c h has (λ i d lt at. none i d lt at.0 at.1) in
        let nowhere = subst (λ (ws : List ℕ). HasSectors ws []) (sym empty) (empty_has image.rate) in
        inr (λ p key at. let one = nowhere.only p key at in let within = one.1 in omega (arith, within)))
  ];
}

-- ---- two diskettes with the sectors of one image

pub no_track : ImdTrack
no_track = record { c = 0; h = 0; n = 0; sectors = [] }

-- a track of the image is on the diskette
record IsOn (disk : Disk) (track : ImdTrack) (c h : ℕ) : Type 0 where
  there : HasTrack disk c h
  has : HasSectors (track_of disk c h) track.sectors

on_disk : (disk : Disk) (image : ImdImage) (c h i : ℕ) → HasImage disk image → i < length image.tracks → (get_or image.tracks i no_track).c ≡ c → (get_or image.tracks i no_track).h ≡ h
    → IsOn disk (get_or image.tracks i no_track) c h
on_disk disk image c h i has lt same_c same_h =
    let track = get_or image.tracks i no_track in
    subst (λ (x : ℕ). IsOn disk track c x) same_h
    (subst (λ (x : ℕ). IsOn disk track x track.h) same_c (record { there = has.there i no_track lt; has = has.tracks i no_track lt }))

pub shares_sectors : (disk other : Disk) (image : ImdImage) → HasImage disk image → HasImage other image → SharesSectors disk other
shares_sectors disk other image one two c h has =
    elim (one.others c h has) [
      | inl at ↦ (
          let same = at.2 no_track in
          let here = on_disk disk image c h at.0 one at.1 same.0 same.1 in
          let there = on_disk other image c h at.0 two at.1 same.0 same.1 in
          inl (there.there, ((get_or image.tracks at.0 no_track).sectors, here.has, there.has)))
      | inr none ↦ inr none
    ]
