-- The map of a diskette that has the sectors of an image.
use Rattle.std.proofs.Common.{◌≡◌, ℕ, zero, suc, ◌+◌, ◌≤◌, ◌<◌, ◌⊎◌, Bool, true, false, cond, eqb, ◌&&◌, List, [], ◌∷◌, ◌++◌, length, get_or, refl, sym, ap, subst, ◌∙◌, arith, eq-eqb, inl, inr}
use Rattle.imagedisk.proofs.Common.{eqb-true, cases_lt, Chrn, Disk, track_of, Look, Found, NoData, BadCrc, IsAddressAt, LookAt, one_key, one_look_at, ImdKind, Absent, Bad, BadDeleted, ImdSector, ImdTrack, ImdImage, HasNoAddress, IsFoundAs, HasSectors, HasImage}
use Rattle.imagedisk.proofs.Imaged.{no_track}
use Rattle.imagedisk.specs.Maps.{Entry, IsBare, IsMapFrom, entry_of, entries_of, sectors_on, HasMapOf}

-- a map also begins at a lower place if nothing is found between the two places
lower : (track : List ℕ) (low high : ℕ) (entries : List Entry) → low ≤ high → ((q : ℕ) → low ≤ q → q < high → IsBare track q) → IsMapFrom track high entries → IsMapFrom track low entries
lower track low high [] le bare map = λ p from. elim (cases_lt p high) [
  | inl lt ↦ bare p from lt
  | inr past ↦ map p past
]
lower track low high (entry ∷ entries) le bare map = (
  map.0,
  (let from = map.1 in omega (arith, from)),
  λ q from before. elim (cases_lt q high) [
    | inl lt ↦ bare q from lt
    | inr past ↦ map.2 q past before
  ],
  map.3,
  map.4,
)

-- if the look has another answer than Found, nothing is found there
bare_by : (track : List ℕ) (p : ℕ) (key : Chrn) (look : Look) → IsAddressAt track p key → LookAt track p key.n look → ((deleted : Bool) (place : ℕ) → look ≡ Found deleted place → ⊥) → IsBare track p
bare_by track p key look here is other entry at =
    let same = one_key track p key entry.key here at.address in
    let found = at.data_are in
    other entry.deleted found.0 (one_look_at track p key.n look (Found entry.deleted found.0) is (subst (λ (k : Chrn). LookAt track p k.n (Found entry.deleted found.0)) (sym same) found.1))

-- the sectors of the track from place `low` on
record HasOn (track : List ℕ) (low : ℕ) (sectors : List ImdSector) : Type 0 where
  place : ℕ → ℕ
  from : (i : ℕ) → i < length sectors → low ≤ place i
  ordered : (i j : ℕ) → i < j → j < length sectors → place i < place j
  address : (i : ℕ) (d : ImdSector) → i < length sectors → IsAddressAt track (place i) (get_or sectors i d).key
  data_are : (i : ℕ) (d : ImdSector) → i < length sectors → IsFoundAs track (place i) (get_or sectors i d).key.n (get_or sectors i d).kind (get_or sectors i d).content
  only : (p : ℕ) (key : Chrn) → low ≤ p → IsAddressAt track p key → (i : ℕ) × (i < length sectors) × (p ≡ place i)

behind : (track : List ℕ) (low : ℕ) (sector : ImdSector) (sectors : List ImdSector) (on : HasOn track low (sector ∷ sectors)) → HasOn track (on.place 0 + 1) sectors
behind track low sector sectors on = record {
  place = λ i. on.place (suc i);
  from = λ i lt. let later = on.ordered 0 (suc i) (omega arith) (omega arith) in omega (arith, later);
  ordered = λ i j lt within. on.ordered (suc i) (suc j) (omega arith) (omega arith);
  address = λ i d lt. on.address (suc i) d (omega arith);
  data_are = λ i d lt. on.data_are (suc i) d (omega arith);
  only = λ p key from at. next p (let first = on.from 0 (omega arith) in on.only p key (omega (arith, from, first)) at) from;
}
  where
    next : (p : ℕ) → (i : ℕ) × (i < suc (length sectors)) × (p ≡ on.place i) → on.place 0 + 1 ≤ p → (i : ℕ) × (i < length sectors) × (p ≡ on.place (suc i))
    next p found from =
        elim found.0 as (λ i. i < suc (length sectors) → p ≡ on.place i → (i : ℕ) × (i < length sectors) × (p ≡ on.place (suc i))) [
          | zero ↦ (λ lt e. absurd (omega arith))
          | suc i ↦ (λ lt e. (i, omega arith, e))
        ] found.1 found.2

-- nothing is found before the first of these sectors
bare_before : (track : List ℕ) (low : ℕ) (sector : ImdSector) (sectors : List ImdSector) (on : HasOn track low (sector ∷ sectors)) (q : ℕ) → low ≤ q → q < on.place 0 → IsBare track q
bare_before track low sector sectors on q from before entry at =
    let found = on.only q entry.key from at.address in
    wrong found.0 found.1 found.2
  where
    wrong : (i : ℕ) → i < suc (length sectors) → q ≡ on.place i → ⊥
    wrong zero lt e = omega arith
    wrong (suc i) lt e = let later = on.ordered 0 (suc i) (omega arith) lt in omega (arith, later, e)

-- one more place is passed before the first entry
skip : (track : List ℕ) (low p : ℕ) (entries : List Entry) → low ≤ p → ((q : ℕ) → low ≤ q → q < p → IsBare track q) → IsBare track p → IsMapFrom track (p + 1) entries → IsMapFrom track low entries
skip track low p entries from before here map =
    lower track low (p + 1) entries (omega arith) (λ q since lt. elim (cases_lt q p) [
      | inl less ↦ before q since less
      | inr past ↦ (let at : p ≡ q = omega arith in subst (λ (k : ℕ). IsBare track k) at here)
    ]) map

-- the map of a sector and of those behind it on the track
map_with : (track : List ℕ) (low p : ℕ) (key : Chrn) (kind : ImdKind) (content : List ℕ) (entries : List Entry) → low ≤ p → ((q : ℕ) → low ≤ q → q < p → IsBare track q)
    → IsAddressAt track p key → IsFoundAs track p key.n kind content → IsMapFrom track (p + 1) entries → IsMapFrom track low (entry_of key kind content ++ entries)
map_with track low p key Absent content entries from bare here found map = skip track low p entries from bare (bare_by track p key NoData here found (λ deleted place e. absurd cc)) map
map_with track low p key Bad content entries from bare here found map = skip track low p entries from bare (bare_by track p key BadCrc here found (λ deleted place e. absurd cc)) map
map_with track low p key BadDeleted content entries from bare here found map = skip track low p entries from bare (bare_by track p key BadCrc here found (λ deleted place e. absurd cc)) map
map_with track low p key _ content entries from bare here found map = (p, from, bare, record { address = here; data_are = found }, map)

mapped : (track : List ℕ) (low : ℕ) (sectors : List ImdSector) → HasOn track low sectors → IsMapFrom track low (entries_of sectors)
mapped track low [] on = λ p from entry at. let found = on.only p entry.key from at.address in let within = found.1 in omega (arith, within)
mapped track low (sector ∷ sectors) on =
    map_with track low (on.place 0) sector.key sector.kind sector.content (entries_of sectors) (on.from 0 (omega arith)) (bare_before track low sector sectors on)
    (on.address 0 sector (omega arith)) (on.data_are 0 sector (omega arith)) (mapped track (on.place 0 + 1) sectors (behind track low sector sectors on))

has_map : (track : List ℕ) (sectors : List ImdSector) → HasSectors track sectors → IsMapFrom track 0 (entries_of sectors)
has_map track sectors has = mapped track 0 sectors (record {
  place = has.place;
  from = λ i lt. omega arith;
  ordered = has.ordered;
  address = has.address;
  data_are = has.data_are;
  only = λ p key from at. has.only p key at;
})

-- ---- the tracks of an image

-- the sectors on a cylinder and head are those of the image's track there, or the image has no such track
abbrev IsOn : List ImdTrack → ℕ → ℕ → Type 0
IsOn tracks c h = (i : ℕ) × (i < length tracks) × ((d : ImdTrack) → ((get_or tracks i d).c ≡ c) × ((get_or tracks i d).h ≡ h) × (sectors_on tracks c h ≡ (get_or tracks i d).sectors))

abbrev IsNot : List ImdTrack → ℕ → ℕ → Type 0
IsNot tracks c h = ((i : ℕ) (d : ImdTrack) → i < length tracks → (get_or tracks i d).c ≡ c → (get_or tracks i d).h ≡ h → ⊥) × (sectors_on tracks c h ≡ [])

later_on : (track : ImdTrack) (tracks : List ImdTrack) (c h : ℕ) → (eqb track.c c && eqb track.h h) ≡ false → IsOn tracks c h ⊎ IsNot tracks c h → IsOn (track ∷ tracks) c h ⊎ IsNot (track ∷ tracks) c h
later_on track tracks c h other (inl on) =
    inl (suc on.0, (let within = on.1 in omega (arith, within)), λ d. ((on.2 d).0, (on.2 d).1, ap (λ (t : Bool). cond t track.sectors (sectors_on tracks c h)) other ∙ (on.2 d).2))
later_on track tracks c h other (inr none) =
    inr (nowhere, ap (λ (t : Bool). cond t track.sectors (sectors_on tracks c h)) other ∙ none.1)
  where
    nowhere : (i : ℕ) (d : ImdTrack) → i < suc (length tracks) → (get_or (track ∷ tracks) i d).c ≡ c → (get_or (track ∷ tracks) i d).h ≡ h → ⊥
    nowhere zero d lt same_c same_h = let met : (eqb track.c c && eqb track.h h) ≡ true = rw (eq-eqb track.c c same_c, eq-eqb track.h h same_h) refl in absurd cc
    nowhere (suc i) d lt same_c same_h = none.0 i d (omega arith) same_c same_h

here_on : (track : ImdTrack) (tracks : List ImdTrack) (c h : ℕ) (s t : Bool) → eqb track.c c ≡ s → eqb track.h h ≡ t → (s && t) ≡ true → IsOn (track ∷ tracks) c h
here_on track tracks c h true true e f both =
    (0, omega arith, λ d. (eqb-true track.c c e, eqb-true track.h h f, rw (e, f) refl))
here_on track tracks c h _ _ e f both = absurd cc

on_or_not : (tracks : List ImdTrack) (c h : ℕ) → IsOn tracks c h ⊎ IsNot tracks c h
on_or_not [] c h = inr (λ i d lt same_c same_h. absurd (omega arith), refl)
on_or_not (track ∷ tracks) c h =
    elim (eqb track.c c && eqb track.h h) as (λ t. (eqb track.c c && eqb track.h h) ≡ t → IsOn (track ∷ tracks) c h ⊎ IsNot (track ∷ tracks) c h) [
      | true ↦ (λ both. inl (here_on track tracks c h (eqb track.c c) (eqb track.h h) refl refl both))
      | false ↦ (λ other. later_on track tracks c h other (on_or_not tracks c h))
    ] refl

none_has : (track : List ℕ) → HasNoAddress track → HasSectors track []
none_has track none = record {
  place = λ i. i;
  ordered = λ i j lt within. lt;
  address = λ i d lt. absurd (omega arith);
  data_are = λ i d lt. absurd (omega arith);
  only = λ p key at. absurd (none p key at);
}

pub image_map : (disk : Disk) (image : ImdImage) → HasImage disk image → HasMapOf disk image
image_map disk image has c h there =
    elim (on_or_not image.tracks c h) [
      | inl on ↦ (
          let track = get_or image.tracks on.0 no_track in
          let is = on.2 no_track in
          let at = has.tracks on.0 no_track on.1 in
          let moved = subst (λ (x : ℕ). HasSectors (track_of disk x track.h) track.sectors) is.0 at in
          let here = subst (λ (x : ℕ). HasSectors (track_of disk c x) track.sectors) is.1 moved in
          subst (λ (sectors : List ImdSector). IsMapFrom (track_of disk c h) 0 (entries_of sectors)) (sym is.2) (has_map (track_of disk c h) track.sectors here))
      | inr none ↦ (
          subst (λ (sectors : List ImdSector). IsMapFrom (track_of disk c h) 0 (entries_of sectors)) (sym none.1)
          (has_map (track_of disk c h) [] (none_has (track_of disk c h) (elim (has.others c h there) [
            | inl at ↦ absurd (none.0 at.0 no_track at.1 (at.2 no_track).0 (at.2 no_track).1)
            | inr bare ↦ bare
          ]))))
    ]
