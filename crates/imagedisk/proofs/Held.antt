-- What the looks at the address fields of a track find.
use Rattle.std.proofs.Common.{◌≡◌, ℕ, ◌+◌, ◌*◌, ◌^◌, ◌<◌, Bool, List, [], ◌∷◌, ◌++◌, length, get_or, refl, sym, ap, subst, ◌∙◌, arith, Contains, inl, inr}
use Rattle.imagedisk.proofs.Common.{cases_lt, get_or_append_left, get_or_default, get_or_past, get_or-append_seam, Chrn, Field, Look, Found, NoData, BadCrc, byte_at, bytes_at, IsKey, IsAddressAt, AreAddresses, content_size, content_at, IsFirstDataMark, LookAt, one_first, ImdKind, Absent, Bad, BadDeleted, ImdSector, kept_size, AreBytes, IsImdSector, Holds, IsSectorAt, AreUniform, IsFit, HasNoAddress}
use Rattle.std.proofs.lemmas.List.FromFn.{length-map-range_with_len, map-range_with_len_more, get_or-map-range_with_len}
use Rattle.track_model.specs.Cells.{IsInside, cell}
use Rattle.track_model.proofs.Numbers.{number_below}
use Rattle.track_model.proofs.Places.{cell-lt}

pub one_more_byte : (track : List ℕ) (p i : ℕ) → bytes_at track p (i + 1) ≡ bytes_at track p i ++ byte_at track (p + 16 * i) ∷ []
one_more_byte track p i = map-range_with_len_more (λ j. byte_at track (p + 16 * j)) 0 i i (omega arith)

pub damaged_inside : (track : List ℕ) (p n : ℕ) (deleted : Bool) (q : ℕ) → LookAt track p n BadCrc → IsFirstDataMark track p q deleted → IsInside track (q + 64) (16 * content_size n)
damaged_inside track p n deleted q look first =
    let same = one_first track p look.0 q look.1.0 deleted look.1.1.first first in
    let inside = look.1.1.inside in
    omega (arith, same, inside)

pub found_inside : (track : List ℕ) (p n : ℕ) (deleted : Bool) (place : ℕ) → LookAt track p n (Found deleted place) → IsInside track place (16 * content_size n)
found_inside track p n deleted place look = let is = look.2 in let inside = look.1.inside in omega (arith, is, inside)

pub has_mark : (track : List ℕ) (p n : ℕ) → LookAt track p n BadCrc → (q : ℕ) × (deleted : Bool) × IsFirstDataMark track p q deleted
has_mark track p n look = (look.0, look.1.0, look.1.1.first)

pub is_absent : (track : List ℕ) (p n : ℕ) (look : Look) → LookAt track p n look → ((deleted : Bool) (place : ℕ) → look ≡ Found deleted place → ⊥) → (look ≡ BadCrc → ⊥) → LookAt track p n NoData
is_absent track p n (Found deleted place) is not_found not_bad = absurd (not_found deleted place refl)
is_absent track p n NoData is not_found not_bad = is
is_absent track p n BadCrc is not_found not_bad = absurd (not_bad refl)
is_absent track p n _ is not_found not_bad = absurd is

content_length : (track : List ℕ) (place n : ℕ) (content : List ℕ) → content ≡ content_at track place n → length content ≡ content_size n
content_length track place n content is = ap length is ∙ length-map-range_with_len (λ i. byte_at track (place + 16 * i)) 0 (content_size n)

pub held_size : (track : List ℕ) (p n : ℕ) (kind : ImdKind) (content : List ℕ) → Holds track p n kind content → length content ≡ kept_size kind n
held_size track p n Absent content held = ap length held.1
held_size track p n Bad content held = content_length track (held.1 + 64) n content held.3
held_size track p n BadDeleted content held = content_length track (held.1 + 64) n content held.3
held_size track p n _ content held = content_length track held.0 n content held.2

-- ---- bytes

byte_small : (track : List ℕ) (p : ℕ) → byte_at track p < 2 ^ 8
byte_small track p = number_below (λ i. cell track (p + (2 * i + 1))) 8 (λ k lt. cell-lt track (p + (2 * k + 1)))

content_bytes : (track : List ℕ) (place n : ℕ) (content : List ℕ) → content ≡ content_at track place n → AreBytes content
content_bytes track place n content is j =
    let byte : ℕ → ℕ = λ i. byte_at track (place + 16 * i) in
    subst (λ (row : List ℕ). get_or row j 0 < 2 ^ 8) (sym is) (
    elim (cases_lt j (content_size n)) [
      | inl lt ↦ subst (λ (b : ℕ). b < 2 ^ 8) (sym (get_or-map-range_with_len byte 0 (content_size n) j j 0 lt (omega arith))) (byte_small track (place + 16 * j))
      | inr past ↦ subst (λ (b : ℕ). b < 2 ^ 8) (sym (get_or_past (content_at track place n) j 0 (omega (arith, length-map-range_with_len byte 0 (content_size n))))) (omega arith)
    ])

pub no_bytes : AreBytes []
no_bytes j = omega arith

pub held_bytes : (track : List ℕ) (p n : ℕ) (kind : ImdKind) (content : List ℕ) → Holds track p n kind content → AreBytes content
held_bytes track p n Absent content held = subst AreBytes (sym held.1) no_bytes
held_bytes track p n Bad content held = content_bytes track (held.1 + 64) n content held.3
held_bytes track p n BadDeleted content held = content_bytes track (held.1 + 64) n content held.3
held_bytes track p n _ content held = content_bytes track held.0 n content held.2

pub key_bytes : (track : List ℕ) (p : ℕ) (key : Chrn) → IsAddressAt track p key → IsKey key
key_bytes track p key at = record {
  cylinder = subst (λ (b : ℕ). b < 256) at.cylinder (byte_small track (p + 64));
  head = subst (λ (b : ℕ). b < 256) at.head (byte_small track (p + 80));
  sector = subst (λ (b : ℕ). b < 256) at.sector (byte_small track (p + 96));
  size = subst (λ (b : ℕ). b < 256) at.size (byte_small track (p + 112));
}

-- ---- the sectors of a track

-- the sectors so far are those of the first fields
abbrev pub AreSectorsBelow : List ℕ → List Field → List ImdSector → ℕ → Type 0
AreSectorsBelow track fields sectors count = (i : ℕ) (d : Field) (e : ImdSector) → i < count → IsSectorAt track (get_or fields i d) (get_or sectors i e)

pub next_sector : (track : List ℕ) (fields : List Field) (sectors : List ImdSector) (count : ℕ) (sector : ImdSector) → length sectors ≡ count
    → AreSectorsBelow track fields sectors count → ((d : Field) → IsSectorAt track (get_or fields count d) sector) → AreSectorsBelow track fields (sectors ++ sector ∷ []) (count + 1)
next_sector track fields sectors count sector len below this i d e lt =
    elim (cases_lt i count) [
      | inl less ↦ (
          let within : i < length sectors = omega arith in
          subst (λ (s : ImdSector). IsSectorAt track (get_or fields i d) s) (sym (get_or_append_left sectors (sector ∷ []) e i within)) (below i d e less))
      | inr past ↦ (
          let same : i ≡ length sectors = omega arith in
          let at : i ≡ count = omega arith in
          let last : get_or (sectors ++ sector ∷ []) i e ≡ sector = ap (λ (k : ℕ). get_or (sectors ++ sector ∷ []) k e) same ∙ get_or-append_seam sectors sector [] e in
          subst (λ (s : ImdSector). IsSectorAt track (get_or fields i d) s) (sym last) (subst (λ (k : ℕ). IsSectorAt track (get_or fields k d) sector) (sym at) (this d)))
    ]

none_in : (fields : List Field) (field : Field) → length fields ≡ 0 → Contains fields field → ⊥
none_in fields field none found = let within = found.1 in omega (arith, within)

pub none_there : (track : List ℕ) (fields : List Field) → AreAddresses track fields → length fields ≡ 0 → HasNoAddress track × IsFit track
none_there track fields are none = (
  λ p key address. none_in fields (record { place = p; key = key }) none (are.all (record { place = p; key = key }) address),
  (fields, are, 1, record { count = omega arith; coded = (omega arith, omega arith); sizes = λ k d lt. absurd (omega arith) }),
)

pub at_any : (track : List ℕ) (fields : List Field) (i : ℕ) (d : Field) (sector : ImdSector) → i < length fields → IsSectorAt track (get_or fields i d) sector → (e : Field) → IsSectorAt track (get_or fields i e) sector
at_any track fields i d sector lt at e = subst (λ (f : Field). IsSectorAt track f sector) (get_or_default fields i d e lt) at

pub of_code : (fields : List Field) (n i : ℕ) (d : Field) (sector : ImdSector) → i < length fields → AreUniform fields n → IsImdSector (get_or fields i d).key.n sector → IsImdSector n sector
of_code fields n i d sector lt uniform valid = subst (λ (m : ℕ). IsImdSector m sector) (uniform.sizes i d lt) valid
