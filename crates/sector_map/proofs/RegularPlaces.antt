-- A track is regular if each of its places is.
use Rattle.std.proofs.Common.{◌≡◌, ◌↔◌, ℕ, ◌+◌, ◌-◌, ◌*◌, ◌/◌, ◌%◌, ◌<◌, ◌≤◌, Bool, false, IsTrue, List, length, min, refl, sym, ap, subst, ◌∙◌, lit<, arith, inl, inr}
use Rattle.sector_map.proofs.Common.{cases_lt, cases_order, false≢true, get_or_past, bit_at, Chrn, cell, cells_at, IsRun, IsAddressMark, IsAddressAt, IsRegular, bit_at-cells_at, one_key, HasNoRunWithin, HasNoRun, IsFieldRegular, IsPlaceRegular}
use Rattle.std.proofs.lemmas.Nat.Bits.{bit_at-zero}

cell_beyond : (track : List ℕ) (q : ℕ) → 16 * length track ≤ q → cell track q ≡ 0
cell_beyond track q h = ap (λ w. bit_at w (15 - q % 16)) (get_or_past track (q / 16) 0 (omega arith)) ∙ bit_at-zero (15 - q % 16)

-- a mark A1 ends with a cell 1, so the mark lies inside the track
pub mark_inside : (track : List ℕ) (q : ℕ) → cells_at track q ≡ 0x4489 → q + 16 ≤ 16 * length track
mark_inside track q mark =
    elim (cases_lt (16 * length track) (q + 16)) [
      | inr h ↦ h
      | inl h ↦
          let last : bit_at 0x4489 0 ≡ 1 = refl in
          let digit = bit_at-cells_at track q 15 (lit< tt) in
          let same = ap (λ w. bit_at w 0) mark in
          let none = cell_beyond track (q + 15) (omega arith) in
          omega (arith, last, digit, same, none)
    ]

pub run_inside : (track : List ℕ) (q : ℕ) → IsRun track q → q + 48 ≤ 16 * length track
run_inside track q run = let h = mark_inside track (q + 32) run.third in omega arith

pub no_run_beyond : (track : List ℕ) (from past to q : ℕ) → past ≡ min to (16 * length track - 47) → past ≤ q → HasNoRun track from q → HasNoRun track from to
no_run_beyond track from past to q e h none k low high run =
    let inside = run_inside track k run in
    none k low (omega arith) run

pub not_true : (b : Bool) → b ≡ false → IsTrue b → ⊥
not_true b e t = false≢true (sym e ∙ t)

pub no_run_more : (track : List ℕ) (from q : ℕ) → (IsRun track q → ⊥) → HasNoRun track from q → HasNoRun track from (q + 1)
no_run_more track from q here none k low high run =
    elim (cases_lt k q) [
      | inl l ↦ none k low l run
      | inr l ↦ let e : k ≡ q = omega arith in here (subst (IsRun track) e run)
    ]

-- ---- from places to the track, and back

module _ (track : List ℕ) (c h : ℕ) where
  pub from_places : (q : ℕ) → 16 * length track ≤ q + 63 → ((p : ℕ) → p < q → IsPlaceRegular track c h p) → IsRegular track c h
  from_places q past each =
      let at : (p : ℕ) → IsAddressMark track p → IsPlaceRegular track c h p = λ p mark. let inside = mark.sound.inside in each p (omega arith) in
      let of : (p : ℕ) (key : Chrn) → IsAddressAt track p key → IsFieldRegular track c h p key = λ p key field. (at p field.mark).field key field in
      record {
        plain = λ p mark. (at p mark).plain mark;
        keys = record {
          distinct = λ p r key a b.
              elim (cases_order p r) [
                | inl e ↦ e
                | inr (inl l) ↦ absurd (((of p key a).alone r key l b).differs refl)
                | inr (inr l) ↦ absurd (((of r key b).alone p key l a).differs refl)
              ];
          cylinder = λ p key field. (of p key field).cylinder;
          head = λ p key field. (of p key field).head;
          coded = λ p key field. (of p key field).coded;
        };
        spans = record {
          inside = λ p key field. (of p key field).inside;
          apart = λ p r key other a b l. ((of p key a).alone r other l b).behind;
        };
        gaps = λ p r key field low high mark. (of p key field).gap r low (omega arith) mark;
        ends = λ p r key field low high mark. (of p key field).end r low high mark;
      }

  pub to_place : (p : ℕ) → IsRegular track c h → IsPlaceRegular track c h p
  to_place p regular = record {
    plain = regular.plain p;
    field = λ key field. record {
      cylinder = regular.keys.cylinder p key field;
      head = regular.keys.head p key field;
      coded = regular.keys.coded p key field;
      inside = regular.spans.inside p key field;
      gap = λ r low high mark. regular.gaps p r key field low (omega arith) mark;
      end = λ r low high mark. regular.ends p r key field low high mark;
      alone = λ r other l there. record {
        differs = λ e.
            let same = regular.keys.distinct p r key field (subst (λ (k : Chrn). IsAddressAt track r k) (sym e) there) in omega arith;
        behind = regular.spans.apart p r key other field there l;
      };
    };
  }

  pub places_more : (q : ℕ) → ((p : ℕ) → p < q → IsPlaceRegular track c h p) → IsPlaceRegular track c h q → (p : ℕ) → p < q + 1 → IsPlaceRegular track c h p
  places_more q each here p l =
      elim (cases_lt p q) [
        | inl m ↦ each p m
        | inr m ↦ let e : q ≡ p = omega arith in subst (IsPlaceRegular track c h) e here
      ]

  -- whether a place is regular, if it has an address field of a key, and if it has none
  pub place_by_field : (p : ℕ) (key : Chrn) (b : Bool) → HasNoRunWithin track p → IsAddressAt track p key → (IsTrue b ↔ IsFieldRegular track c h p key) → IsTrue b ↔ IsPlaceRegular track c h p
  place_by_field p key b plain here regular = (
    λ t. record {
      plain = λ mark. plain;
      field = λ other field. subst (IsFieldRegular track c h p) (one_key track p key other here field) (regular.0 t);
    },
    λ place. regular.1 (place.field key here),
  )

  pub place_without : (p : ℕ) → HasNoRunWithin track p → ((key : Chrn) → IsAddressAt track p key → ⊥) → IsPlaceRegular track c h p
  place_without p plain none = record { plain = λ mark. plain; field = λ key field. absurd (none key field) }
