-- Torn tracks: each write leaves an Aligned track, with the same address fields.
use Rattle.std.proofs.Common.{◌≡◌, ◌≢◌, ◌↔◌, ℕ, ◌≤◌, cond, eqb, List, [], ◌∷◌, ◌++◌, length, sym, ap, subst, ◌∙◌, ◌⊎◌, refl, arith, inl, inr}
use Rattle.track_model.proofs.Common.{cases_eq, eq-eqb, ne_eqb, cond-true, cond-false, Chrn, IsAddressAt, window, IsRegular, FieldWrite, with_window, ComesBy}
use Rattle.track_model.specs.Torn.{TornWrite, words_of, stops_after, stops_of, with_torn, IsOver, ComesTorn, IsTorn}
use Rattle.track_model.proofs.Seams.{IsAligned, unstopped}
use Rattle.track_model.proofs.Aligned.{room, cut_keeps, cut_aligned, whole_aligned}

module _ (stops : ℕ → ℕ) (write : TornWrite) where
  stops_own : stops_after stops write write.place ≡ (cond (eqb write.count (length (words_of write))) 0 write.count)
  stops_own =
      cond-true (eqb write.place write.place) (cond (eqb write.count (length (words_of write))) 0 write.count) (stops write.place) (eq-eqb write.place write.place refl)

  stops_whole : write.count ≡ length (words_of write) → stops_after stops write write.place ≡ 0
  stops_whole all = stops_own ∙ cond-true (eqb write.count (length (words_of write))) 0 write.count (eq-eqb write.count (length (words_of write)) all)

  stops_short : write.count ≢ length (words_of write) → stops_after stops write write.place ≡ write.count
  stops_short less = stops_own ∙ cond-false (eqb write.count (length (words_of write))) 0 write.count (ne_eqb write.count (length (words_of write)) less)

  stops_there : (stops_after stops write write.place ≡ write.count) ⊎ ((write.count ≡ length (words_of write)) × (stops_after stops write write.place ≡ 0))
  stops_there =
      elim (cases_eq write.count (length (words_of write))) [
        | inl all ↦ inr (all, stops_whole all)
        | inr less ↦ inl (stops_short less)
      ]

  stops_elsewhere : (q : ℕ) → q ≢ write.place → stops_after stops write q ≡ stops q
  stops_elsewhere q other = cond-false (eqb q write.place) _ (stops q) (ne_eqb q write.place other)

  module _ (track : List ℕ) (aligned : IsAligned stops track) (is : IsOver stops track write) where
    abbrev left : List ℕ
    left = with_torn track write

    write_aligned : IsAligned (stops_after stops write) left
    write_aligned =
        cut_aligned stops track write.place is.field.0 write.deleted write.content aligned is.field.1 write.count is.cuttable.most is.over (stops_after stops write) stops_elsewhere
        stops_there

    write_addresses : (q : ℕ) (key : Chrn) → IsAddressAt track q key ↔ IsAddressAt left q key
    write_addresses =
        (cut_keeps stops track write.place is.field.0 write.deleted write.content aligned is.field.1 write.count is.cuttable.most).addresses

    write_regular : (c h : ℕ) → IsRegular track c h → IsRegular left c h
    write_regular =
        (cut_keeps stops track write.place is.field.0 write.deleted write.content aligned is.field.1 write.count is.cuttable.most).regular

-- what comes from an Aligned track by such writes is Aligned
pub torn_aligned : (stops : ℕ → ℕ) (track : List ℕ) (writes : List TornWrite) (after : List ℕ) → IsAligned stops track
    → ComesTorn stops track writes after → (later : ℕ → ℕ) × IsAligned later after
torn_aligned stops track [] after aligned same = (stops, subst (IsAligned stops) (sym same) aligned)
torn_aligned stops track (write ∷ writes) after aligned (is, rest) =
    torn_aligned (stops_after stops write) (with_torn track write) writes after (write_aligned stops write track aligned is) rest

-- it has the same address fields
pub torn_addresses : (stops : ℕ → ℕ) (track : List ℕ) (writes : List TornWrite) (after : List ℕ) → IsAligned stops track
    → ComesTorn stops track writes after → (q : ℕ) (key : Chrn) → IsAddressAt track q key ↔ IsAddressAt after q key
torn_addresses stops track [] after aligned same q key =
    (λ a. subst (λ it. IsAddressAt it q key) (sym same) a, λ a. subst (λ it. IsAddressAt it q key) same a)
torn_addresses stops track (write ∷ writes) after aligned (is, rest) q key =
    let here = write_addresses stops write track aligned is q key in
    let more = torn_addresses (stops_after stops write) (with_torn track write) writes after (write_aligned stops write track aligned is) rest q key in
    (λ a. more.0 (here.0 a), λ a. here.1 (more.1 a))

-- and it is regular if the track is
pub torn_regular : (stops : ℕ → ℕ) (track : List ℕ) (writes : List TornWrite) (after : List ℕ) (c h : ℕ) → IsAligned stops track
    → ComesTorn stops track writes after → IsRegular track c h → IsRegular after c h
torn_regular stops track [] after c h aligned same regular = subst (λ it. IsRegular it c h) (sym same) regular
torn_regular stops track (write ∷ writes) after c h aligned (is, rest) regular =
    torn_regular (stops_after stops write) (with_torn track write) writes after c h (write_aligned stops write track aligned is) rest
    (write_regular stops write track aligned is c h regular)

-- one more write after the others
pub torn_more : (stops : ℕ → ℕ) (track : List ℕ) (writes : List TornWrite) (after : List ℕ) (write : TornWrite)
    → ComesTorn stops track writes after → IsOver (stops_of stops writes) after write → ComesTorn stops track (writes ++ write ∷ []) (with_torn after write)
torn_more stops track [] after write same over =
    subst (λ it. IsOver stops it write × (with_torn after write ≡ with_torn it write)) same (over, refl)
torn_more stops track (first ∷ writes) after write (is, rest) over =
    (is, torn_more (stops_after stops first) (with_torn track first) writes after write rest over)

-- a Torn track with such a write is Torn
pub write_torn : (track : List ℕ) (torn : IsTorn track) (write : TornWrite) → IsOver (stops_of (λ p. 0) torn.writes) track write → IsTorn (with_torn track write)
write_torn track torn write over = record {
  formatted = torn.formatted;
  lay = torn.lay;
  writes = torn.writes ++ write ∷ [];
  written = torn_more (λ p. 0) torn.formatted torn.writes track write torn.written over;
}

-- ---- whole windows are such writes

abbrev whole_write : FieldWrite → TornWrite
whole_write write =
    record { place = write.place; deleted = write.deleted; content = write.content; count = length (window write.deleted write.content) }

abbrev pub whole_writes : List FieldWrite → List TornWrite
whole_writes [] = []
whole_writes (write ∷ rest) = whole_write write ∷ whole_writes rest

pub whole_torn : (stops : ℕ → ℕ) (track : List ℕ) (writes : List FieldWrite) (after : List ℕ)
    → ((q : ℕ) → stops q ≡ 0) → IsAligned unstopped track → ComesBy track writes after → ComesTorn stops track (whole_writes writes) after
whole_torn stops track [] after none aligned same = same
whole_torn stops track (write ∷ writes) after none aligned (field, rest) =
    let whole = whole_write write in
    let length_all : length (words_of whole) ≤ length (words_of whole) = omega arith in
    let still : (q : ℕ) → stops_after stops whole q ≡ 0 = λ q. elim (cases_eq q write.place) [
      | inl e ↦ ap (stops_after stops whole) e ∙ stops_whole stops whole refl
      | inr other ↦ stops_elsewhere stops whole q other ∙ none q
    ] in (
      record {
        field = field;
        cuttable = record {
          most = length_all;
          inside = room unstopped track write.place field.0 write.deleted write.content aligned field.1;
        };
        over = (let start = none write.place in omega (arith, start));
      },
      whole_torn (stops_after stops whole) (with_window track write.place write.deleted write.content) writes after still
          (whole_aligned track write.place field.0 write.deleted write.content aligned field.1)
          rest,
    )
