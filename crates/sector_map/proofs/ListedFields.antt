-- The list of address fields, extended by one place.
use Rattle.std.proofs.Common.{◌≡◌, ℕ, ◌+◌, ◌<◌, List, [], ◌∷◌, ◌++◌, All, Contains, subst, sym, ap, ◌∙◌, arith, inl, inr}
use Rattle.sector_map.proofs.Common.{AllPairs, cases_lt, Chrn, Field, IsAddressAt, one_key}
use Rattle.std.proofs.lemmas.List.Elements.{All-push, Contains-push, Contains-append_left}
use Rattle.std.proofs.lemmas.List.Quantifiers.{all_pairs_push}

-- the list has exactly the address fields that begin below a place
pub record AreAddressesBelow (track : List ℕ) (limit : ℕ) (fields : List Field) : Type 0 where
  pub each : All (λ field. IsAddressAt track field.place field.key) fields
  pub below : All (λ field. field.place < limit) fields
  pub ordered : AllPairs (λ a b. a.place < b.place) fields
  pub all : (field : Field) → field.place < limit → IsAddressAt track field.place field.key → Contains fields field

abbrev pub field_of : ℕ → Chrn → Field
field_of place key = record { place = place; key = key }

module _ (track : List ℕ) (p : ℕ) (fields : List Field) (so_far : AreAddressesBelow track p fields) where
  -- no field begins here
  pub skipped : ((key : Chrn) → IsAddressAt track p key → ⊥) → AreAddressesBelow track (p + 1) fields
  skipped none = record {
    each = so_far.each;
    below = λ k d h. omega (arith, so_far.below k d h);
    ordered = so_far.ordered;
    all = λ field h address.
        elim (cases_lt field.place p) [
          | inl lower ↦ so_far.all field lower address
          | inr upper ↦
              let here : field.place ≡ p = omega arith in
              absurd (none field.key (subst (λ k. IsAddressAt track k field.key) here address))
        ];
  }

  -- the field that begins here is the last
  pub listed : (key : Chrn) → IsAddressAt track p key → AreAddressesBelow track (p + 1) (fields ++ field_of p key ∷ [])
  listed key here = record {
    each = All-push (λ field. IsAddressAt track field.place field.key) fields (field_of p key) so_far.each here;
    below = All-push (λ field. field.place < p + 1) fields (field_of p key) (λ k d h. omega (arith, so_far.below k d h)) (omega arith);
    ordered = all_pairs_push (λ a b. a.place < b.place) fields (field_of p key) so_far.ordered (λ k d h. so_far.below k d h);
    all = λ field h address.
        elim (cases_lt field.place p) [
          | inl lower ↦ Contains-append_left fields (field_of p key ∷ []) field (so_far.all field lower address)
          | inr upper ↦
              let same : p ≡ field.place = omega arith in
              let found = one_key track p key field.key here (subst (λ k. IsAddressAt track k field.key) (sym same) address) in
              subst (Contains (fields ++ field_of p key ∷ [])) (ap (λ k. field_of k key) same ∙ ap (field_of field.place) found) (Contains-push fields (field_of p key))
        ];
  }
