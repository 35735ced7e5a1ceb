-- A track has only one list of sectors if one of its lists has whole sectors alone: any other list of the track is the
-- same.
use Rattle.std.proofs.Common.{◌≡◌, ◌+◌, ◌<◌, ◌≤◌, ◌∷◌, [], ℕ, zero, suc, false, true, List, length, get_or, refl, sym, ap, ◌∙◌, subst, arith}
use Rattle.std.specs.Prelude.{⊤}
use Rattle.flat_files.proofs.Common.{Chrn, IsAddressAt, content_at, one_key, one_look_at, HasSectors, IsFoundAs, Absent, Good, Deleted, ImdSector}
use Rattle.track_model.specs.declared.Look.TheVariants.{Found, NoData, BadCrc}
use Rattle.imagedisk.specs.declared.sector.ImdKind.{ImdKind}

-- all these sectors have whole data
abbrev pub AreGood : List ImdSector → Type 0
AreGood [] = ⊤
AreGood (sector ∷ sectors) = (sector.kind ≡ Good) × AreGood sectors

-- ---- one sector

one_content : (track : List ℕ) (p n : ℕ) (kind : ImdKind) (content other : List ℕ) → IsFoundAs track p n Good content → IsFoundAs track p n kind other
    → (kind ≡ Good) × (other ≡ content)
one_content track p n Absent content other good is = let same = one_look_at track p n (Found false good.0) NoData good.1 is in absurd cc
one_content track p n Good content other good is =
    let same = one_look_at track p n (Found false good.0) (Found false is.0) good.1 is.1 in
    let place : good.0 ≡ is.0 = cc in
    (refl, is.2 ∙ ap (λ (k : ℕ). content_at track k n) (sym place) ∙ sym good.2)
one_content track p n Deleted content other good is = let same = one_look_at track p n (Found false good.0) (Found true is.0) good.1 is.1 in absurd cc
one_content track p n _ content other good is = let same = one_look_at track p n (Found false good.0) BadCrc good.1 is in absurd cc

abbrev made : Chrn → ImdKind → List ℕ → ImdSector
made key kind content = record { key = key; kind = kind; content = content }

one_sector : (track : List ℕ) (p q : ℕ) (a b : ImdSector) → p ≡ q → a.kind ≡ Good → IsAddressAt track p a.key → IsFoundAs track p a.key.n a.kind a.content
    → IsAddressAt track q b.key → IsFoundAs track q b.key.n b.kind b.content → a ≡ b
one_sector track p q a b same good here found there is =
    let key : a.key ≡ b.key = one_key track p a.key b.key here (subst (λ (k : ℕ). IsAddressAt track k b.key) (sym same) there) in
    let other : IsFoundAs track p a.key.n b.kind b.content =
    subst (λ (k : Chrn). IsFoundAs track p k.n b.kind b.content) (sym key) (subst (λ (k : ℕ). IsFoundAs track k b.key.n b.kind b.content) (sym same) is) in
    let data_are = one_content track p a.key.n b.kind a.content b.content (subst (λ (k : ImdKind). IsFoundAs track p a.key.n k a.content) good found) other in
    ap (λ k. made k a.kind a.content) key ∙ ap (λ k. made b.key k a.content) (good ∙ sym data_are.0) ∙ ap (λ k. made b.key b.kind k) (sym data_are.1)

-- ---- the sectors from a place on

record HasOn (track : List ℕ) (low : ℕ) (sectors : List ImdSector) : Type 0 where
  place : ℕ → ℕ
  from : (i : ℕ) → i < length sectors → low ≤ place i
  ordered : (i j : ℕ) → i < j → j < length sectors → place i < place j
  address : (i : ℕ) (d : ImdSector) → i < length sectors → IsAddressAt track (place i) (get_or sectors i d).key
  data_are : (i : ℕ) (d : ImdSector) → i < length sectors → IsFoundAs track (place i) (get_or sectors i d).key.n (get_or sectors i d).kind (get_or sectors i d).content
  only : (p : ℕ) (key : Chrn) → low ≤ p → IsAddressAt track p key → (i : ℕ) × (i < length sectors) × (p ≡ place i)

behind : (track : List ℕ) (low : ℕ) (sector : ImdSector) (sectors : List ImdSector) (on : HasOn track low (sector ∷ sectors)) → HasOn track (on.place 0 + 1) sectors
behind track low sector sectors on = record {
  place = λ i. on.place (suc i);
  from = λ i lt. let later = on.ordered 0 (suc i) (omega arith) (omega arith) in omega (arith, later);
  ordered = λ i j lt within. on.ordered (suc i) (suc j) (omega arith) (omega arith);
  address = λ i d lt. on.address (suc i) d (omega arith);
  data_are = λ i d lt. on.data_are (suc i) d (omega arith);
  only = λ p key from at. next p (let first = on.from 0 (omega arith) in on.only p key (omega (arith, from, first)) at) from;
}
  where
    next : (p : ℕ) → (i : ℕ) × (i < suc (length sectors)) × (p ≡ on.place i) → on.place 0 + 1 ≤ p → (i : ℕ) × (i < length sectors) × (p ≡ on.place (suc i))
    next p found from =
        elim found.0 as (λ i. i < suc (length sectors) → p ≡ on.place i → (i : ℕ) × (i < length sectors) × (p ≡ on.place (suc i))) [
          | zero ↦ (λ lt e. absurd (omega arith))
          | suc i ↦ (λ lt e. (i, omega arith, e))
        ] found.1 found.2

-- no address field comes before that of the first sector
least : (track : List ℕ) (low : ℕ) (sector : ImdSector) (sectors : List ImdSector) (on : HasOn track low (sector ∷ sectors)) (p : ℕ) (key : Chrn)
    → low ≤ p → IsAddressAt track p key → on.place 0 ≤ p
least track low sector sectors on p key from at =
    let found = on.only p key from at in
    by found.0 found.1 found.2
  where
    by : (i : ℕ) → i < suc (length sectors) → p ≡ on.place i → on.place 0 ≤ p
    by zero lt e = omega (arith, e)
    by (suc i) lt e = let later = on.ordered 0 (suc i) (omega arith) lt in omega (arith, later, e)

same_on : (track : List ℕ) (low : ℕ) (one two : List ImdSector) → HasOn track low one → HasOn track low two → AreGood one → one ≡ two
same_on track low [] [] on other good = refl
same_on track low [] (b ∷ bs) on other good =
    let found = on.only (other.place 0) b.key (other.from 0 (omega arith)) (other.address 0 b (omega arith)) in
    let within = found.1 in absurd (omega (arith, within))
same_on track low (a ∷ rest) [] on other good =
    let found = other.only (on.place 0) a.key (on.from 0 (omega arith)) (on.address 0 a (omega arith)) in
    let within = found.1 in absurd (omega (arith, within))
same_on track low (a ∷ rest) (b ∷ bs) on other good =
    let before = least track low a rest on (other.place 0) b.key (other.from 0 (omega arith)) (other.address 0 b (omega arith)) in
    let behind_it = least track low b bs other (on.place 0) a.key (on.from 0 (omega arith)) (on.address 0 a (omega arith)) in
    let place : on.place 0 ≡ other.place 0 = omega (arith, before, behind_it) in
    let first : a ≡ b = one_sector track (on.place 0) (other.place 0) a b place good.0 (on.address 0 a (omega arith)) (on.data_are 0 a (omega arith))
    (other.address 0 b (omega arith)) (other.data_are 0 b (omega arith)) in
    let others : rest ≡ bs = same_on track (on.place 0 + 1) rest bs (behind track low a rest on)
    (subst (λ (k : ℕ). HasOn track (k + 1) bs) (sym place) (behind track low b bs other)) good.1 in
    ap (λ x. x ∷ rest) first ∙ ap (λ xs. b ∷ xs) others

on_all : (track : List ℕ) (sectors : List ImdSector) → HasSectors track sectors → HasOn track 0 sectors
on_all track sectors has = record {
  place = has.place;
  from = λ i lt. omega arith;
  ordered = has.ordered;
  address = has.address;
  data_are = has.data_are;
  only = λ p key from at. has.only p key at;
}

pub same_sectors : (track : List ℕ) (one two : List ImdSector) → HasSectors track one → HasSectors track two → AreGood one → one ≡ two
same_sectors track one two has other good = same_on track 0 one two (on_all track one has) (on_all track two other) good
