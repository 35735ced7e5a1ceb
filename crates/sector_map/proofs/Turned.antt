-- A hunt over a revolution, word by word.
use Rattle.std.proofs.Common.{◌≡◌, ℕ, ◌+◌, ◌*◌, ◌<◌, ◌≤◌, Bool, true, false, MatchBool, List, length, take, get_or, sym, ap, subst, ◌∙◌, arith, inl, inr}
use Rattle.sector_map.proofs.Common.{Chrn, IsAddressMark, IsAddressAt, HasAddressMark, IsFirstAddress, Separator, IsPlain, cases_lt, take_more, length-take-le, Seen, Mark, Address, with_word, turn_after, EndsInLast, IsPart, SHunts, SFollows, SAddressed, Stands, SHuntSeen, GivesAll, SBegins, mark_stays, mark_stood, address_stays, address_stood, no_run_stood, first_words, runs_apart, IsPassed}

-- this many words were fed, and no address field of the key has ended in them
pub record IsHuntingFor (words : List ℕ) (key : Chrn) (separator : Separator) (i : ℕ) (has_mark : Bool) : Type 0 where
  pub follows : i < length words → SFollows separator (take i words)
  pub none : (p : ℕ) → p + 160 ≤ 16 * i → IsAddressAt words p key → ⊥
  pub mark : MatchBool has_mark (HasAddressMark words) ((p : ℕ) → p + 64 ≤ 16 * i → IsAddressMark words p → ⊥)

module _ (words : List ℕ) (key : Chrn) (old new : Separator) (i : ℕ) (had_mark index : Bool) (word : ℕ) (seen : Seen) (inside : i < length words) (word_is : word ≡ get_or words i 0) (was : IsHuntingFor words key old i had_mark) (plain : IsPlain words) (gives : (fed : List ℕ) → SFollows old fed → GivesAll (with_word fed word) seen) where
  before : SFollows old (take i words)
  before = was.follows inside

  now_is : with_word (take i words) word ≡ take (i + 1) words
  now_is = ap (with_word (take i words)) word_is ∙ sym (take_more words i 0 inside)

  size : length (take (i + 1) words) ≡ i + 1
  size = length-take-le (i + 1) words (omega arith)

  part : IsPart (take (i + 1) words) words
  part = first_words (i + 1) words (omega arith)

  all_given : GivesAll (take (i + 1) words) seen
  all_given = subst (λ fed. GivesAll fed seen) now_is (gives (take i words) before)

  -- if an address field of the key ends in this word, it is the event that the separator reports
  address_given : (p : ℕ) → 16 * i < p + 160 → p + 160 ≤ 16 * (i + 1) → IsAddressAt words p key → seen ≡ Address key
  address_given p low high address =
      let count = size in
      all_given.address p key (record { inside = omega arith; last = omega arith })
      (address_stood (take (i + 1) words) words part p key (omega arith) address)
      (no_run_stood (take (i + 1) words) words part p (plain p address.mark))

  mark_given : (p : ℕ) → 16 * i < p + 64 → p + 64 ≤ 16 * (i + 1) → IsAddressMark words p → seen ≡ Mark
  mark_given p low high mark =
      let count = size in
      all_given.mark p (record { inside = omega arith; last = omega arith }) (mark_stood (take (i + 1) words) words part p (omega arith) mark)

  none_more : (seen ≡ Address key → ⊥) → (p : ℕ) → p + 160 ≤ 16 * (i + 1) → IsAddressAt words p key → ⊥
  none_more other p high address =
      elim (cases_lt (16 * i) (p + 160)) [
        | inl low ↦ other (address_given p low high address)
        | inr low ↦ was.none p low address
      ]

  module _ (goes_on : i + 1 < length words → index ≡ false) (follows : (fed : List ℕ) → SFollows old fed → SFollows new (turn_after index fed word)) where
    follows_more : i + 1 < length words → SFollows new (take (i + 1) words)
    follows_more h =
        subst (SFollows new) now_is (subst (λ b. SFollows new (turn_after b (take i words) word)) (goes_on h) (follows (take i words) before))

    pub hunting_on : (has_mark : Bool) → has_mark ≡ had_mark → (seen ≡ Mark → ⊥) → (seen ≡ Address key → ⊥) → IsHuntingFor words key new (i + 1) has_mark
    hunting_on has_mark same no_mark other = record {
      follows = follows_more;
      none = none_more other;
      mark = subst (λ m. MatchBool m (HasAddressMark words) ((p : ℕ) → p + 64 ≤ 16 * (i + 1) → IsAddressMark words p → ⊥)) (sym same) (by_cases had_mark was.mark);
    }
      where
        by_cases : (m : Bool) → MatchBool m (HasAddressMark words) ((p : ℕ) → p + 64 ≤ 16 * i → IsAddressMark words p → ⊥) → MatchBool m (HasAddressMark words) ((p : ℕ) → p + 64 ≤ 16 * (i + 1) → IsAddressMark words p → ⊥)
        by_cases true h = h
        by_cases false h = λ p high mark.
            elim (cases_lt (16 * i) (p + 64)) [
              | inl low ↦ no_mark (mark_given p low high mark)
              | inr low ↦ h p low mark
            ]

    pub hunting_marked : (has_mark : Bool) → has_mark ≡ true → seen ≡ Mark → ((fed : List ℕ) → SHunts old fed → Stands (with_word fed word) seen) → IsHuntingFor words key new (i + 1) has_mark
    hunting_marked has_mark is told stands =
        let here : Stands (with_word (take i words) word) Mark = subst (Stands (with_word (take i words) word)) told (stands (take i words) before.hunts) in
        let mark : IsAddressMark (take (i + 1) words) here.0 = subst (λ fed. IsAddressMark fed here.0) now_is here.2 in
        record {
          follows = follows_more;
          none = none_more (λ e. absurd (let f : Mark ≡ Address key = sym told ∙ e in cc));
          mark = subst (λ m. MatchBool m (HasAddressMark words) ((p : ℕ) → p + 64 ≤ 16 * (i + 1) → IsAddressMark words p → ⊥)) (sym is) (here.0, mark_stays (take (i + 1) words) words part here.0 mark);
        }

  -- this address field is the first one of the key
  first_of : (p : ℕ) → EndsInLast (take (i + 1) words) (p + 160) → IsAddressAt (take (i + 1) words) p key → IsFirstAddress words key p
  first_of p ends address =
      let count = size in
      let high = ends.inside in
      let low = ends.last in
      let whole = address_stays (take (i + 1) words) words part p key address in
      record {
        address = whole;
        none_before = λ k less other.
            elim (cases_lt (16 * i) (k + 160)) [
              | inl late ↦ runs_apart words k p other.mark.run whole.mark.run less (omega arith)
              | inr early ↦ was.none k early other
            ];
      }

  pub hunt_passed : (goes_on : i + 1 < length words → index ≡ false) → (ends : i + 1 ≡ length words → index ≡ true) → seen ≡ Address key → ((fed : List ℕ) → SHunts old fed → Stands (with_word fed word) seen) → ((fed : List ℕ) → SHunts old fed → index ≡ false → SHuntSeen (with_word fed word) new seen) → (index ≡ true → SBegins new) → (p : ℕ) × IsPassed words key new (i + 1) p
  hunt_passed goes_on ends told stands addressed begins =
      elim (cases_lt (i + 1) (length words)) [
        | inl within ↦
            let here : SHuntSeen (with_word (take i words) word) new (Address key) = subst (SHuntSeen (with_word (take i words) word) new) told (addressed (take i words) before.hunts (goes_on within)) in
            let p = here.0 in
            let last : EndsInLast (take (i + 1) words) (p + 160) = subst (λ fed. EndsInLast fed (p + 160)) now_is here.1 in (
              p,
              record {
                first = first_of p last (subst (λ fed. IsAddressAt fed p key) now_is here.2);
                ends = last;
                inside = λ h. subst (λ fed. SAddressed new fed p) now_is here.3;
                late = λ e. absurd (omega arith);
              },
            )
        | inr over ↦
            let here : Stands (with_word (take i words) word) (Address key) = subst (Stands (with_word (take i words) word)) told (stands (take i words) before.hunts) in
            let p = here.0 in
            let last : EndsInLast (take (i + 1) words) (p + 160) = subst (λ fed. EndsInLast fed (p + 160)) now_is here.1 in (
              p,
              record {
                first = first_of p last (subst (λ fed. IsAddressAt fed p key) now_is here.2);
                ends = last;
                inside = λ h. absurd (omega arith);
                late = λ e. begins (ends e);
              },
            )
      ]

pub same_address : (a b : Chrn) → Address a ≡ Address b → a ≡ b
same_address a b e = cc

pub no_address_mark : (a : Chrn) → Address a ≡ Mark → ⊥
no_address_mark a e = cc
