-- A word heard by a search.
use Rattle.std.proofs.Common.{◌≡◌, ◌⊎◌, ℕ, ◌+◌, Bool, true, false, MatchBool, Option, List, [], ◌∷◌, refl, sym, ap, subst, arith, inl, inr}
use Rattle.fdc_stages.proofs.Common.{false≢true, Chrn, IsAddressMark, Seen, Nothing, Mark, Address, Separator, with_word, turn_after, EndsInLast, SBegins, IsHunted, part_with_word, mark_stays, no_run_stood, mark_old_or_new, address_old_or_new, follows_hunts, Past, heard, Wants, HasNoClear, HasNoneIn, HasMarkIn, HasTurned, IsSearchingIn, IsPassed, IsMet, HasMissed}
use Rattle.track_model.specs.Looks.{HasAddressMark}
use Rattle.track_separator.specs.Hunts.{SHunts, SFollows, SHuntSeen, GivesAll, Stands}
use Rattle.track_separator.specs.Past.{HuntsPast}
use Rattle.fdc_stages.proofs.Lawful.{turned_few}
use Rattle.fdc_stages.specs.Searches.{HearsNothingIn}

-- ---- right after a revolution is over, nothing was heard of the next one

mark_over : (turns : List (List ℕ)) (words : List ℕ) → HasMarkIn turns words → HasMarkIn (words ∷ turns) []
mark_over turns words (turn, among, mark) = (turn, inr among, mark)

no_mark_yet : HasAddressMark [] → ⊥
no_mark_yet (p, mark) = let inside = mark.sound.inside in absurd (omega arith)

mark_before : (turns : List (List ℕ)) (words : List ℕ) → HasMarkIn (words ∷ turns) [] → HasMarkIn turns words
mark_before turns words (turn, inl e, mark) = absurd (no_mark_yet (subst HasAddressMark e mark))
mark_before turns words (turn, inr among, mark) = (turn, among, mark)

marks_over : (marked : Bool) (turns : List (List ℕ)) (words : List ℕ) → MatchBool marked (HasMarkIn turns words) (HasMarkIn turns words → ⊥) → MatchBool marked (HasMarkIn (words ∷ turns) []) (HasMarkIn (words ∷ turns) [] → ⊥)
marks_over true turns words marks = mark_over turns words marks
marks_over false turns words marks = λ h. marks (mark_before turns words h)

none_yet : (wanted : Option Chrn) → HasNoClear wanted []
none_yet wanted p key wants address clear = let inside = address.sound.inside in absurd (omega arith)

none_over : (wanted : Option Chrn) (turns : List (List ℕ)) (words : List ℕ) → HasNoneIn wanted turns words → HasNoneIn wanted (words ∷ turns) []
none_over wanted turns words none turn (inl e) = subst (HasNoClear wanted) (sym e) (none_yet wanted)
none_over wanted turns words none turn (inr among) = none turn among

-- the search goes on inside the revolution
pub on_within : (index : Bool) (past : Past) (word : ℕ) (wanted : Option Chrn) (separator : Separator) (turned marked : Bool) → index ≡ false → IsPassed index past word wanted separator turned marked → IsSearchingIn (heard index word past).turns (heard index word past).seen wanted separator turned marked
on_within false past word wanted separator turned marked is passed = record { follows = passed.follows; none = passed.none; marks = passed.marks; indexes = passed.indexes }
on_within true past word wanted separator turned marked is passed = absurd (false≢true (sym is))

-- the first index pulse came
first_over : (past : Past) (word : ℕ) (turned : Bool) → turned ≡ false → HasTurned turned past.turns → HasTurned true (heard true word past).turns
first_over past word false is indexes = (with_word past.seen word, ap (λ turns. with_word past.seen word ∷ turns) indexes)
first_over past word true is indexes = absurd (false≢true (sym is))

pub on_over : (index : Bool) (past : Past) (word : ℕ) (wanted : Option Chrn) (separator : Separator) (turned marked : Bool) → index ≡ true → turned ≡ false → IsPassed index past word wanted separator turned marked → IsSearchingIn (heard index word past).turns (heard index word past).seen wanted separator true marked
on_over true past word wanted separator turned marked is not passed = record {
  follows = passed.follows;
  none = none_over wanted past.turns (with_word past.seen word) passed.none;
  marks = marks_over marked past.turns (with_word past.seen word) passed.marks;
  indexes = first_over past word turned not passed.indexes;
}
on_over false past word wanted separator turned marked is not passed = absurd (false≢true is)

-- the second index pulse came
second_over : (past : Past) (turned : Bool) → turned ≡ true → HasTurned turned past.turns → (first : List ℕ) × (past.turns ≡ first ∷ [])
second_over past true is indexes = indexes
second_over past false is indexes = absurd (false≢true is)

pub missed_over : (index : Bool) (past : Past) (word : ℕ) (wanted : Option Chrn) (separator : Separator) (turned marked : Bool) → index ≡ true → turned ≡ true → IsPassed index past word wanted separator turned marked → HasMissed (heard index word past) wanted × MatchBool marked (HasMarkIn (heard index word past).turns (heard index word past).seen) (HasMarkIn (heard index word past).turns (heard index word past).seen → ⊥)
missed_over true past word wanted separator turned marked is was passed =
    let first = second_over past turned was passed.indexes in (
      record {
        between = with_word past.seen word;
        is = record { first = first.0; turns = ap (λ turns. with_word past.seen word ∷ turns) first.1; nothing = refl };
        none = none_over wanted past.turns (with_word past.seen word) passed.none;
      },
      marks_over marked past.turns (with_word past.seen word) passed.marks,
    )
missed_over false past word wanted separator turned marked is was passed = absurd (false≢true is)

-- ---- a word in which nothing was met

module _ (index : Bool) (past : Past) (word : ℕ) (wanted : Option Chrn) (old new : Separator) (turned marked : Bool) (event : Seen) (searching : IsSearchingIn past.turns past.seen wanted old turned marked) where
  none_passed : ((fed : List ℕ) → SFollows old fed → GivesAll (with_word fed word) event) → ((key : Chrn) → event ≡ Address key → Wants wanted key → ⊥) → HasNoneIn wanted past.turns (with_word past.seen word)
  none_passed gives other turn (inr among) = searching.none turn (inr among)
  none_passed gives other turn (inl e) = subst (HasNoClear wanted) (sym e) clear
    where
      clear : HasNoClear wanted (with_word past.seen word)
      clear p key wants address none =
          elim (address_old_or_new past.seen word p key address) [
            | inl early ↦ searching.none past.seen (inl refl) p key wants early (no_run_stood past.seen (with_word past.seen word) (part_with_word past.seen word) p none)
            | inr late ↦ other key ((gives past.seen searching.follows).address p key late address none) wants
          ]

  mark_heard : HasMarkIn past.turns past.seen → HasMarkIn past.turns (with_word past.seen word)
  mark_heard (turn, inr among, mark) = (turn, inr among, mark)
  mark_heard (turn, inl e, mark) =
      let stood : HasAddressMark past.seen = subst HasAddressMark e mark in
      (with_word past.seen word, inl refl, (stood.0, mark_stays past.seen (with_word past.seen word) (part_with_word past.seen word) stood.0 stood.1))

  -- an address mark is one of the words before, or one that ends in the last word
  mark_of : HasMarkIn past.turns (with_word past.seen word) → HasMarkIn past.turns past.seen ⊎ ((p : ℕ) × EndsInLast (with_word past.seen word) (p + 64) × IsAddressMark (with_word past.seen word) p)
  mark_of (turn, inr among, mark) = inl (turn, inr among, mark)
  mark_of (turn, inl e, mark) =
      let stands : HasAddressMark (with_word past.seen word) = subst HasAddressMark e mark in
      elim (mark_old_or_new past.seen word stands.0 stands.1) [
        | inl early ↦ inl (past.seen, inl refl, (stands.0, early))
        | inr late ↦ inr (stands.0, late, stands.1)
      ]

  was_marked : marked ≡ true → HasMarkIn past.turns past.seen
  was_marked e = subst (λ b. MatchBool b (HasMarkIn past.turns past.seen) (HasMarkIn past.turns past.seen → ⊥)) e searching.marks

  was_not_marked : marked ≡ false → HasMarkIn past.turns past.seen → ⊥
  was_not_marked e = subst (λ b. MatchBool b (HasMarkIn past.turns past.seen) (HasMarkIn past.turns past.seen → ⊥)) e searching.marks

  new_mark : event ≡ Mark → ((fed : List ℕ) → SHunts old fed → Stands (with_word fed word) event) → HasMarkIn past.turns (with_word past.seen word)
  new_mark e stands =
      let stood : Stands (with_word past.seen word) Mark = subst (Stands (with_word past.seen word)) e (stands past.seen (follows_hunts old past.seen searching.follows)) in
      (with_word past.seen word, inl refl, (stood.0, stood.2))

  marks_passed : (now_marked : Bool) → ((fed : List ℕ) → SFollows old fed → GivesAll (with_word fed word) event) → ((fed : List ℕ) → SHunts old fed → Stands (with_word fed word) event) → MatchBool now_marked ((marked ≡ true) ⊎ (event ≡ Mark)) ((marked ≡ false) × (event ≡ Mark → ⊥)) → MatchBool now_marked (HasMarkIn past.turns (with_word past.seen word)) (HasMarkIn past.turns (with_word past.seen word) → ⊥)
  marks_passed true gives stands tells = elim tells [ inl before ↦ mark_heard (was_marked before) | inr now ↦ new_mark now stands ]
  marks_passed false gives stands tells = λ heard_one.
      elim (mark_of heard_one) [
        | inl early ↦ was_not_marked tells.0 early
        | inr (p, late, mark) ↦ tells.1 ((gives past.seen searching.follows).mark p late mark)
      ]

pub passed_of : (index : Bool) (past : Past) (word : ℕ) (wanted : Option Chrn) (old new : Separator) (turned marked now_marked : Bool) (event : Seen) → IsSearchingIn past.turns past.seen wanted old turned marked → ((fed : List ℕ) → SFollows old fed → SFollows new (turn_after index fed word)) → ((fed : List ℕ) → SFollows old fed → GivesAll (with_word fed word) event) → ((fed : List ℕ) → SHunts old fed → Stands (with_word fed word) event) → ((key : Chrn) → event ≡ Address key → Wants wanted key → ⊥) → MatchBool now_marked ((marked ≡ true) ⊎ (event ≡ Mark)) ((marked ≡ false) × (event ≡ Mark → ⊥)) → IsPassed index past word wanted new turned now_marked
passed_of index past word wanted old new turned marked now_marked event searching follows gives stands other tells = record {
  follows = follows past.seen searching.follows;
  none = none_passed index past word wanted old new turned marked event searching gives other;
  marks = marks_passed index past word wanted old new turned marked event searching now_marked gives stands tells;
  indexes = searching.indexes;
}

-- ---- an address field that was met

pub met_of : (index : Bool) (past : Past) (word : ℕ) (wanted : Option Chrn) (old new : Separator) (turned marked : Bool) (event : Seen) (key : Chrn) → IsSearchingIn past.turns past.seen wanted old turned marked → ((fed : List ℕ) → SHunts old fed → Stands (with_word fed word) event) → ((fed : List ℕ) → SHunts old fed → index ≡ false → SHuntSeen (with_word fed word) new event) → (index ≡ true → SBegins new) → event ≡ Address key → IsMet index (heard index word past) key new
met_of false past word wanted old new turned marked event key searching stands address begins is =
    let met : SHuntSeen (with_word past.seen word) new (Address key) = subst (SHuntSeen (with_word past.seen word) new) is (address past.seen (follows_hunts old past.seen searching.follows) refl) in
    (met.0, record { address = met.2; ends = met.1; asks = met.3; few = turned_few turned past.turns searching.indexes })
met_of true past word wanted old new turned marked event key searching stands address begins is =
    let met : Stands (with_word past.seen word) (Address key) = subst (Stands (with_word past.seen word)) is (stands past.seen (follows_hunts old past.seen searching.follows)) in (
      with_word past.seen word,
      met.0,
      record {
        over = record { earlier = past.turns; last = refl; nothing = refl };
        address = met.2;
        ends = met.1;
        begins = begins refl;
      },
    )

-- ---- a word in which nothing is seen

stays_marked : (marked : Bool) → MatchBool marked ((marked ≡ true) ⊎ (Nothing ≡ Mark)) ((marked ≡ false) × (Nothing ≡ Mark → ⊥))
stays_marked true = inl refl
stays_marked false = (refl, λ is. absurd (cc is))

pub passes_by : (past : Past) (word : ℕ) (wanted : Option Chrn) (old new : Separator) (turned marked : Bool) → IsHunted old word new Nothing → IsSearchingIn past.turns past.seen wanted old turned marked
    → IsSearchingIn (heard false word past).turns (heard false word past).seen wanted new turned marked
passes_by past word wanted old new turned marked hunted searching =
    on_within false past word wanted new turned marked refl
    (passed_of false past word wanted old new turned marked marked Nothing searching hunted.follows hunted.gives (λ fed hunts. tt) (λ key is wants. absurd (cc is)) (stays_marked marked))

-- in words that pass by while the separator hunts, a search hears nothing
pub hears_past : (words : List ℕ) (turned marked : Bool) (old new : Separator) → HuntsPast words old new
    → HearsNothingIn words (record { separator = old; turned = turned; marked = marked }) (record { separator = new; turned = turned; marked = marked })
unfolding HuntsPast HearsNothingIn
hears_past [] turned marked old new same = ap (λ s. record { separator = s; turned = turned; marked = marked }) same
hears_past (word ∷ rest) turned marked old new (mid, first, past) = (
  record { separator = mid; turned = turned; marked = marked },
  λ so_far wanted searching. passes_by so_far word wanted old mid turned marked first searching,
  hears_past rest turned marked mid new past,
)
