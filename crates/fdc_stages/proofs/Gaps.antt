-- A word that a writing hears before its window.
use Rattle.std.proofs.Common.{◌≡◌, ℕ, zero, suc, ◌+◌, ◌-◌, ◌≤◌, Bool, true, false, Some, List, [], ◌∷◌, length, refl, sym, ap, subst, arith, inl, length-append}
use Rattle.fdc_stages.proofs.Common.{false≢true, Chrn, window_word, Separator, EndsInLast, with_word, part_with_word, address_stays, Ending, NoMark, NoSector, NoField, Past, heard, IsSearching, IsMet, IsMissed, opens, heard_where, IsWriting, HasWritten}
use Rattle.fdc_stages.specs.declared.searching.Search.{Search}
use Rattle.fdc_stages.specs.declared.writing.WriteStage.TheVariants as stage
use Rattle.fdc_stages.specs.declared.writing.WriteNext.{WriteNext}
use Rattle.fdc_stages.specs.Writings.{HasNext}

-- nothing was written, so all words that have passed since the index pulse are words heard
heard_place : (index : Bool) (word : ℕ) (past : Past) → past.place ≡ length past.seen + length past.words → past.words ≡ [] → (heard index word past).place ≡ length (heard index word past).seen + length past.words
heard_place true word past at none = omega (arith, ap length none)
heard_place false word past at none = omega (arith, length-append past.seen (word ∷ []))

pub heard_alone : (index : Bool) (word : ℕ) (past : Past) → past.place ≡ length past.seen + length past.words → past.words ≡ [] → (heard index word past).place ≡ length (heard index word past).seen
heard_alone index word past at none = omega (arith, heard_place index word past at none, ap length none)

-- ---- the search

-- nothing was handed in while the address field is searched for
pub search_none : (index : Bool) (word : ℕ) (past : Past) (key : Chrn) (deleted : Bool) (handed : List ℕ) (before : Search) (given : WriteNext) → (IsWriting past key deleted [] (stage.Search before) → HasNext (heard index word past) key deleted [] given) → IsWriting past key deleted handed (stage.Search before) → HasNext (heard index word past) key deleted handed given
search_none index word past key deleted handed before given hears (at, (searching, (unwritten, none))) =
    subst (λ bytes. HasNext (heard index word past) key deleted bytes given) (sym none) (hears (at, (searching, (unwritten, refl))))

pub search_on : (index : Bool) (word : ℕ) (past : Past) (key : Chrn) (deleted : Bool) (before after : Search) → IsWriting past key deleted [] (stage.Search before) → IsSearching (heard index word past) (Some key) after → IsWriting (heard index word past) key deleted [] (stage.Search after)
search_on index word past key deleted before after (at, (was, none)) searching = (heard_place index word past at none.0, (searching, none))

pub search_missed : (past : Past) (key : Chrn) (deleted : Bool) (ending : Ending) → past.words ≡ [] → IsMissed past (Some key) ending → HasWritten past key deleted [] ending
search_missed past key deleted NoMark none missed = record { begun = inl (none, refl); cause = (none, missed) }
search_missed past key deleted NoSector none missed = record { begun = inl (none, refl); cause = (none, missed) }
search_missed past key deleted _ none missed = absurd missed

-- ---- the address field has passed

-- between the word in which the address field ended and the window there are 22 words
met_place : (seen : List ℕ) (p : ℕ) → EndsInLast seen (p + 160) → length seen + 22 ≡ window_word p
met_place seen p ends = omega arith

pub met_over : (index : Bool) (past : Past) (key : Chrn) (deleted : Bool) (separator : Separator) → index ≡ true → past.words ≡ [] → IsMet index past key separator → HasWritten past key deleted [] NoField
met_over true past key deleted separator is none (turn, p, met) =
    let place = met_place turn p met.ends in
    record { begun = inl (none, refl); cause = inl (none, (turn, p, record { over = met.over; address = met.address; behind = omega arith })) }
met_over false past key deleted separator is none met = absurd (false≢true is)

pub met_within : (index : Bool) (past : Past) (key : Chrn) (deleted : Bool) (separator : Separator) → index ≡ false → past.place ≡ length past.seen → past.words ≡ [] → IsMet index past key separator → IsWriting past key deleted [] (stage.Gap 22)
met_within false past key deleted separator is at none (p, met) =
    (omega (arith, ap length none), ((p, record { address = met.address; place = met_place past.seen p met.ends }), (none, refl)))
met_within true past key deleted separator is at none met = absurd (false≢true (sym is))

-- ---- the words before the window

-- the index pulse came before the window
pub gap_over : (left : ℕ) (index : Bool) (word : ℕ) (past : Past) (key : Chrn) (deleted : Bool) (handed : List ℕ) → 1 ≤ left → index ≡ true → IsWriting past key deleted handed (stage.Gap left) → HasWritten (heard_where (opens (stage.Gap left)) index word past) key deleted handed NoField
gap_over zero index word past key deleted handed some is was = absurd (omega arith)
gap_over (suc left) false word past key deleted handed some is was = absurd (false≢true is)
gap_over (suc left) true word past key deleted handed some is (at, ((p, before), none)) =
    let turn = with_word past.seen word in
    record {
      begun = inl none;
      cause = inl (
        none.0,
        (
          turn,
          p,
          record {
            over = record { earlier = past.turns; last = refl; nothing = refl };
            address = address_stays past.seen turn (part_with_word past.seen word) p key before.address;
            behind = omega (arith, length-append past.seen (word ∷ []), before.place);
          },
        ),
      );
    }

pub gap_on : (left : ℕ) (index : Bool) (word : ℕ) (past : Past) (key : Chrn) (deleted : Bool) (handed : List ℕ) → 1 ≤ left → index ≡ false → IsWriting past key deleted handed (stage.Gap left) → IsWriting (heard_where (opens (stage.Gap left)) index word past) key deleted handed (stage.Gap (left - 1))
gap_on zero index word past key deleted handed some is was = absurd (omega arith)
gap_on (suc left) true word past key deleted handed some is was = absurd (false≢true (sym is))
gap_on (suc left) false word past key deleted handed some is (at, ((p, before), none)) =
    let turn = with_word past.seen word in (
      heard_place false word past at none.0,
      (
        (
          p,
          record {
            address = address_stays past.seen turn (part_with_word past.seen word) p key before.address;
            place = omega (arith, length-append past.seen (word ∷ []), before.place);
          },
        ),
        none,
      ),
    )
