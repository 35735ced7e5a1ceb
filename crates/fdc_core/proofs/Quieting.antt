-- A search hears the words ahead, in which it meets nothing.
use Rattle.std.proofs.Common.{◌≡◌, ◌≤◌, ◌<◌, ◌+◌, ◌*◌, ℕ, Bool, true, false, List, [], ◌∷◌, ◌++◌, length, take, get_or, Option, None, Some, is_some, refl, sym, ap, subst, ◌∙◌, inl, inr, arith, length-append}
use Rattle.fdc_core.proofs.Common.{append-nil, append_assoc, get_or_append_left, take_more, false≢true, Spends, last_count, Chrn, AreAhead, DriveState, Becomes, passed, rate_of, word_under, ahead_same, IsDataMark, content_size, IsPlain, IsPart, with_word, address_stays, data_mark_stays, length-with_word, reads_mark, waits_early, waits_mark, Past, heard, HasNoClear, HasSearched, IsMiss, IsMissed, IsSearching, IsSearchingIn, SearchOutcome, HasHeard, HasRead, HearsByte, IsFailure, IsReading, ReadOutcome, mark_at, read_outcome, Ending, Done, NoMark, NoSector, NoField, BadCheck, Overrun, NoCount, Protected, Late, ReadHeard, ReadStage, Search, over_full, reading_told, told_most, rate_fits, seen_of, DataRate, SearchHears, SeesUnder, StageHears, HasBytesLeft, HasNoneWanted, HasSingle, IsUnmarked, MayBeMarked, MeetsNothing, past_with, let_pass}
use Rattle.std.proofs.lemmas.Nat.{pow_pos}
use Rattle.fdc_core.proofs.AddressHeard.{same_words}
use Rattle.fdc_stages.specs.Searches as searched
use Rattle.fdc_stages.specs.Readings as given
use Rattle.fdc_stages.specs.declared.reading.ReadHeard.TheVariants as answers
use Rattle.fdc_stages.specs.declared.reading.ReadStage.TheVariants as stages

-- ---- the words

-- on a Plain track each address field is clear
pub plain_none : (wanted : Option Chrn) (words : List ℕ) → IsPlain words → HasNoClear wanted words → HasNoneWanted wanted words
plain_none wanted words plain clear p key wants address = clear p key wants address (plain p address.mark)

pub begins_part : (first rest : List ℕ) → IsPart first (first ++ rest)
begins_part first rest = record { longer = omega (arith, length-append first rest); same = λ k below. get_or_append_left first rest 0 k below }

-- no such field in the first of the words either
pub first_none : (wanted : Option Chrn) (first rest whole : List ℕ) → first ++ rest ≡ whole → HasNoneWanted wanted whole → HasNoneWanted wanted first
first_none wanted first rest whole is none p key wants address =
    none p key wants (address_stays first whole (subst (λ words. IsPart first words) is (begins_part first rest)) p key address)

pub some_seen : (seen : List ℕ) (word : ℕ) → with_word seen word ≡ [] → ⊥
some_seen seen word is =
    let size : length (with_word seen word) ≡ 0 = ap length is in
    omega (arith, size, length-with_word seen word)

pub some_none : {A : Type 0} {a : A} → Some a ≡ None → ⊥
some_none is = false≢true (sym (ap is_some is))

-- ---- words in a row

with_next : (seen words : List ℕ) (i : ℕ) → i < length words → with_word (seen ++ take i words) (get_or words i 0) ≡ seen ++ take (i + 1) words
with_next seen words i below =
    append_assoc seen (take i words) (get_or words i 0 ∷ []) ∙ ap (λ more. seen ++ more) (sym (take_more words i 0 below))

-- the search has heard these words, and goes on
abbrev pub HasHeardWords : Option Chrn → List ℕ → Search → Search → Type 0
HasHeardWords wanted words search next =
    (past : Past) → IsSearching past wanted search → IsSearchingIn past.turns (past.seen ++ words) wanted next.separator next.turned next.marked

pub hears_nothing : (wanted : Option Chrn) (search : Search) → HasHeardWords wanted [] search search
hears_nothing wanted search past at =
    subst (λ seen. IsSearchingIn past.turns seen wanted search.separator search.turned search.marked) (sym (append-nil past.seen)) at

-- it hears one more
pub hears_next : (wanted : Option Chrn) (words : List ℕ) (i word : ℕ) (search mid next : Search) → i < length words → word ≡ get_or words i 0 → HasHeardWords wanted (take i words) search mid
    → ((past : Past) → IsSearching past wanted mid → HasSearched false (heard false word past) wanted (searched.On next)) → HasHeardWords wanted (take (i + 1) words) search next
hears_next wanted words i word search mid next below is was hears past at =
    subst (λ seen. IsSearchingIn past.turns seen wanted next.separator next.turned next.marked) (ap (λ w. with_word (past.seen ++ take i words) w) is ∙ with_next past.seen words i below)
    (hears (record past { seen = past.seen ++ take i words }) (was past at))

-- they have no clear address field that is wanted
pub heard_none : (wanted : Option Chrn) (words : List ℕ) (search next : Search) → HasHeardWords wanted words search next → MeetsNothing wanted words search
heard_none wanted words search next was past at = (was past at).none (past.seen ++ words) (inl refl)

-- ---- the same of a reading

-- the reading has heard these words, and has met no data mark
abbrev pub HasReadWords : Chrn → List ℕ → ReadStage → ReadStage → Type 0
HasReadWords key words stage next = (past : Past) → IsUnmarked past key stage → IsUnmarked (past_with words past) key next

same_seen : (past : Past) (key : Chrn) (stage : ReadStage) (seen more : List ℕ) → seen ≡ more → IsReading (record past { seen = seen }) key [] stage → IsReading (record past { seen = more }) key [] stage
same_seen past key stage seen more is reads = subst (λ words. IsReading (record past { seen = words }) key [] stage) is reads

pub reads_nothing : (key : Chrn) (stage : ReadStage) → HasReadWords key [] stage stage
reads_nothing key stage past was =
    (same_seen past key stage past.seen (past.seen ++ []) (sym (append-nil past.seen)) was.0, was.1)

pub reads_next : (key : Chrn) (words : List ℕ) (i word : ℕ) (stage mid next : ReadStage) → i < length words → word ≡ get_or words i 0 → HasReadWords key (take i words) stage mid
    → (answer : ReadHeard) → answer ≡ answers.On → ((past : Past) (told : List ℕ) → IsReading past key told mid → HasHeard (heard false word past) key told (read_outcome next answer)) → mark_at next ≡ None → HasReadWords key (take (i + 1) words) stage next
reads_next key words i word stage mid next below is was answer on hears none past at =
    let before : Past = past_with (take i words) past in
    let now : List ℕ = with_word (past.seen ++ take i words) word in
    let reads : HasHeard (heard false word before) key [] (given.On next) = subst (λ given_now. HasHeard (heard false word before) key [] (read_outcome next given_now)) on (hears before [] (was past at).0) in
    let heard_now = same_words (heard false word before) past key [] next reads in
    (same_seen past key next now (past.seen ++ take (i + 1) words) (ap (λ w. with_word (past.seen ++ take i words) w) is ∙ with_next past.seen words i below) heard_now, none)

-- bytes of a content came
abbrev pub HasGivenBytes : ℕ → ReadStage → ReadStage → Type 0
HasGivenBytes count stage next =
    (past : Past) (key : Chrn) (told : List ℕ) → IsReading past key told stage → (later : Past) × (more : List ℕ) × IsReading later key more next × (length more ≡ length told + count)

pub gives_nothing : (stage : ReadStage) → HasGivenBytes 0 stage stage
gives_nothing stage past key told was = (past, told, was, omega arith)

pub gives_next : (count word value : ℕ) (stage mid next : ReadStage) → HasGivenBytes count stage mid → HearsByte word value mid next → HasGivenBytes (count + 1) stage next
gives_next count word value stage mid next was byte past key told at =
    let (later, more, reads, size) = was past key told at in
    (heard false word later, more ++ value ∷ [], byte.gives later key more reads, omega (arith, size, length-append more (value ∷ [])))

pub bytes_left : (count : ℕ) (stage next : ReadStage) → HasGivenBytes count stage next → HasBytesLeft count stage
bytes_left count stage next was past key told at =
    let (later, more, reads, size) = was past key told at in
    let most = told_most later key more (reading_told later key more next reads) in
    omega (arith, size, most)

-- ---- a search

pub missing : (past : Past) (wanted : Option Chrn) (ending : Ending) → IsMiss ending → IsMissed past wanted ending → past.seen ≡ []
missing past wanted NoMark well is = is.0.is.nothing
missing past wanted NoSector well is = is.0.is.nothing
missing past wanted _ well is = absurd well

-- a word that a READ ID hears, in which nothing is met
module _ (past : Past) (word : ℕ) (search : Search) (none : HasNoneWanted None (with_word past.seen word)) (was : IsSearching past None search) where
  pub searches_on : (after : SearchOutcome) → SearchHears false word search after → (next : Search) × (after ≡ searched.On next) × IsSearching (heard false word past) None next
  searches_on (searched.On next) hears = (next, refl, hears.0 past was)
  searches_on (searched.Met key separator) hears =
      let met = hears.0 past was in
      absurd (none met.1.0 key tt met.1.1.address)
  searches_on (searched.Missed ending) hears =
      absurd (some_seen past.seen word (missing (heard false word past) None ending hears.1 (hears.0 past was)))

-- ---- a reading that has met no data mark

one_none : (value : ℕ) → value ∷ [] ≡ [] → ⊥
one_none value is = let none : 1 ≡ 0 = ap length is in omega (arith, none)

-- nor has it come in the first of the words
pub first_unmarked : (key : Chrn) (first rest whole : List ℕ) → first ++ rest ≡ whole → MayBeMarked key whole → MayBeMarked key first
first_unmarked key first rest whole is unmarked p address =
    let part : IsPart first whole = subst (λ words. IsPart first words) is (begins_part first rest) in
    let (reach, none) = unmarked p (address_stays first whole part p key address) in
    let longer = part.longer in
    (omega (arith, reach, longer), λ q deleted mark. none q deleted (data_mark_stays first whole part p q deleted mark))

-- a reading that has met none, on a Plain track that has the key once
pub plain_unmarked : (past : Past) (key : Chrn) (stage : ReadStage) → IsUnmarked past key stage → IsPlain past.seen → HasSingle key past.seen → MayBeMarked key past.seen
plain_unmarked past key (stages.Search search) was plain single p address =
    absurd (plain_none (Some key) past.seen plain (was.0.0.none past.seen (inl refl)) p key refl address)
plain_unmarked past key (stages.Wait separator) was plain single p address =
    let (q, waiting) = was.0.0 in
    let same : q ≡ p = single q p waiting.address address in
    subst (λ p. (16 * length past.seen ≤ p + 160 + 1022) × ((k : ℕ) (deleted : Bool) → IsDataMark past.seen p k deleted → ⊥)) same
    (waits_early separator past.seen q (content_size key.n) waiting.waits, waits_mark separator past.seen q (content_size key.n) waiting.waits)
plain_unmarked past key _ was plain single p address = absurd (some_none was.1)

-- a word that a READ DATA hears before its data mark has come
module _ (past : Past) (key : Chrn) (word : ℕ) (stage : ReadStage) (unmarked : MayBeMarked key (with_word past.seen word)) (was : IsUnmarked past key stage) where
  abbrev later : Past
  later = heard false word past

  goes_on : (next : ReadStage) → IsReading later key [] next → mark_at next ≡ None
  goes_on (stages.Content separator deleted) (p, q, taken, at) =
      absurd ((unmarked p at.address).1 q deleted (reads_mark separator later.seen p q deleted (content_size key.n) taken at.reads).mark)
  goes_on (stages.Over deleted good) reads =
      let full : 0 ≡ content_size key.n = over_full later key [] deleted good reads in
      let some = pow_pos key.n in
      absurd (omega (arith, full, some))
  goes_on _ reads = refl

  gives_none : (value : ℕ) (next : ReadStage) → IsReading later key (value ∷ []) next → ⊥
  gives_none value (stages.Content separator deleted) (p, q, taken, at) =
      (unmarked p at.address).1 q deleted (reads_mark separator later.seen p q deleted (content_size key.n) taken at.reads).mark
  gives_none value (stages.Over deleted good) reads =
      let full : 1 ≡ content_size key.n = over_full later key (value ∷ []) deleted good reads in
      omega (arith, full)
  gives_none value _ reads = one_none value reads.1

  fails_none : (ending : Ending) → HasRead later key [] ending → IsFailure ending → ⊥
  fails_none NoMark read fails = some_seen past.seen word read.cause.0.is.nothing
  fails_none NoSector read fails = some_seen past.seen word read.cause.0.is.nothing
  fails_none NoField read fails = elim read.cause [
    | inl (turn, p, cut) ↦ some_seen past.seen word cut.over.nothing
    | inr (p, bare) ↦ (
        let far = bare.none.far in
        let reach = (unmarked p bare.address).0 in
        omega (arith, far, reach))
  ]
  fails_none (Done deleted) read fails = absurd fails
  fails_none BadCheck read fails = absurd fails
  fails_none Overrun read fails = absurd fails
  fails_none NoCount read fails = absurd fails
  fails_none Protected read fails = absurd fails
  fails_none Late read fails = absurd fails

  pub reads_on : (after : ReadOutcome) → StageHears key false word stage after → (next : ReadStage) × (after ≡ given.On next) × IsUnmarked later key next
  reads_on (given.On next) hears = let reads = hears.0 past [] was.0 in (next, refl, (reads, goes_on next reads))
  reads_on (given.Byte next value) hears = absurd (gives_none value next (hears.0 past [] was.0))
  reads_on (given.Ended ending) hears = absurd (fails_none ending (hears.0 past [] was.0) hears.1)

-- ---- the drive

-- no fault can come any more
pub record HasNoFaults (drive : DriveState) : Type 0 where
  pub left : drive.left ≡ Some 0
  pub below : drive.faults < last_count

-- what a word time leaves of a drive in which no fault can come
pub record PassesFaultless (before after : DriveState) : Type 0 where
  pub calm : HasNoFaults after
  pub same : after.faults ≡ before.faults

module _ (before after : DriveState) (passes : Becomes (let_pass before) before after) (calm : HasNoFaults before) where
  pub passes_calm : PassesFaultless before after
  passes_calm =
      let (rest, left, few) = subst (λ left. Spends before.faults left after.faults after.left) calm.left passes.spends in
      let falls = passes.never_falls in
      let same : after.faults ≡ before.faults = omega (arith, few, falls) in
      let below = calm.below in
      record {
        calm = record { left = left ∙ ap Some (omega (arith, few, falls)); below = omega (arith, same, below) };
        same = same;
      }

  -- the word ahead is the one that is seen
  pub sees_ahead : (rate : DataRate) (head word : ℕ) → rate_fits rate (rate_of before.medium) ≡ true → SeesUnder rate head before word after → word ≡ word_under before head
  sees_ahead rate head word fits (raw, inl reads, is) =
      is ∙ ap (λ fits. seen_of fits raw) fits ∙ reads
  sees_ahead rate head word fits (raw, inr (nothing, rose), is) =
      let same = passes_calm.same in
      let below = calm.below in
      absurd (omega (arith, same, below, rose))

  -- the words after it are still ahead
  pub ahead_after : (head : ℕ) (rest : List ℕ) → AreAhead head rest (passed before) → AreAhead head rest after
  ahead_after head rest ahead =
      subst (λ drive. AreAhead head rest drive) (sym passes.becomes) (ahead_same head rest (passed before) false before.cut after.faults after.left ahead)

  -- the medium is the same
  pub fits_after : (rate : DataRate) → rate_fits rate (rate_of before.medium) ≡ true → rate_fits rate (rate_of after.medium) ≡ true
  fits_after rate fits = subst (λ drive. rate_fits rate (rate_of drive.medium) ≡ true) (sym passes.becomes) fits
