-- A READ DATA that hears the ten words of an address field still waits for the data field: nothing else can have come of
-- so few words.
use Rattle.std.proofs.Common.{◌≡◌, inl, inr, ℕ, suc, ◌+◌, ◌<◌, ◌≤◌, false, List, [], ◌∷◌, ◌++◌, length, take, get_or, refl, sym, ap, ◌∙◌, subst, arith}
use Rattle.fdc_core.proofs.Common.{take_more, take_all, length-append, length-take-le, Chrn, content_size, reads_mark, IsAmong, Past, heard, FailsWell, HasHeard, HasRead, IsFailure, IsReading, read_outcome, Ending, Done, NoMark, NoSector, NoField, BadCheck, Overrun, NoCount, Protected, Late, ReadHeard, ReadStage, Wait, Content, Over, heard_words}
use Rattle.fdc_stages.specs.declared.reading.ReadHeard.TheVariants as given

-- a stage goes by the words alone
pub same_words : (past other : Past) (key : Chrn) (told : List ℕ) (stage : ReadStage) → IsReading past key told stage → IsReading (record other { turns = past.turns; seen = past.seen }) key told stage
same_words past other key told (Wait separator) ((p, at), none) = ((p, record { address = at.address; waits = at.waits; few = at.few }), none)
same_words past other key told (Content separator deleted) (p, q, taken, at) =
    (p, q, taken, record { address = at.address; reads = at.reads; bytes = at.bytes; few = at.few })
same_words past other key told _ was = was

nothing_turned : (turn : List ℕ) (turns : List (List ℕ)) → [] ≡ turn ∷ turns → ⊥
nothing_turned turn turns is = let none : 0 ≡ suc (length turns) = ap length is in omega (arith, none)

one_none : (value : ℕ) → value ∷ [] ≡ [] → ⊥
one_none value is = let none : 1 ≡ 0 = ap length is in omega (arith, none)

-- no byte of a content comes in so few words, and no reading ends
module _ (past : Past) (key : Chrn) (none : past.turns ≡ []) (few : length past.seen ≤ 10) where
  none_given : (value : ℕ) (stage : ReadStage) → IsReading past key (value ∷ []) stage → ⊥
  none_given value (Content separator deleted) (p, q, taken, at) =
      let mark = (reads_mark separator past.seen p q deleted (content_size key.n) taken at.reads).mark in
      let after = mark.after in
      let inside = mark.run.sound.inside in
      omega arith
  none_given value (Over deleted good) (turn, inl same, (p, q, over)) =
      let after = over.ended.first.mark.after in
      let inside = over.ended.inside in
      let size : length turn ≡ length past.seen = ap length same in
      omega arith
  none_given value (Over deleted good) (turn, inr among, over) = absurd (subst (λ turns. IsAmong turns turn) none among)
  none_given value _ was = one_none value was.1

  none_ended : (ending : Ending) → HasRead past key [] ending → IsFailure ending → ⊥
  none_ended NoMark read fails = nothing_turned _ _ (sym none ∙ read.cause.0.is.turns)
  none_ended NoSector read fails = nothing_turned _ _ (sym none ∙ read.cause.0.is.turns)
  none_ended NoField read fails = elim read.cause [
    | inl (turn, p, cut) ↦ nothing_turned _ _ (sym none ∙ cut.over.last)
    | inr (p, bare) ↦ (let far = bare.none.far in omega arith)
  ]
  none_ended (Done deleted) read fails = absurd fails
  none_ended BadCheck read fails = absurd fails
  none_ended Overrun read fails = absurd fails
  none_ended NoCount read fails = absurd fails
  none_ended Protected read fails = absurd fails
  none_ended Late read fails = absurd fails

  goes_on : (stage : ReadStage) (result : ReadHeard) → HasHeard past key [] (read_outcome stage result) → FailsWell (read_outcome stage result) → IsReading past key [] stage
  goes_on stage given.On hears well = hears
  goes_on stage (given.Byte value) hears well = absurd (none_given value stage hears)
  goes_on stage (given.Ended ending) hears well = absurd (none_ended ending hears well)

-- a word more is heard
pub hears_more : (key : Chrn) (words : List ℕ) (word : ℕ) (stage next : ReadStage) (result : ReadHeard) → length words + 1 ≤ 10 → IsReading (heard_words words) key [] stage
    → ((past : Past) (told : List ℕ) → IsReading past key told stage → HasHeard (heard false word past) key told (read_outcome next result)) → FailsWell (read_outcome next result)
    → IsReading (heard_words (words ++ word ∷ [])) key [] next
hears_more key words word stage next result few was hears well =
    let later = heard false word (heard_words words) in
    let size : length (words ++ word ∷ []) ≡ length words + 1 = length-append words (word ∷ []) in
    same_words later (heard_words (words ++ word ∷ [])) key [] next (goes_on later key refl (omega (arith, size, few)) next result (hears (heard_words words) [] was) well)

pub hears_next : (key : Chrn) (words : List ℕ) (i word : ℕ) (stage next : ReadStage) (result : ReadHeard) → length words ≤ 10 → i < length words → get_or words i 0 ≡ word → IsReading (heard_words (take i words)) key [] stage
    → ((past : Past) (told : List ℕ) → IsReading past key told stage → HasHeard (heard false word past) key told (read_outcome next result)) → FailsWell (read_outcome next result)
    → IsReading (heard_words (take (i + 1) words)) key [] next
hears_next key words i word stage next result few below is was hears well =
    let all : take (i + 1) words ≡ take i words ++ word ∷ [] = take_more words i 0 below ∙ ap (λ w. take i words ++ w ∷ []) is in
    let size : length (take i words) ≡ i = length-take-le i words (omega (arith, below)) in
    subst (λ list. IsReading (heard_words list) key [] next) (sym all) (hears_more key (take i words) word stage next result (omega (arith, size, few, below)) was hears well)

pub hears_all : (key : Chrn) (words : List ℕ) (i : ℕ) (stage : ReadStage) → length words ≤ i → IsReading (heard_words (take i words)) key [] stage → IsReading (heard_words words) key [] stage
hears_all key words i stage all was = subst (λ list. IsReading (heard_words list) key [] stage) (take_all i words all) was
