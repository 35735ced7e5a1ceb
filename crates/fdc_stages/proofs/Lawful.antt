-- Laws on what a data command has heard. What stood in a revolution still stands there as the revolution goes on, and
-- so does what was reported of it.
use Rattle.std.proofs.Common.{◌≡◌, ℕ, ◌+◌, ◌*◌, ◌≤◌, Bool, true, false, Option, List, [], ◌∷◌, ◌++◌, length, min, refl, sym, ap, subst, ◌∙◌, arith, inl, inr}
use Rattle.fdc_stages.proofs.Common.{append-nil, length-append, nil_from_length, Chrn, byte_at, bytes_at, content_size, Separator, with_word, IsPart, part_with_word, whole_part, length-with_word, address_stays, first_stays, intact_stays, intact_stood, bytes_stay, reads_mark, reads_within, ReadStage, Search, Content, Over, Past, heard, IsTurn, HasFewTurns, words_in, words_heard, HasTurned, IsSearching, IsStart, IsReading, IsContentAt, IsFieldOver, IsOver, IsToldFrom, IsToldOf}
use Rattle.std.proofs.lemmas.List.FromFn.{length-map-range_with_len}
use Rattle.fdc_stages.specs.declared.searching.Search as searched

-- if all words that passed were heard, the place is their number
pub heard_place : (index : Bool) (word : ℕ) (past : Past) → past.place ≡ length past.seen → (heard index word past).place ≡ length (heard index word past).seen
heard_place true word past at = refl
heard_place false word past at = let size = length-with_word past.seen word in omega arith

-- a revolution of which more words were heard
pub record IsHeardOn (past : Past) (turn whole : List ℕ) : Type 0 where
  pub part : IsPart turn whole
  pub among : IsTurn past whole

-- with one word more, each revolution that was heard stays or goes on
pub turn_heard : (index : Bool) (word : ℕ) (past : Past) (turn : List ℕ) → IsTurn past turn → (whole : List ℕ) × IsHeardOn (heard index word past) turn whole
turn_heard false word past turn (inl e) =
    (with_word past.seen word, record { part = subst (λ words. IsPart words (with_word past.seen word)) (sym e) (part_with_word past.seen word); among = inl refl })
turn_heard false word past turn (inr among) = (turn, record { part = whole_part turn; among = inr among })
turn_heard true word past turn (inl e) =
    (with_word past.seen word, record { part = subst (λ words. IsPart words (with_word past.seen word)) (sym e) (part_with_word past.seen word); among = inr (inl refl) })
turn_heard true word past turn (inr among) = (turn, record { part = whole_part turn; among = inr (inr among) })

-- the words since the last index pulse, with the word heard now, are words of one revolution
pub last_heard : (index : Bool) (word : ℕ) (past : Past) → IsTurn (heard index word past) (with_word past.seen word)
last_heard true word past = inr (inl refl)
last_heard false word past = inl refl

-- ---- what was reported

module _ (turn whole : List ℕ) (part : IsPart turn whole) (key : Chrn) (told : List ℕ) where
  -- bytes reported of a part of a revolution are bytes of the whole revolution
  pub told_from_stays : (p q count : ℕ) (deleted : Bool) → IsToldFrom turn key told p q count deleted → IsToldFrom whole key told p q count deleted
  told_from_stays p q count deleted from =
      let inside = from.inside in
      let longer = part.longer in
      record {
        address = address_stays turn whole part p key from.address;
        mark = first_stays turn whole part p q deleted from.mark;
        most = from.most;
        inside = omega arith;
        bytes = from.bytes ∙ bytes_stay turn whole part (q + 64) count inside;
      }

  -- a field that is over in a part of a revolution is over in the whole revolution
  pub field_over_stays : (deleted good : Bool) (p q : ℕ) → IsFieldOver turn key told deleted good p q → IsFieldOver whole key told deleted good p q
  field_over_stays deleted good p q over =
      let inside = over.ended.inside in
      let longer = part.longer in
      record {
        address = address_stays turn whole part p key over.address;
        ended = record { first = first_stays turn whole part p q deleted over.ended.first; inside = omega arith };
        tells = λ n sized.
            let reach : q + (64 + 16 * (content_size n + 2)) ≤ 16 * length turn = subst (λ size. q + (64 + 16 * (size + 2)) ≤ 16 * length turn) sized inside in
            (λ good. intact_stays turn whole part q n reach ((over.tells n sized).0 good), λ intact. (over.tells n sized).1 (intact_stood turn whole part q n reach intact));
        bytes = over.bytes ∙ bytes_stay turn whole part (q + 64) (content_size key.n) (omega arith);
      }

pub told_stays : (index : Bool) (word : ℕ) (past : Past) (key : Chrn) (told : List ℕ) → IsToldOf past key told → IsToldOf (heard index word past) key told
told_stays index word past key told (inl none) = inl none
told_stays index word past key told (inr (turn, among, (p, q, count, deleted, from))) =
    let on = turn_heard index word past turn among in
    inr (on.0, on.1.among, (p, q, count, deleted, told_from_stays turn on.0 on.1.part key told p q count deleted from))

pub over_stays : (index : Bool) (word : ℕ) (past : Past) (key : Chrn) (told : List ℕ) (deleted good : Bool) → IsOver past key told deleted good → IsOver (heard index word past) key told deleted good
over_stays index word past key told deleted good (turn, among, (p, q, over)) =
    let on = turn_heard index word past turn among in
    (on.0, on.1.among, (p, q, field_over_stays turn on.0 on.1.part key told deleted good p q over))

-- if a data field is over, its whole content was reported
pub over_told : (past : Past) (key : Chrn) (told : List ℕ) (deleted good : Bool) → IsOver past key told deleted good → IsToldOf past key told
over_told past key told deleted good (turn, among, (p, q, over)) =
    let inside = over.ended.inside in
    inr (turn, among, (p, q, content_size key.n, deleted, record { address = over.address; mark = over.ended.first; most = omega arith; inside = omega arith; bytes = over.bytes }))

-- the bytes that are reported while a data field is read
pub content_told : (past : Past) (key : Chrn) (told : List ℕ) (separator : Separator) (deleted : Bool) (p q taken : ℕ) → IsContentAt past key told separator deleted p q taken → IsToldOf past key told
content_told past key told separator deleted p q taken was =
    let within = reads_within separator past.seen p q deleted (content_size key.n) taken was.reads in
    inr (
      past.seen,
      inl refl,
      (
        p,
        q,
        min taken (content_size key.n),
        deleted,
        record {
          address = was.address;
          mark = reads_mark separator past.seen p q deleted (content_size key.n) taken was.reads;
          most = omega arith;
          inside = omega arith;
          bytes = was.bytes;
        },
      ),
    )

-- at each time, the bytes reported are the first of a data field of the sector ID
pub reading_told : (past : Past) (key : Chrn) (told : List ℕ) (stage : ReadStage) → IsReading past key told stage → IsToldOf past key told
reading_told past key told (Content separator deleted) (p, q, taken, was) = content_told past key told separator deleted p q taken was
reading_told past key told (Over deleted good) reads = over_told past key told deleted good reads
reading_told past key told _ reads = inl reads.1

-- no more bytes are reported than the sector has
pub told_most : (past : Past) (key : Chrn) (told : List ℕ) → IsToldOf past key told → length told ≤ content_size key.n
told_most past key told (inl none) = subst (λ bytes. length bytes ≤ content_size key.n) (sym none) (omega arith)
told_most past key told (inr (turn, among, (p, q, count, deleted, from))) =
    let most = from.most in
    let long : length (bytes_at turn (q + 64) count) ≡ count = length-map-range_with_len (λ i. byte_at turn (q + 64 + 16 * i)) 0 count in
    let same : length told ≡ length (bytes_at turn (q + 64) count) = ap length from.bytes in
    omega arith

-- as many bytes of a content were reported as have passed, but no more than the sector has
pub told_taken : (past : Past) (key : Chrn) (told : List ℕ) (separator : Separator) (deleted : Bool) (p q taken : ℕ) → IsContentAt past key told separator deleted p q taken → length told ≡ min taken (content_size key.n)
told_taken past key told separator deleted p q taken at =
    ap length at.bytes ∙ length-map-range_with_len (λ i. byte_at past.seen (q + 64 + 16 * i)) 0 (min taken (content_size key.n))

-- if the data field is over, as many bytes were reported as the sector has
pub over_full : (past : Past) (key : Chrn) (told : List ℕ) (deleted good : Bool) → IsOver past key told deleted good → length told ≡ content_size key.n
over_full past key told deleted good (turn, among, (p, q, over)) =
    ap length over.bytes ∙ length-map-range_with_len (λ i. byte_at turn (q + 64 + 16 * i)) 0 (content_size key.n)

-- ---- the bytes given, or in the FIFO

-- if as many bytes were given as were reported, they are the same bytes
pub start_full : (counted : Bool) (bytes told : List ℕ) → IsStart counted bytes told → length bytes ≡ length told → bytes ≡ told
start_full false bytes told is same = is
start_full true bytes told (rest, is) same =
    let long : length told ≡ length bytes + length rest = ap length is ∙ length-append bytes rest in
    let nothing : rest ≡ [] = nil_from_length rest (omega arith) in
    sym (is ∙ ap (λ list. bytes ++ list) nothing ∙ append-nil bytes)

-- ---- how long a command listens

words_last : (turns : List (List ℕ)) (seen : List ℕ) → words_in turns seen ≡ words_in turns [] + length seen
words_last [] seen = omega arith
words_last (turn ∷ turns) seen = let rest = words_last turns seen in omega arith

-- each word heard raises the number of words heard by one
pub heard_count : (index : Bool) (word : ℕ) (past : Past) → words_heard (heard index word past) ≡ words_heard past + 1
heard_count true word past =
    let size = length-with_word past.seen word in
    let before = words_last past.turns past.seen in
    omega arith
heard_count false word past =
    let size = length-with_word past.seen word in
    let before = words_last past.turns past.seen in
    let after = words_last past.turns (with_word past.seen word) in
    omega arith

-- at most one index pulse has passed during a search
pub turned_few : (turned : Bool) (turns : List (List ℕ)) → HasTurned turned turns → length turns ≤ 1
turned_few true turns (first, e) = subst (λ list. length list ≤ 1) (sym e) (omega arith)
turned_few false turns e = subst (λ list. length list ≤ 1) (sym e) (omega arith)

pub searching_few : (past : Past) (wanted : Option Chrn) (searching : searched.Search) → IsSearching past wanted searching → HasFewTurns past
searching_few past wanted searching is = turned_few searching.turned past.turns is.indexes

-- after one word more, at most two index pulses have passed
pub heard_few : (index : Bool) (word : ℕ) (past : Past) → HasFewTurns past → length (heard index word past).turns ≤ 2
heard_few true word past few = omega arith
heard_few false word past few = omega arith
