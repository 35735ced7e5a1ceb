-- A data field read word by word.
use Rattle.std.proofs.Common.{◌≡◌, ◌⊎◌, ℕ, ◌+◌, ◌*◌, ◌<◌, Bool, true, false, List, length, take, min, get_or, set, length-set, get_or-set_same, get_or-set_other, refl, sym, ap, subst, ◌∙◌, arith, inl, inr}
use Rattle.sector_map.proofs.Common.{byte_at, cases_lt, take_more, take_all, length-take-le, ext_get_or, length-map-range_with_len, get_or-map-range_with_len, Chrn, IsSizeCode, content_size, content_at, LookAt, Seen, Nothing, Mark, Address, Mode, Byte, End, Separator, with_word, IsPart, SWaits, SReads, HasEnded, TellsWhole, IsUnfinished, SWaitFed, SReadFed, first_words, byte_stays, field_stays, no_data_stays, unfinished_is_no_data, reads_within}
use Rattle.track_model.specs.declared.Look.TheVariants as look
use Rattle.track_separator.specs.declared.state.Seen.TheVariants.{NoData}
use Rattle.track_separator.specs.Lifts.{look_of}

-- some bytes of the data field at q have passed, and the content has them
pub record IsCopied (words : List ℕ) (p q size passed : ℕ) (separator : Separator) (i : ℕ) (deleted : Bool) (taken : ℕ) (content : List ℕ) : Type 0 where
  pub reads : SReads separator (take i words) p q deleted size passed
  pub count : taken ≡ min passed size
  pub bytes : (k : ℕ) → k < taken → get_or content k 0 ≡ byte_at words (q + 64 + 16 * k)

-- the revolution goes on, and either a data mark is awaited or a data field is being read
pub record IsReadingOn (words : List ℕ) (p size : ℕ) (separator : Separator) (i : ℕ) (deleted : Bool) (taken : ℕ) (content : List ℕ) : Type 0 where
  pub inside : i < length words
  pub sized : length content ≡ size
  pub state : (SWaits separator (take i words) p size × (taken ≡ 0)) ⊎ ((q : ℕ) × (passed : ℕ) × IsCopied words p q size passed separator i deleted taken content)

module _ (words : List ℕ) (p size : ℕ) (old new : Separator) (i : ℕ) (deleted : Bool) (taken : ℕ) (content : List ℕ) (index : Bool) (word : ℕ) (seen : Seen) (word_is : word ≡ get_or words i 0) (ends : index ≡ true → i + 1 ≡ length words) (goes_on : index ≡ false → i + 1 ≡ length words → ⊥) (was : IsReadingOn words p size old i deleted taken content) (waits : (fed : List ℕ) (p size : ℕ) → SWaits old fed p size → SWaitFed index (with_word fed word) p size new seen) (reads : (fed : List ℕ) (p q : ℕ) (deleted : Bool) (size taken : ℕ) → SReads old fed p q deleted size taken → SReadFed index (with_word fed word) p q deleted size taken new seen) where
  now_is : with_word (take i words) word ≡ take (i + 1) words
  now_is = ap (with_word (take i words)) word_is ∙ sym (take_more words i 0 was.inside)

  part : IsPart (take (i + 1) words) words
  part = let inside = was.inside in first_words (i + 1) words (omega arith)

  waited : SWaits old (take i words) p size → SWaitFed index (take (i + 1) words) p size new seen
  waited h = subst (λ fed. SWaitFed index fed p size new seen) now_is (waits (take i words) p size h)

  -- what the separator gave for this word, in either of the two states
  given : (SWaitFed index (take (i + 1) words) p size new seen × (taken ≡ 0)) ⊎ ((q : ℕ) × (passed : ℕ) × SReadFed index (take (i + 1) words) p q deleted size passed new seen × (taken ≡ min passed size) × ((k : ℕ) → k < taken → get_or content k 0 ≡ byte_at words (q + 64 + 16 * k)))
  given = of_state was.state
    where
      of_state : ((SWaits old (take i words) p size × (taken ≡ 0)) ⊎ ((q : ℕ) × (passed : ℕ) × IsCopied words p q size passed old i deleted taken content)) → (SWaitFed index (take (i + 1) words) p size new seen × (taken ≡ 0)) ⊎ ((q : ℕ) × (passed : ℕ) × SReadFed index (take (i + 1) words) p q deleted size passed new seen × (taken ≡ min passed size) × ((k : ℕ) → k < taken → get_or content k 0 ≡ byte_at words (q + 64 + 16 * k)))
      of_state (inl (h, none)) = inl (waited h, none)
      of_state (inr (q, passed, copied)) = inr (q, passed, subst (λ fed. SReadFed index fed p q deleted size passed new seen) now_is (reads (take i words) p q deleted size passed copied.reads), copied.count, copied.bytes)

pub record IsGiven (words : List ℕ) (p size : ℕ) (new : Separator) (i : ℕ) (deleted : Bool) (taken : ℕ) (content : List ℕ) (index : Bool) (seen : Seen) : Type 0 where
  pub inside : i < length words
  pub sized : length content ≡ size
  pub goes_on : index ≡ false → i + 1 < length words
  pub ends : index ≡ true → i + 1 ≡ length words
  pub what : (SWaitFed index (take (i + 1) words) p size new seen × (taken ≡ 0)) ⊎ ((q : ℕ) × (passed : ℕ) × SReadFed index (take (i + 1) words) p q deleted size passed new seen × (taken ≡ min passed size) × ((k : ℕ) → k < taken → get_or content k 0 ≡ byte_at words (q + 64 + 16 * k)))

pub given_of : (words : List ℕ) (p size : ℕ) (old new : Separator) (i : ℕ) (deleted : Bool) (taken : ℕ) (content : List ℕ) (index : Bool) (word : ℕ) (seen : Seen) → word ≡ get_or words i 0 → (index ≡ true → i + 1 ≡ length words) → (index ≡ false → i + 1 ≡ length words → ⊥) → IsReadingOn words p size old i deleted taken content → ((fed : List ℕ) (p size : ℕ) → SWaits old fed p size → SWaitFed index (with_word fed word) p size new seen) → ((fed : List ℕ) (p q : ℕ) (deleted : Bool) (size taken : ℕ) → SReads old fed p q deleted size taken → SReadFed index (with_word fed word) p q deleted size taken new seen) → IsGiven words p size new i deleted taken content index seen
given_of words p size old new i deleted taken content index word seen word_is ends goes_on was waits reads =
    let inside = was.inside in
    record {
      inside = was.inside;
      sized = was.sized;
      goes_on = λ e. let later = goes_on e in omega arith;
      ends = ends;
      what = given words p size old new i deleted taken content index word seen word_is ends goes_on was waits reads;
    }

-- ---- a word after which nothing is reported

quiet : (words : List ℕ) (p size : ℕ) (new : Separator) (i : ℕ) (deleted : Bool) (taken : ℕ) (content : List ℕ) (index : Bool) → IsGiven words p size new i deleted taken content index Nothing → IsReadingOn words p size new (i + 1) deleted taken content
quiet words p size new i deleted taken content true now = absurd (elim now.what [ inl h ↦ h.0 | inr h ↦ h.2 ])
quiet words p size new i deleted taken content false now = record {
  inside = now.goes_on refl;
  sized = now.sized;
  state =
      elim now.what [
        | inl h ↦ inl (h.0, h.1)
        | inr h ↦
            let over = h.2.0 in
            let count = h.3 in
            inr (h.0, h.1 + 1, record { reads = h.2.1; count = omega arith; bytes = h.4 })
      ];
}

impossible : (words : List ℕ) (p size : ℕ) (new : Separator) (i : ℕ) (deleted : Bool) (taken : ℕ) (content : List ℕ) (index : Bool) (seen : Seen) → ((fed : List ℕ) (b : Bool) → SWaitFed b fed p size new seen → ⊥) → ((fed : List ℕ) (b : Bool) (q passed : ℕ) → SReadFed b fed p q deleted size passed new seen → ⊥) → IsGiven words p size new i deleted taken content index seen → ⊥
impossible words p size new i deleted taken content index seen first second now =
    elim now.what [ inl h ↦ first (take (i + 1) words) index h.0 | inr h ↦ second (take (i + 1) words) index h.0 h.1 h.2 ]

no_mark : (p size : ℕ) (new : Separator) (fed : List ℕ) (b : Bool) → SWaitFed b fed p size new Mark → ⊥
no_mark p size new fed true h = h
no_mark p size new fed false h = h

no_mark_read : (p size : ℕ) (deleted : Bool) (new : Separator) (fed : List ℕ) (b : Bool) (q passed : ℕ) → SReadFed b fed p q deleted size passed new Mark → ⊥
no_mark_read p size deleted new fed true q passed h = h
no_mark_read p size deleted new fed false q passed h = h

no_address : (p size : ℕ) (key : Chrn) (new : Separator) (fed : List ℕ) (b : Bool) → SWaitFed b fed p size new (Address key) → ⊥
no_address p size key new fed true h = h
no_address p size key new fed false h = h

no_address_read : (p size : ℕ) (key : Chrn) (deleted : Bool) (new : Separator) (fed : List ℕ) (b : Bool) (q passed : ℕ) → SReadFed b fed p q deleted size passed new (Address key) → ⊥
no_address_read p size key deleted new fed true q passed h = h
no_address_read p size key deleted new fed false q passed h = h

pub reading_quiet : (words : List ℕ) (p size : ℕ) (new : Separator) (i : ℕ) (deleted : Bool) (taken : ℕ) (content : List ℕ) (index : Bool) (seen : Seen) → ((d : Bool) → seen ≡ Mode d → ⊥) → ((v : ℕ) → seen ≡ Byte v → ⊥) → ((g : Bool) → seen ≡ End g → ⊥) → (seen ≡ NoData → ⊥) → IsGiven words p size new i deleted taken content index seen → IsReadingOn words p size new (i + 1) deleted taken content
reading_quiet words p size new i deleted taken content index Nothing a b c d now = quiet words p size new i deleted taken content index now
reading_quiet words p size new i deleted taken content index Mark a b c d now = absurd (impossible words p size new i deleted taken content index Mark (no_mark p size new) (no_mark_read p size deleted new) now)
reading_quiet words p size new i deleted taken content index (Address key) a b c d now = absurd (impossible words p size new i deleted taken content index (Address key) (no_address p size key new) (no_address_read p size key deleted new) now)
reading_quiet words p size new i deleted taken content index (Mode m) a b c d now = absurd (a m refl)
reading_quiet words p size new i deleted taken content index (Byte v) a b c d now = absurd (b v refl)
reading_quiet words p size new i deleted taken content index (End g) a b c d now = absurd (c g refl)
reading_quiet words p size new i deleted taken content index NoData a b c d now = absurd (d refl)

-- ---- the data mark

mode_given : (words : List ℕ) (p size : ℕ) (new : Separator) (i : ℕ) (deleted mode : Bool) (taken : ℕ) (content : List ℕ) (index : Bool) → IsGiven words p size new i deleted taken content index (Mode mode) → IsReadingOn words p size new (i + 1) mode taken content
mode_given words p size new i deleted mode taken content true now = absurd (elim now.what [ inl h ↦ h.0 | inr h ↦ h.2 ])
mode_given words p size new i deleted mode taken content false now = record {
  inside = now.goes_on refl;
  sized = now.sized;
  state =
      elim now.what [
        | inl h ↦
            let none = h.1 in
            inr (h.0.0, 0, record { reads = h.0.1; count = omega arith; bytes = λ k less. absurd (omega arith) })
        | inr h ↦ absurd h.2
      ];
}

pub reading_mode : (words : List ℕ) (p size : ℕ) (new : Separator) (i : ℕ) (deleted mode : Bool) (taken : ℕ) (content : List ℕ) (index : Bool) (seen : Seen) → seen ≡ Mode mode → IsGiven words p size new i deleted taken content index seen → IsReadingOn words p size new (i + 1) mode taken content
reading_mode words p size new i deleted mode taken content index seen is now =
    mode_given words p size new i deleted mode taken content index (subst (IsGiven words p size new i deleted taken content index) is now)

-- ---- a byte

byte_given : (words : List ℕ) (p size : ℕ) (new : Separator) (i : ℕ) (deleted : Bool) (taken : ℕ) (content : List ℕ) (index : Bool) (value : ℕ) → IsGiven words p size new i deleted taken content index (Byte value) → (taken < size) × IsReadingOn words p size new (i + 1) deleted (taken + 1) (set content taken value)
byte_given words p size new i deleted taken content true value now = absurd (elim now.what [ inl h ↦ h.0 | inr h ↦ h.2 ])
byte_given words p size new i deleted taken content false value now =
    elim now.what [
      | inl h ↦ absurd h.0
      | inr h ↦
          let q = h.0 in
          let passed = h.1 in
          let less = h.2.0 in
          let count = h.3 in
          let within = now.inside in
          let sized = now.sized in
          let now_passed : taken ≡ passed = omega arith in
          let length_is : length (take (i + 1) words) ≡ i + 1 = length-take-le (i + 1) words (omega arith) in
          let reach = reads_within new (take (i + 1) words) p q deleted size (passed + 1) h.2.2 in
          let same = byte_stays (take (i + 1) words) words (first_words (i + 1) words (omega arith)) (q + 64 + 16 * passed) (omega arith) in
          let place : q + 64 + 16 * passed ≡ q + 64 + 16 * taken = omega arith in
          let here : value ≡ byte_at words (q + 64 + 16 * taken) = h.2.1 ∙ same ∙ ap (byte_at words) place in
          let fits : taken < length content = omega arith in (
            omega arith,
            record {
              inside = now.goes_on refl;
              sized = length-set content taken value ∙ now.sized;
              state = inr (
                q,
                passed + 1,
                record {
                  reads = h.2.2;
                  count = omega arith;
                  bytes = λ k l.
                      elim (cases_lt k taken) [
                        | inl before ↦ get_or-set_other content taken k value 0 (λ e. omega arith) ∙ h.4 k before
                        | inr at ↦ let e : k ≡ taken = omega arith in ap (λ j. get_or (set content taken value) j 0) e ∙ get_or-set_same content taken value 0 fits ∙ here ∙ ap (λ j. byte_at words (q + 64 + 16 * j)) (sym e)
                      ];
                },
              );
            },
          )
    ]

pub reading_byte : (words : List ℕ) (p size : ℕ) (new : Separator) (i : ℕ) (deleted : Bool) (taken : ℕ) (content : List ℕ) (index : Bool) (value : ℕ) (seen : Seen) → seen ≡ Byte value → IsGiven words p size new i deleted taken content index seen → (taken < size) × IsReadingOn words p size new (i + 1) deleted (taken + 1) (set content taken value)
reading_byte words p size new i deleted taken content index value seen is now =
    byte_given words p size new i deleted taken content index value (subst (IsGiven words p size new i deleted taken content index) is now)

-- ---- the end

end_given : (words : List ℕ) (p n size : ℕ) (new : Separator) (i : ℕ) (deleted : Bool) (taken : ℕ) (content : List ℕ) (index good : Bool) → IsSizeCode n → size ≡ content_size n → IsGiven words p size new i deleted taken content index (End good) → (q : ℕ) × LookAt words p n (look_of good deleted (q + 64)) × (content ≡ content_at words (q + 64) n)
end_given words p n size new i deleted taken content index good coded sized now =
    elim now.what [
      | inl h ↦ absurd (never index h.0)
      | inr h ↦
          let q = h.0 in
          let passed = h.1 in
          let what = over index q passed h.2 in
          let count = h.3 in
          let inside = now.inside in
          let last = what.0 in
          let all : taken ≡ size = omega arith in
          let long : length content ≡ content_size n = now.sized ∙ sized in (
            q,
            field_stays (take (i + 1) words) words (first_words (i + 1) words (omega arith)) p q n size deleted good coded sized what.1 what.2,
            ext_get_or 0 content (content_at words (q + 64) n) (long ∙ sym (length-map-range_with_len (λ k. byte_at words (q + 64 + 16 * k)) 0 (content_size n)))
                (λ k l. h.4 k (omega arith) ∙ sym (get_or-map-range_with_len (λ j. byte_at words (q + 64 + 16 * j)) 0 (content_size n) k k 0 (omega arith) (omega arith))),
          )
    ]
  where
    never : (b : Bool) → SWaitFed b (take (i + 1) words) p size new (End good) → ⊥
    never true h = h
    never false h = h

    over : (b : Bool) (q passed : ℕ) → SReadFed b (take (i + 1) words) p q deleted size passed new (End good) → (passed ≡ size + 1) × HasEnded (take (i + 1) words) p q deleted size × TellsWhole (take (i + 1) words) q size good
    over true q passed h = h
    over false q passed h = (h.0, h.1, h.2)

pub reading_end : (words : List ℕ) (p n size : ℕ) (new : Separator) (i : ℕ) (deleted : Bool) (taken : ℕ) (content : List ℕ) (index good : Bool) (seen : Seen) → seen ≡ End good → IsSizeCode n → size ≡ content_size n → IsGiven words p size new i deleted taken content index seen → (q : ℕ) × LookAt words p n (look_of good deleted (q + 64)) × (content ≡ content_at words (q + 64) n)
reading_end words p n size new i deleted taken content index good seen is coded sized now =
    end_given words p n size new i deleted taken content index good coded sized (subst (IsGiven words p size new i deleted taken content index) is now)

-- ---- no data

none_given : (words : List ℕ) (p n size : ℕ) (new : Separator) (i : ℕ) (deleted : Bool) (taken : ℕ) (content : List ℕ) (index : Bool) → size ≡ content_size n → IsGiven words p size new i deleted taken content index NoData → LookAt words p n look.NoData
none_given words p n size new i deleted taken content true sized now =
    let all : take (i + 1) words ≡ words = take_all (i + 1) words (let e = now.ends refl in omega arith) in
    let cut : IsUnfinished (take (i + 1) words) p size = elim now.what [ inl h ↦ h.0 | inr h ↦ h.2 ] in
    unfinished_is_no_data words p n size sized (subst (λ fed. IsUnfinished fed p size) all cut)
none_given words p n size new i deleted taken content false sized now =
    let inside = now.inside in
    elim now.what [
      | inl h ↦ no_data_stays (take (i + 1) words) words (first_words (i + 1) words (omega arith)) p n h.0.0
      | inr h ↦ absurd h.2
    ]

pub reading_none : (words : List ℕ) (p n size : ℕ) (new : Separator) (i : ℕ) (deleted : Bool) (taken : ℕ) (content : List ℕ) (index : Bool) (seen : Seen) → seen ≡ NoData → size ≡ content_size n → IsGiven words p size new i deleted taken content index seen → LookAt words p n look.NoData
reading_none words p n size new i deleted taken content index seen is sized now =
    none_given words p n size new i deleted taken content index sized (subst (IsGiven words p size new i deleted taken content index) is now)

-- the state is the same after a branch if what the branch may change is the same
pub changed : (words : List ℕ) (p size : ℕ) (separator : Separator) (i : ℕ) (d e : Bool) (t u : ℕ) (a b : List ℕ) → e ≡ d → u ≡ t → b ≡ a → IsReadingOn words p size separator i d t a → IsReadingOn words p size separator i e u b
changed words p size separator i d e t u a b same count content h =
    let One : Bool → Type 0 = λ m. IsReadingOn words p size separator i m t a in
    let Two : ℕ → Type 0 = λ k. IsReadingOn words p size separator i e k a in
    let Three : List ℕ → Type 0 = λ c. IsReadingOn words p size separator i e u c in
    subst Three (sym content) (subst Two (sym count) (subst One (sym same) h))
