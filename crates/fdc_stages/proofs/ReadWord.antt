-- A word heard while a data mark is awaited or a data field is read.
use Rattle.std.proofs.Common.{◌≡◌, ℕ, ◌+◌, ◌*◌, ◌≤◌, Bool, true, false, List, [], ◌∷◌, ◌++◌, length, min, refl, sym, ap, subst, ◌∙◌, arith, inl, inr}
use Rattle.fdc_stages.proofs.Common.{false≢true, Chrn, bytes_at, content_size, Seen, Nothing, Mark, Address, Mode, End, NoData, Separator, with_word, SWaits, SReads, SWaitFed, SReadFed, part_with_word, address_stays, bytes_stay, unfinished_is_no_data, late_is_no_data, reads_within, NoField, Search, Wait, Content, Over, Past, heard, IsJustOver, IsMet, IsMetAt, IsWaitingAt, IsContentAt, IsFieldOver, IsReading, HasRead}
use Rattle.track_model.proofs.Places.{bytes_at-more}
use Rattle.track_separator.specs.declared.state.Seen.TheVariants.{Byte}
use Rattle.fdc_stages.specs.declared.searching.Search as searched
use Rattle.fdc_stages.proofs.Lawful.{last_heard, told_stays, content_told}

-- the revolution that is over if an index pulse follows the word
ended_turn : (past : Past) (word : ℕ) → IsJustOver (heard true word past) (with_word past.seen word)
ended_turn past word = record { earlier = past.turns; last = refl; nothing = refl }

-- ---- an address field was met

same_search : (a b : searched.Search) → Search a ≡ Search b → a ≡ b
same_search a b e = cc

pub same_separator : (a b : searched.Search) → Search a ≡ Search b → a.separator ≡ b.separator
same_separator a b e = ap (λ (s : searched.Search). s.separator) (same_search a b e)

-- the index pulse followed the address field
pub met_over : (index : Bool) (past : Past) (key : Chrn) (separator : Separator) → index ≡ true → IsMet index past key separator → HasRead past key [] NoField
met_over true past key separator is (turn, p, met) = record {
  bytes = inl refl;
  cause = inl (turn, p, record { over = met.over; address = met.address; none = late_is_no_data turn p key.n met.ends });
}
met_over false past key separator is met = absurd (false≢true is)

-- the revolution of the address field goes on
pub met_within : (index : Bool) (past : Past) (key : Chrn) (separator waiting : Separator) → index ≡ false → ((p : ℕ) → IsMetAt past key separator p → SWaits waiting past.seen p (content_size key.n)) → IsMet index past key separator → IsReading past key [] (Wait waiting)
met_within false past key separator waiting is waits (p, met) = ((p, record { address = met.address; waits = waits p met; few = met.few }), refl)
met_within true past key separator waiting is waits met = absurd (false≢true (sym is))

-- ---- a data mark is awaited

module _ (past : Past) (key : Chrn) (word p : ℕ) (before now : Separator) (was : IsWaitingAt past key before p) where
  waited_mode : (index deleted : Bool) → SWaitFed index (with_word past.seen word) p (content_size key.n) now (Mode deleted) → IsReading (heard index word past) key [] (Content now deleted)
  waited_mode false deleted (q, reads) =
      let nothing : 0 ≡ min 0 (content_size key.n) = omega arith in
      (p, q, 0, record { address = address_stays past.seen (with_word past.seen word) (part_with_word past.seen word) p key was.address; reads = reads; bytes = ap (bytes_at (with_word past.seen word) (q + 64)) nothing; few = was.few })
  waited_mode true deleted given = absurd given

  waited_none : (index : Bool) → SWaitFed index (with_word past.seen word) p (content_size key.n) now NoData → HasRead (heard index word past) key [] NoField
  waited_none false (none, reach, hunts) = record {
    bytes = inl refl;
    cause = inr (p, record { address = address_stays past.seen (with_word past.seen word) (part_with_word past.seen word) p key was.address; none = none; reach = reach });
  }
  waited_none true cut = record {
    bytes = inl refl;
    cause = inl (
      (with_word past.seen word),
      p,
      record {
        over = ended_turn past word;
        address = address_stays past.seen (with_word past.seen word) (part_with_word past.seen word) p key was.address;
        none = unfinished_is_no_data (with_word past.seen word) p key.n (content_size key.n) refl cut;
      },
    );
  }

  waited_on : (index : Bool) (event : Seen) → ((deleted : Bool) → event ≡ Mode deleted → ⊥) → (event ≡ NoData → ⊥) → SWaitFed index (with_word past.seen word) p (content_size key.n) now event → IsReading (heard index word past) key [] (Wait now)
  waited_on false Nothing mode none waits = ((p, record { address = address_stays past.seen (with_word past.seen word) (part_with_word past.seen word) p key was.address; waits = waits; few = was.few }), refl)
  waited_on index (Mode deleted) mode none given = absurd (mode deleted refl)
  waited_on index NoData mode none given = absurd (none refl)
  waited_on _ _ mode none given = absurd given

pub wait_mode : (past : Past) (key : Chrn) (word p : ℕ) (before now : Separator) (index deleted : Bool) (event : Seen) → event ≡ Mode deleted → IsWaitingAt past key before p → SWaitFed index (with_word past.seen word) p (content_size key.n) now event → IsReading (heard index word past) key [] (Content now deleted)
wait_mode past key word p before now index deleted event is was given =
    waited_mode past key word p before now was index deleted (subst (SWaitFed index (with_word past.seen word) p (content_size key.n) now) is given)

pub wait_none : (past : Past) (key : Chrn) (word p : ℕ) (before now : Separator) (index : Bool) (event : Seen) → event ≡ NoData → IsWaitingAt past key before p → SWaitFed index (with_word past.seen word) p (content_size key.n) now event → HasRead (heard index word past) key [] NoField
wait_none past key word p before now index event is was given =
    waited_none past key word p before now was index (subst (SWaitFed index (with_word past.seen word) p (content_size key.n) now) is given)

pub wait_goes_on : (past : Past) (key : Chrn) (word p : ℕ) (before now : Separator) (index : Bool) (event : Seen) → ((deleted : Bool) → event ≡ Mode deleted → ⊥) → (event ≡ NoData → ⊥) → IsWaitingAt past key before p → SWaitFed index (with_word past.seen word) p (content_size key.n) now event → IsReading (heard index word past) key [] (Wait now)
wait_goes_on past key word p before now index event mode none was given = waited_on past key word p before now was index event mode none given

-- ---- a data field is read

module _ (past : Past) (key : Chrn) (told : List ℕ) (word p q taken : ℕ) (deleted : Bool) (before now : Separator) (was : IsContentAt past key told before deleted p q taken) where
  within : q + 64 + 16 * taken ≤ 16 * length past.seen
  within = reads_within before past.seen p q deleted (content_size key.n) taken was.reads

  -- the bytes reported also stand in the revolution with one word more
  told_so_far : told ≡ bytes_at (with_word past.seen word) (q + 64) (min taken (content_size key.n))
  told_so_far = let reach = within in was.bytes ∙ bytes_stay past.seen (with_word past.seen word) (part_with_word past.seen word) (q + 64) (min taken (content_size key.n)) (omega arith)

  read_byte : (index : Bool) (value : ℕ) → SReadFed index (with_word past.seen word) p q deleted (content_size key.n) taken now (Byte value) → IsReading (heard index word past) key (told ++ value ∷ []) (Content now deleted)
  read_byte true value given = absurd given
  read_byte false value (less, is, reads) =
      let now_size : min taken (content_size key.n) ≡ taken = omega arith in
      let after : min (taken + 1) (content_size key.n) ≡ taken + 1 = omega arith in
      let so_far : told ≡ bytes_at (with_word past.seen word) (q + 64) taken = told_so_far ∙ ap (bytes_at (with_word past.seen word) (q + 64)) now_size in (
        p,
        q,
        taken + 1,
        record {
          address = address_stays past.seen (with_word past.seen word) (part_with_word past.seen word) p key was.address;
          reads = reads;
          bytes = ap (λ bytes. bytes ++ value ∷ []) so_far ∙ ap (λ byte. bytes_at (with_word past.seen word) (q + 64) taken ++ byte ∷ []) is ∙ sym (bytes_at-more (with_word past.seen word) (q + 64) taken) ∙ ap (bytes_at (with_word past.seen word) (q + 64)) (sym after);
          few = was.few;
        },
      )

  read_quiet : (index : Bool) → SReadFed index (with_word past.seen word) p q deleted (content_size key.n) taken now Nothing → IsReading (heard index word past) key told (Content now deleted)
  read_quiet true given = absurd given
  read_quiet false (is, reads) =
      let same : min taken (content_size key.n) ≡ min (taken + 1) (content_size key.n) = omega arith in (
        p,
        q,
        taken + 1,
        record {
          address = address_stays past.seen (with_word past.seen word) (part_with_word past.seen word) p key was.address;
          reads = reads;
          bytes = told_so_far ∙ ap (bytes_at (with_word past.seen word) (q + 64)) same;
          few = was.few;
        },
      )

  field_of : (good : Bool) → SReadFed true (with_word past.seen word) p q deleted (content_size key.n) taken now (End good) → IsFieldOver (with_word past.seen word) key told deleted good p q
  field_of good (is, ended, tells) =
      let full : min taken (content_size key.n) ≡ (content_size key.n) = omega arith in
      record {
        address = address_stays past.seen (with_word past.seen word) (part_with_word past.seen word) p key was.address;
        ended = ended;
        tells = tells;
        bytes = told_so_far ∙ ap (bytes_at (with_word past.seen word) (q + 64)) full;
      }

  read_end : (index good : Bool) → SReadFed index (with_word past.seen word) p q deleted (content_size key.n) taken now (End good) → IsReading (heard index word past) key told (Over deleted good)
  read_end true good given = ((with_word past.seen word), last_heard true word past, (p, q, field_of good given))
  read_end false good (is, ended, tells, hunts) = ((with_word past.seen word), last_heard false word past, (p, q, field_of good (is, ended, tells)))

  read_cut : (index : Bool) → SReadFed index (with_word past.seen word) p q deleted (content_size key.n) taken now NoData → HasRead (heard index word past) key told NoField
  read_cut false given = absurd given
  read_cut true cut = record {
    bytes = told_stays true word past key told (content_told past key told before deleted p q taken was);
    cause = inl (
      (with_word past.seen word),
      p,
      record {
        over = ended_turn past word;
        address = address_stays past.seen (with_word past.seen word) (part_with_word past.seen word) p key was.address;
        none = unfinished_is_no_data (with_word past.seen word) p key.n (content_size key.n) refl cut;
      },
    );
  }

  read_on : (index : Bool) (event : Seen) → ((value : ℕ) → event ≡ Byte value → ⊥) → ((good : Bool) → event ≡ End good → ⊥) → (event ≡ NoData → ⊥) → SReadFed index (with_word past.seen word) p q deleted (content_size key.n) taken now event → IsReading (heard index word past) key told (Content now deleted)
  read_on index Nothing byte ends none given = read_quiet index given
  read_on false Mark byte ends none given = absurd given
  read_on true Mark byte ends none given = absurd given
  read_on false (Address other) byte ends none given = absurd given
  read_on true (Address other) byte ends none given = absurd given
  read_on false (Mode other) byte ends none given = absurd given
  read_on true (Mode other) byte ends none given = absurd given
  read_on index (Byte value) byte ends none given = absurd (byte value refl)
  read_on index (End good) byte ends none given = absurd (ends good refl)
  read_on index NoData byte ends none given = absurd (none refl)

module _ (past : Past) (key : Chrn) (told : List ℕ) (word p q taken : ℕ) (deleted : Bool) (before now : Separator) (index : Bool) (event : Seen) (was : IsContentAt past key told before deleted p q taken) (given : SReadFed index (with_word past.seen word) p q deleted (content_size key.n) taken now event) where
  pub content_byte : (value : ℕ) → event ≡ Byte value → IsReading (heard index word past) key (told ++ value ∷ []) (Content now deleted)
  content_byte value is = read_byte past key told word p q taken deleted before now was index value (subst (SReadFed index (with_word past.seen word) p q deleted (content_size key.n) taken now) is given)

  pub content_end : (good : Bool) → event ≡ End good → IsReading (heard index word past) key told (Over deleted good)
  content_end good is = read_end past key told word p q taken deleted before now was index good (subst (SReadFed index (with_word past.seen word) p q deleted (content_size key.n) taken now) is given)

  pub content_none : event ≡ NoData → HasRead (heard index word past) key told NoField
  content_none is = read_cut past key told word p q taken deleted before now was index (subst (SReadFed index (with_word past.seen word) p q deleted (content_size key.n) taken now) is given)

  pub content_goes_on : ((value : ℕ) → event ≡ Byte value → ⊥) → ((good : Bool) → event ≡ End good → ⊥) → (event ≡ NoData → ⊥) → IsReading (heard index word past) key told (Content now deleted)
  content_goes_on byte ends none = read_on past key told word p q taken deleted before now was index event byte ends none given

-- ---- the laws above, for a reading at its stage

module _ (index : Bool) (past : Past) (word : ℕ) (key : Chrn) (told : List ℕ) (before now : Separator) (event : Seen) where
  module _ (was : IsReading past key told (Wait before)) (fed : (p : ℕ) → SWaits before past.seen p (content_size key.n) → SWaitFed index (with_word past.seen word) p (content_size key.n) now event) where
    pub mode_heard : (deleted : Bool) → event ≡ Mode deleted → IsReading (heard index word past) key told (Content now deleted)
    mode_heard deleted is =
        let at = was.0 in
        subst (λ told. IsReading (heard index word past) key told (Content now deleted)) (sym was.1) (wait_mode past key word at.0 before now index deleted event is at.1 (fed at.0 at.1.waits))

    pub none_heard : event ≡ NoData → HasRead (heard index word past) key told NoField
    none_heard is =
        let at = was.0 in
        subst (λ told. HasRead (heard index word past) key told NoField) (sym was.1) (wait_none past key word at.0 before now index event is at.1 (fed at.0 at.1.waits))

    pub wait_heard : ((deleted : Bool) → event ≡ Mode deleted → ⊥) → (event ≡ NoData → ⊥) → IsReading (heard index word past) key told (Wait now)
    wait_heard mode none =
        let at = was.0 in
        subst (λ told. IsReading (heard index word past) key told (Wait now)) (sym was.1) (wait_goes_on past key word at.0 before now index event mode none at.1 (fed at.0 at.1.waits))

  module _ (deleted : Bool) (was : IsReading past key told (Content before deleted)) (fed : (p q taken : ℕ) → SReads before past.seen p q deleted (content_size key.n) taken → SReadFed index (with_word past.seen word) p q deleted (content_size key.n) taken now event) where
    pub byte_heard : (value : ℕ) → event ≡ Byte value → IsReading (heard index word past) key (told ++ value ∷ []) (Content now deleted)
    byte_heard value is = content_byte past key told word was.0 was.1 was.2 deleted before now index event was.3 (fed was.0 was.1 was.2 was.3.reads) value is

    pub end_heard : (good : Bool) → event ≡ End good → IsReading (heard index word past) key told (Over deleted good)
    end_heard good is = content_end past key told word was.0 was.1 was.2 deleted before now index event was.3 (fed was.0 was.1 was.2 was.3.reads) good is

    pub cut_heard : event ≡ NoData → HasRead (heard index word past) key told NoField
    cut_heard is = content_none past key told word was.0 was.1 was.2 deleted before now index event was.3 (fed was.0 was.1 was.2 was.3.reads) is

    pub content_heard : ((value : ℕ) → event ≡ Byte value → ⊥) → ((good : Bool) → event ≡ End good → ⊥) → (event ≡ NoData → ⊥) → IsReading (heard index word past) key told (Content now deleted)
    content_heard byte ends none = content_goes_on past key told word was.0 was.1 was.2 deleted before now index event was.3 (fed was.0 was.1 was.2 was.3.reads) byte ends none
