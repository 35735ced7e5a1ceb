-- How long a READ ID and a READ DATA surely leave both lines as they are.
use Rattle.std.proofs.Common.{◌≡◌, ◌≤◌, ◌<◌, ◌+◌, ◌-◌, ℕ, zero, suc, Bool, true, false, ◌==◌, List, [], ◌∷◌, ◌++◌, length, take, None, Some, refl, sym, ap, subst, ◌∙◌, inl, inr, arith, length-append, length-take-le}
use Rattle.fdc_core.proofs.Common.{AreAhead, DriveState, InRange, rate_of, Chrn, IsDataMark, content_size, Separator, IsPart, with_word, address_stays, data_mark_stays, part_with_word, reads_mark, Fifo, room_of, wants, Past, heard, HasMark, HasRead, IsBareField, IsContent, IsFailure, IsReading, KeepsMark, ReadOutcome, mark_at, IsSearching, Ending, Done, NoMark, NoSector, NoField, BadCheck, Overrun, NoCount, Protected, Late, ReadStage, Search, over_full, Sent, MayReadIdIn, MayReadIdTask, MayReadIn, MayReadTask, MayWriteIn, MayWriteTask, MayFormatIn, MayFormatTask, Numbers, head_of, rate_fits, Execution, Execute, ReadId, Read, Reading, HasRoom, with_bytes, IsQuiet, StageHears, StepsOn, Foresees, HasBytesLeft, HasNoneWanted, HasSingle, IsCertain, IsCertainOf, IsQuietBy, IsUnmarked, MarksNothing, MayBeMarked, MeetsNothing, past_with, after_heard, after_searched, at_stage, gone_on_reading, is_full, Fdc}
use Rattle.fdc_core.proofs.Coursing.{id_at}
use Rattle.fdc_core.proofs.Foreseeing.{EachGoesOnWith, GoesOnWith, calm_told, hears_ahead, quiet_by, some_words}
use Rattle.fdc_core.proofs.Quieting.{begins_part, first_none, first_unmarked, plain_none, plain_unmarked, reads_on, searches_on, some_none, some_seen}
use Rattle.fdc_core.proofs.Taking.{by_space, content_at, content_goes_on, not_full, room_behind, room_down, with_none}
use Rattle.fdc_core.proofs.Words.{at_reading}
use Rattle.fdc_stages.specs.Readings as given
use Rattle.fdc_stages.specs.declared.reading.ReadStage.TheVariants as stages

-- ---- READ ID

-- a search for any address field
abbrev pub IsSearchingAny : ℕ → Past → Search → Type 0
IsSearchingAny left past search = IsSearching past None search

module _ (head_drive : ℕ) (old : Fdc) (quiet : IsQuiet old) where
  id_next : (steps word : ℕ) (search : Search) (past : Past) (new : Fdc) → steps < 65535 → IsSearching past None search → HasNoneWanted None (with_word past.seen word) → StepsOn head_drive steps (ReadId search) false word (id_at head_drive old steps search) new
      → GoesOnWith (id_at head_drive old (steps + 1)) (IsSearchingAny 0) (heard false word past) new
  id_next steps word search past new few was none (inl (last, is)) = absurd (omega (arith, few, last))
  id_next steps word search past new few was none (inr (below, (searched, hears, is))) =
      let (next, on, searches) = searches_on past word search none was searched hears in
      let goes : id_at head_drive old (steps + 1) next ≡ after_searched head_drive (steps + 1) searched (id_at head_drive old steps search) =
      ap (λ asking. record (id_at head_drive old (steps + 1) next) { asking = asking }) quiet.down ∙ sym (ap (λ outcome. after_searched head_drive (steps + 1) outcome (id_at head_drive old steps search)) on) in
      record { next = next; is = is ∙ sym goes; stands = searches }

  pub id_goes_on : EachGoesOnWith (id_at head_drive old) IsSearchingAny (HasNoneWanted None) 0 (head_of head_drive) old.rate
  id_goes_on steps word left search past new before after least few was none no_index under calm fits works =
      let step = hears_ahead (id_at head_drive old steps search) new before after head_drive steps word (ReadId search) quiet.due refl refl no_index under calm fits works in
      let on = id_next steps word search past new few was none step.does in
      (step.passes, record { next = on.next; is = on.is; stands = on.stands })

-- ---- READ DATA before its data mark

-- READ DATA at a stage, after `steps` device steps
abbrev pub stage_at : ℕ → Reading → Fdc → ℕ → ReadStage → Fdc
stage_at head_drive reading old steps stage = at_reading head_drive steps (at_stage reading stage) old

abbrev pub AwaitsMark : Chrn → ℕ → Past → ReadStage → Type 0
AwaitsMark key left past stage = IsUnmarked past key stage

module _ (head_drive : ℕ) (reading : Reading) (old : Fdc) (quiet : IsQuiet old) (low : wants true false false old.fifo ≡ false) where
  keeps : old.asking ≡ wants true old.asking false old.fifo
  keeps = quiet.down ∙ sym low ∙ ap (λ asking. wants true asking false old.fifo) (sym quiet.down)

  -- a step in which no byte comes, and DRQ stays down
  goes_unmarked : (before steps : ℕ) (stage next : ReadStage) → mark_at next ≡ None → stage_at head_drive reading old steps next ≡ gone_on_reading head_drive steps (at_stage reading next) (stage_at head_drive reading old before stage)
  goes_unmarked before steps stage (stages.Search search) none = ap (λ asking. record (stage_at head_drive reading old steps (stages.Search search)) { asking = asking }) keeps
  goes_unmarked before steps stage (stages.Wait separator) none = ap (λ asking. record (stage_at head_drive reading old steps (stages.Wait separator)) { asking = asking }) keeps
  goes_unmarked before steps stage _ none = absurd (some_none none)

  await_next : (steps word : ℕ) (stage : ReadStage) (past : Past) (new : Fdc) → steps < 65535 → IsUnmarked past reading.wanted.key stage → MayBeMarked reading.wanted.key (with_word past.seen word)
      → StepsOn head_drive steps (Read (at_stage reading stage)) false word (stage_at head_drive reading old steps stage) new → GoesOnWith (stage_at head_drive reading old (steps + 1)) (AwaitsMark reading.wanted.key 0) (heard false word past) new
  await_next steps word stage past new few was none (inl (last, is)) = absurd (omega (arith, few, last))
  await_next steps word stage past new few was none (inr (below, (outcome, hears, is))) =
      let (next, on, stands) = reads_on past reading.wanted.key word stage none was outcome hears in
      let goes : after_heard head_drive (steps + 1) (at_stage reading stage) outcome (stage_at head_drive reading old steps stage) ≡ stage_at head_drive reading old (steps + 1) next =
      ap (λ heard. after_heard head_drive (steps + 1) (at_stage reading stage) heard (stage_at head_drive reading old steps stage)) on ∙ sym (goes_unmarked steps (steps + 1) stage next stands.1) in
      record { next = next; is = is ∙ goes; stands = stands }

  pub awaits_on : EachGoesOnWith (stage_at head_drive reading old) (AwaitsMark reading.wanted.key) (MayBeMarked reading.wanted.key) 0 (head_of head_drive) old.rate
  awaits_on steps word left stage past new before after least few was none no_index under calm fits works =
      let step = hears_ahead (stage_at head_drive reading old steps stage) new before after head_drive steps word (Read (at_stage reading stage)) quiet.due refl refl no_index under calm fits works in
      let on = await_next steps word stage past new few was none step.does in
      (step.passes, record { next = on.next; is = on.is; stands = on.stands })

-- ---- READ DATA in its content

-- the stage, the FIFO, and the bytes that were decoded
pub record ContentState : Type 0 where
  pub stage : ReadStage
  pub fifo : Fifo
  pub told : List ℕ

-- so many bytes may still come, with which DRQ stays down and the field isn't over
pub record IsInContent (key : Chrn) (counted deleted : Bool) (left : ℕ) (past : Past) (now : ContentState) : Type 0 where
  pub reads : IsReading past key now.told now.stage
  pub content : IsContent now.stage
  pub mark : mark_at now.stage ≡ Some deleted
  pub room : HasRoom left counted now.fifo
  pub few : length now.told + left + 1 ≤ content_size key.n

kept : (deleted : Bool) (stage : ReadStage) (after : ReadOutcome) → IsContent stage → mark_at stage ≡ Some deleted → KeepsMark stage after → HasMark deleted after
kept deleted (stages.Content separator now) (given.On next) content mark same = same ∙ mark
kept deleted (stages.Content separator now) (given.Byte next value) content mark same = same ∙ mark
kept deleted (stages.Content separator now) (given.Ended ending) content mark same = tt
kept deleted _ after content mark same = absurd content

-- a field whose content isn't whole is read on
still_content : (past : Past) (key : Chrn) (told : List ℕ) (deleted : Bool) (stage : ReadStage) → mark_at stage ≡ Some deleted → IsReading past key told stage → length told + 1 ≤ content_size key.n → IsContent stage
still_content past key told deleted (stages.Content separator now) mark reads few = tt
still_content past key told deleted (stages.Over now good) mark reads few =
    let full = over_full past key told now good reads in
    absurd (omega (arith, full, few))
still_content past key told deleted _ mark reads few = absurd (some_none (sym mark))

-- its address field has a data mark, so that it doesn't end without a field
module _ (past : Past) (key : Chrn) (word : ℕ) (told : List ℕ) (single : HasSingle key (with_word past.seen word)) where
  abbrev later : Past
  later = heard false word past

  has_mark : (stage : ReadStage) (p : ℕ) → IsContent stage → IsReading past key told stage → IsBareField later key p → ⊥
  has_mark (stages.Content separator deleted) p content (r, q, taken, at) bare =
      let part = part_with_word past.seen word in
      let same : r ≡ p = single r p (address_stays past.seen later.seen part r key at.address) bare.address in
      let mark = data_mark_stays past.seen later.seen part r q deleted (reads_mark separator past.seen r q deleted (content_size key.n) taken at.reads).mark in
      bare.none.none q deleted (subst (λ k. IsDataMark later.seen k q deleted) same mark)
  has_mark _ p content reads bare = content

  fails_never : (stage : ReadStage) (ending : Ending) → IsContent stage → IsReading past key told stage → HasRead later key told ending → IsFailure ending → ⊥
  fails_never stage NoMark content reads read fails = some_seen past.seen word read.cause.0.is.nothing
  fails_never stage NoSector content reads read fails = some_seen past.seen word read.cause.0.is.nothing
  fails_never stage NoField content reads read fails = elim read.cause [
    | inl (turn, p, cut) ↦ some_seen past.seen word cut.over.nothing
    | inr (p, bare) ↦ has_mark stage p content reads bare
  ]
  fails_never stage (Done deleted) content reads read fails = absurd fails
  fails_never stage BadCheck content reads read fails = absurd fails
  fails_never stage Overrun content reads read fails = absurd fails
  fails_never stage NoCount content reads read fails = absurd fails
  fails_never stage Protected content reads read fails = absurd fails
  fails_never stage Late content reads read fails = absurd fails

-- READ DATA in its content, after `steps` device steps
abbrev pub taken_at : ℕ → Reading → Fdc → ℕ → ContentState → Fdc
taken_at head_drive reading old steps now = content_at head_drive reading old steps now.stage now.fifo

module _ (head_drive : ℕ) (reading : Reading) (old : Fdc) (quiet : IsQuiet old) (deleted : Bool) where
  content_next : (steps word left : ℕ) (now : ContentState) (past : Past) (new : Fdc) (outcome : ReadOutcome) → IsInContent reading.wanted.key reading.counted deleted (suc left) past now → HasSingle reading.wanted.key (with_word past.seen word)
      → StageHears reading.wanted.key false word now.stage outcome → new ≡ after_heard head_drive (steps + 1) (at_stage reading now.stage) outcome (taken_at head_drive reading old steps now)
      → GoesOnWith (taken_at head_drive reading old (steps + 1)) (IsInContent reading.wanted.key reading.counted deleted left) (heard false word past) new
  content_next steps word left now past new (given.On next) was single hears is =
      let key : Chrn = reading.wanted.key in
      let at : Fdc = taken_at head_drive reading old steps now in
      let reads : IsReading (heard false word past) key now.told next = hears.0 past now.told was.reads in
      let mark : mark_at next ≡ Some deleted = kept deleted now.stage (given.On next) was.content was.mark hears.2 in
      let few = was.few in
      let content : IsContent next = still_content (heard false word past) key now.told deleted next mark reads (omega (arith, few)) in
      let low : wants true false false now.fifo ≡ false = subst (λ fifo. wants true false false fifo ≡ false) (with_none reading.counted now.fifo) (was.room.quiet [] (omega arith)) in
      record {
        next = record now { stage = next };
        is = is ∙ sym (content_goes_on head_drive (steps + 1) reading next at content quiet.down low);
        stands = record { reads = reads; content = content; mark = mark; room = room_down (suc left) left reading.counted now.fifo (omega arith) was.room; few = omega (arith, few) };
      }
  content_next steps word left now past new (given.Byte next value) was single hears is =
      let key : Chrn = reading.wanted.key in
      let at : Fdc = taken_at head_drive reading old steps now in
      let told : List ℕ = now.told ++ value ∷ [] in
      let size : length told ≡ length now.told + 1 = length-append now.told (value ∷ []) in
      let reads : IsReading (heard false word past) key told next = hears.0 past now.told was.reads in
      let mark : mark_at next ≡ Some deleted = kept deleted now.stage (given.Byte next value) was.content was.mark hears.2 in
      let few = was.few in
      let content : IsContent next = still_content (heard false word past) key told deleted next mark reads (omega (arith, few, size)) in
      let space : reading.counted ≡ false → (length now.fifo.bytes == room_of now.fifo.on) ≡ false = λ uncounted. not_full now.fifo (let all = was.room.space uncounted in omega (arith, all)) in
      record {
        next = record { stage = next; fifo = with_bytes reading.counted (value ∷ []) now.fifo; told = told };
        is = is ∙ sym (by_space reading.counted (is_full at) head_drive (steps + 1) value reading next at space content quiet.down (was.room.quiet (value ∷ []) (omega arith)));
        stands = record { reads = reads; content = content; mark = mark; room = room_behind left value reading.counted now.fifo was.room; few = omega (arith, few, size) };
      }
  content_next steps word left now past new (given.Ended ending) was single hears is =
      absurd (fails_never past reading.wanted.key word now.told single now.stage ending was.content was.reads (hears.0 past now.told was.reads) hears.1)

  stays_content : (steps word left : ℕ) (now : ContentState) (past : Past) (new : Fdc) → steps < 65535 → IsInContent reading.wanted.key reading.counted deleted (suc left) past now → HasSingle reading.wanted.key (with_word past.seen word)
      → StepsOn head_drive steps (Read (at_stage reading now.stage)) false word (taken_at head_drive reading old steps now) new → GoesOnWith (taken_at head_drive reading old (steps + 1)) (IsInContent reading.wanted.key reading.counted deleted left) (heard false word past) new
  stays_content steps word left now past new few was single (inl (last, is)) = absurd (omega (arith, few, last))
  stays_content steps word left now past new few was single (inr (below, (outcome, hears, is))) = content_next steps word left now past new outcome was single hears is

  pub content_goes : EachGoesOnWith (taken_at head_drive reading old) (IsInContent reading.wanted.key reading.counted deleted) (HasSingle reading.wanted.key) 0 (head_of head_drive) old.rate
  content_goes steps word left now past new before after least few was single no_index under calm fits works =
      let step = hears_ahead (taken_at head_drive reading old steps now) new before after head_drive steps word (Read (at_stage reading now.stage)) quiet.due refl refl no_index under calm fits works in
      (step.passes, stays_content steps word left now past new few was single step.does)

-- ---- what is foreseen

-- a key is in the first of the words once, too
first_single : (key : Chrn) (first rest whole : List ℕ) → first ++ rest ≡ whole → HasSingle key whole → HasSingle key first
first_single key first rest whole is single p q one other =
    let part : IsPart first whole = subst (λ words. IsPart first words) is (begins_part first rest) in
    single p q (address_stays first whole part p key one) (address_stays first whole part q key other)

-- before the data mark no byte is decoded
pub told_nothing : (past : Past) (key : Chrn) (told : List ℕ) (stage : ReadStage) → mark_at stage ≡ None → IsReading past key told stage → told ≡ []
told_nothing past key told (stages.Content separator deleted) none reads = absurd (some_none none)
told_nothing past key told (stages.Over deleted good) none reads = absurd (some_none none)
told_nothing past key told _ none reads = reads.1

-- some of the words ahead are heard
module _ (old : Fdc) (execution : Execution) (count : ℕ) (some ahead : List ℕ) (before : DriveState) (quiet : IsQuiet old) (fits : rate_fits old.rate (rate_of before.medium) ≡ true) (range : InRange before)
    (at : old.phase ≡ Execute execution) (first : some ≡ take (length some) ahead) (left : execution.steps + length some ≤ 65535) (within : count ≤ length some) (are : AreAhead (head_of execution.head_drive) ahead before) where
  size : length (take count some) ≡ count
  size = length-take-le count some within

  few : execution.steps + length (take count some) ≤ 65535
  few = omega (arith, size, left, within)

  passing : AreAhead (head_of execution.head_drive) (take count some) before
  passing = some_words (head_of execution.head_drive) count some ahead before first are

  pub id_foreseen : (search : Search) → execution.task ≡ ReadId search → MeetsNothing None (take count some) search → Foresees count old before
  id_foreseen search is meets = record {
    identifies = λ past sent may certain.
        let head_drive : ℕ = execution.head_drive in
        let words : List ℕ = take count some in
        let was : MayReadIdTask past sent head_drive execution.steps (ReadId search) = subst (λ task. MayReadIdTask past sent head_drive execution.steps task) is (subst (λ phase. MayReadIdIn past sent phase) at may) in
        let under : IsCertain (head_of head_drive) past.seen before = subst (λ n. IsCertain (head_of n) past.seen before) (sym was.sent_is) certain in
        let none = plain_none None (past.seen ++ words) (under.plain words passing) (meets past was.searches) in
        let begins : id_at head_drive old execution.steps search ≡ old = ap (λ task. record old { phase = Execute (record execution { task = task }) }) (sym is) ∙ ap (λ phase. record old { phase = phase }) (sym at) in
        subst (λ fdc. IsQuietBy count fdc before) begins (subst (λ n. IsQuietBy n (id_at head_drive old execution.steps search) before) size
        (quiet_by Search (id_at head_drive old) IsSearchingAny (HasNoneWanted None) 0 (head_of head_drive) old.rate (id_goes_on head_drive old quiet) (first_none None) execution.steps (omega arith) (past.seen ++ words) none search past words before few was.searches refl passing
        (calm_told before range certain.faultless) fits (λ n left later next stands. record { request = refl; interrupt = refl; ended = refl; mark = refl })));
    reads = λ past sent may certain single.
        absurd (subst (λ task. MayReadTask past sent execution.head_drive execution.steps task old.asking old.fifo.bytes) is (subst (λ phase. MayReadIn past sent phase old.asking old.fifo.bytes) at may));
    writes = λ past sent deleted may certain.
        absurd (subst (λ task. MayWriteTask past sent deleted execution.head_drive execution.steps task old.asking old.fifo) is (subst (λ phase. MayWriteIn past sent deleted phase old.asking old.fifo) at may));
    formats = λ past sent numbers may.
        absurd (subst (λ task. MayFormatTask past sent numbers execution.head_drive execution.steps task old.asking old.fifo) is (subst (λ phase. MayFormatIn past sent numbers phase old.asking old.fifo) at may));
  }

  module _ (reading : Reading) (is : execution.task ≡ Read reading) (low : wants true false false old.fifo ≡ false) where
    abbrev head_drive : ℕ
    head_drive = execution.head_drive

    no_id : (past : Past) (sent : ℕ) → MayReadIdIn past sent old.phase → ⊥
    no_id past sent may = subst (λ task. MayReadIdTask past sent head_drive execution.steps task) is (subst (λ phase. MayReadIdIn past sent phase) at may)

    no_write : (past : Past) (sent : Sent) (deleted : Bool) → MayWriteIn past sent deleted old.phase old.asking old.fifo → ⊥
    no_write past sent deleted may =
        subst (λ task. MayWriteTask past sent deleted head_drive execution.steps task old.asking old.fifo) is (subst (λ phase. MayWriteIn past sent deleted phase old.asking old.fifo) at may)

    no_format : (past : Past) (sent : ℕ) (numbers : Numbers) → MayFormatIn past sent numbers old.phase old.asking old.fifo → ⊥
    no_format past sent numbers may =
        subst (λ task. MayFormatTask past sent numbers head_drive execution.steps task old.asking old.fifo) is (subst (λ phase. MayFormatIn past sent numbers phase old.asking old.fifo) at may)

    reads_task : (past : Past) (sent : Sent) → MayReadIn past sent old.phase old.asking old.fifo.bytes → MayReadTask past sent head_drive execution.steps (Read reading) old.asking old.fifo.bytes
    reads_task past sent may = subst (λ task. MayReadTask past sent head_drive execution.steps task old.asking old.fifo.bytes) is (subst (λ phase. MayReadIn past sent phase old.asking old.fifo.bytes) at may)

    begins : at_reading head_drive execution.steps reading old ≡ old
    begins = ap (λ task. record old { phase = Execute (record execution { task = task }) }) (sym is) ∙ ap (λ phase. record old { phase = phase }) (sym at)

    pub unmarked_foreseen : mark_at reading.stage ≡ None → MarksNothing reading.wanted.key (take count some) reading.stage → Foresees count old before
    unmarked_foreseen none marks = record {
      identifies = λ past sent may certain. absurd (no_id past sent may);
      writes = λ past sent marked may certain. absurd (no_write past sent marked may);
      formats = λ past sent numbers may. absurd (no_format past sent numbers may);
      reads = λ past sent may certain single.
          let key : Chrn = reading.wanted.key in
          let words : List ℕ = take count some in
          let was = reads_task past sent may in
          let under : IsCertain (head_of head_drive) past.seen before = subst (λ (s : Sent). IsCertain (head_of s.head_drive) past.seen before) (sym was.1.1.sent_is) certain in
          let lone : IsCertainOf key (head_of head_drive) past.seen before = subst (λ (s : Sent). IsCertainOf s.key (head_of s.head_drive) past.seen before) (sym was.1.1.sent_is) single in
          let nothing : was.1.0 ≡ [] = told_nothing past key was.1.0 reading.stage none was.1.1.reads in
          let reads : IsUnmarked past key reading.stage = (subst (λ told. IsReading past key told reading.stage) nothing was.1.1.reads, none) in
          let (final, finally) = marks past reads in
          let unmarked = plain_unmarked (past_with words past) key final finally (under.plain words passing) (lone words passing) in
          subst (λ fdc. IsQuietBy count fdc before) begins (subst (λ n. IsQuietBy n (at_reading head_drive execution.steps reading old) before) size
          (quiet_by ReadStage (stage_at head_drive reading old) (AwaitsMark key) (MayBeMarked key) 0 (head_of head_drive) old.rate (awaits_on head_drive reading old quiet low) (first_unmarked key) execution.steps (omega arith) (past.seen ++ words) unmarked reading.stage past words before few reads refl passing
          (calm_told before range certain.faultless) fits (λ n left later next stands. record { request = refl; interrupt = refl; ended = refl; mark = stands.1 ∙ sym none })));
    }

    pub content_foreseen : (deleted : Bool) (room bytes : ℕ) → IsContent reading.stage → mark_at reading.stage ≡ Some deleted → HasRoom room reading.counted old.fifo → count ≤ room → count + 1 ≤ bytes → HasBytesLeft bytes reading.stage → Foresees count old before
    content_foreseen deleted room bytes content mark space short less bytes_left = record {
      identifies = λ past sent may certain. absurd (no_id past sent may);
      writes = λ past sent marked may certain. absurd (no_write past sent marked may);
      formats = λ past sent numbers may. absurd (no_format past sent numbers may);
      reads = λ past sent may certain single.
          let key : Chrn = reading.wanted.key in
          let words : List ℕ = take count some in
          let was = reads_task past sent may in
          let lone : IsCertainOf key (head_of head_drive) past.seen before = subst (λ (s : Sent). IsCertainOf s.key (head_of s.head_drive) past.seen before) (sym was.1.1.sent_is) single in
          let most = bytes_left past key was.1.0 was.1.1.reads in
          let now : ContentState = record { stage = reading.stage; fifo = old.fifo; told = was.1.0 } in
          let stands : IsInContent key reading.counted deleted (length words) past now = record {
            reads = was.1.1.reads;
            content = content;
            mark = mark;
            room = room_down room (length words) reading.counted old.fifo (omega (arith, size, short)) space;
            few = omega (arith, size, most, less);
          } in
          subst (λ fdc. IsQuietBy count fdc before) begins (subst (λ n. IsQuietBy n (at_reading head_drive execution.steps reading old) before) size
          (quiet_by ContentState (taken_at head_drive reading old) (IsInContent key reading.counted deleted) (HasSingle key) 0 (head_of head_drive) old.rate (content_goes head_drive reading old quiet deleted) (first_single key) execution.steps (omega arith) (past.seen ++ words) (lone words passing) now past words before few stands refl passing
          (calm_told before range certain.faultless) fits (λ n left later next then. record { request = refl; interrupt = refl; ended = refl; mark = then.mark ∙ sym mark })));
    }

-- by whether any step is certain
pub by_count : (P : ℕ → Type 0) (count bytes : ℕ) → count ≡ bytes - 1 → P 0 → (count + 1 ≤ bytes → P count) → P count
by_count P zero bytes is none some = none
by_count P (suc count) bytes is none some = some (omega (arith, is))

-- the stage of a reading that has met no data mark
pub not_marked : (stage : ReadStage) → ((separator : Separator) (deleted : Bool) → stage ≡ stages.Content separator deleted → ⊥) → ((deleted good : Bool) → stage ≡ stages.Over deleted good → ⊥) → mark_at stage ≡ None
not_marked (stages.Content separator deleted) content over = absurd (content separator deleted refl)
not_marked (stages.Over deleted good) content over = absurd (over deleted good refl)
not_marked _ content over = refl
