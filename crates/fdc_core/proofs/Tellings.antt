-- How long a write surely leaves both lines as they are.
use Rattle.std.proofs.Common.{◌≡◌, ◌≤◌, ◌+◌, ℕ, suc, Bool, true, false, List, [], ◌++◌, length, take, Some, refl, sym, ap, subst, ◌∙◌, inl, inr, arith, length-take-le}
use Rattle.fdc_core.proofs.Common.{false≢true, AreAhead, DriveState, InRange, rate_of, Chrn, with_word, wants, Past, heard, HasNext, HasWritten, IsWriting, Ending, Done, NoMark, NoSector, NoField, BadCheck, Overrun, NoCount, Protected, Late, Search, WriteNext, WriteStage, Sent, head_of, write_at, rate_fits, MayWriteIn, MayWriteTask, Execution, Execute, Write, Writing, IsQuiet, Foresees, HasNoneWanted, IsCertain, IsQuietBy, MeetsNothing, HearsWord, after_next, Fdc, Fifo, Numbers, HasFormatted, IsFormatting, LaysFirst, WritesFirst, FormatStage, stopped_written, stopped_formatted, first_written, whole_written, whole_laid, MayWrite, MayFormat, write_sent, MayFormatIn, MayFormatTask, Short, Long, Phase, Command, Result, Task, Format}
use Rattle.fdc_stages.specs.Writings.{FailsWell, IsFailure, is_search}
use Rattle.fdc_core.proofs.Coursing.{writes_at}
use Rattle.fdc_core.proofs.Foreseeing.{EachGoesOnWith, GoesOnWith, calm_told, foresees_write, quiet_by, some_words, writes_ahead}
use Rattle.fdc_core.proofs.Quieting.{first_none, plain_none, some_seen}
use Rattle.fdc_core.specs.Tellings.{WritesWindow, WholeIfDone, WriteMeansIn, LaysTrack, LaidIfDone, FormatMeansIn}
use Rattle.fdc_phases.specs.Written.{IsContent}
use Rattle.fdc_core.proofs.MayWrite.{content_of}
use Rattle.fdc_stages.specs.declared.writing.WriteNext.TheVariants as given
use Rattle.fdc_stages.specs.declared.writing.WriteStage.TheVariants as stages

-- ---- a word that a write hears in its search, and in which nothing is met

module _ (past : Past) (key : Chrn) (word : ℕ) (deleted : Bool) (handed : List ℕ) (search : Search) (none : HasNoneWanted (Some key) (with_word past.seen word)) (unbarred : past.barred ≡ false) where
  abbrev later : Past
  later = heard false word past

  writes_none : (next : Search) → IsWriting past key deleted handed (stages.Search next) → past.words ≡ []
  writes_none next was = was.1.1.0

  fails_none : (ending : Ending) → past.words ≡ [] → HasWritten later key deleted handed ending → IsFailure ending → ⊥
  fails_none NoMark empty written fails = some_seen past.seen word written.cause.1.0.is.nothing
  fails_none NoSector empty written fails = some_seen past.seen word written.cause.1.0.is.nothing
  fails_none NoField empty written fails = elim written.cause [
    | inl (bare, (turn, p, behind)) ↦ some_seen past.seen word behind.over.nothing
    | inr (inl (p, cut)) ↦ none p key refl cut.address
    | inr (inr (bare, barred)) ↦ false≢true (sym unbarred ∙ barred)
  ]
  fails_none (Done marked) empty written fails = absurd fails
  fails_none BadCheck empty written fails = absurd fails
  fails_none Overrun empty written fails = absurd fails
  fails_none NoCount empty written fails = absurd fails
  fails_none Protected empty written fails = absurd fails
  fails_none Late empty written fails = absurd fails

  stays : (stage : WriteStage) → IsWriting later key deleted handed stage → (next : Search) × (stage ≡ stages.Search next) × IsWriting later key deleted handed (stages.Search next)
  stays (stages.Search next) writes = (next, refl, writes)
  stays _ writes = absurd (none writes.1.0.0 key refl writes.1.0.1.address)

  searches_on : (next : WriteNext) → IsWriting past key deleted handed (stages.Search search) → HasNext later key deleted handed next → FailsWell next
      → (after : Search) × (next ≡ given.On (stages.Search after)) × IsWriting later key deleted handed (stages.Search after)
  searches_on (given.On stage) was has well =
      let on = stays stage has in
      (on.0, ap given.On on.1, on.2)
  searches_on (given.Ended ending) was has well = absurd (fails_none ending (writes_none search was) has well)

-- ---- a device step

-- a write that searches, with what was heard since the gate could be opened
pub record IsSearchingToWrite (key : Chrn) (deleted : Bool) (handed : List ℕ) (left : ℕ) (past : Past) (search : Search) : Type 0 where
  pub unbarred : past.barred ≡ false
  pub writes : IsWriting past key deleted handed (stages.Search search)

module _ (head_drive : ℕ) (writing : Writing) (old : Fdc) (quiet : IsQuiet old) (low : wants false false writing.counted old.fifo ≡ false) (deleted : Bool) (handed : List ℕ) where
  abbrev found : Search → Writing
  found search = write_at writing (stages.Search search)

  write_next : (steps word left : ℕ) (search : Search) (past : Past) (new : Fdc) → IsSearchingToWrite writing.wanted.key deleted handed (suc left) past search → HasNoneWanted (Some writing.wanted.key) (with_word past.seen word)
      → HearsWord head_drive steps (found search) false word (writes_at head_drive writing old steps search) new → GoesOnWith (writes_at head_drive writing old (steps + 1)) (IsSearchingToWrite writing.wanted.key deleted handed left) (heard false word past) new
  write_next steps word left search past new was none hears =
      let key : Chrn = writing.wanted.key in
      let at : Fdc = writes_at head_drive writing old steps search in
      let has = hears.hears.0 past deleted handed refl was.writes in
      let (after, on, writes) = searches_on past key word deleted handed search none was.unbarred hears.next was.writes has hears.hears.1 in
      let keeps : old.asking ≡ wants false old.asking writing.counted old.fifo = quiet.down ∙ sym low ∙ ap (λ asking. wants false asking writing.counted old.fifo) (sym quiet.down) in
      let goes : after_next head_drive (steps + 1) (found search) hears.next at ≡ writes_at head_drive writing old (steps + 1) after =
      ap (λ next. after_next head_drive (steps + 1) (found search) next at) on ∙ sym (ap (λ asking. record (writes_at head_drive writing old (steps + 1) after) { asking = asking }) keeps) in
      record { next = after; is = hears.after_is ∙ goes; stands = record { unbarred = was.unbarred; writes = writes } }

  write_goes_on : EachGoesOnWith (writes_at head_drive writing old) (IsSearchingToWrite writing.wanted.key deleted handed) (HasNoneWanted (Some writing.wanted.key)) 1 (head_of head_drive) old.rate
  write_goes_on steps word left search past new before after some few was none no_index under calm fits works =
      let step = writes_ahead (writes_at head_drive writing old steps search) new before after head_drive steps word (found search) quiet.due refl some few refl refl refl no_index under calm fits works in
      (step.passes, write_next steps word left search past new was none step.does)

-- ---- what is foreseen

-- a history in which no gate was kept shut
unbarred_of : (past : Past) (key : Chrn) (deleted : Bool) (handed : List ℕ) (stage : WriteStage) → IsWriting past key deleted handed stage → IsWriting (record past { barred = false }) key deleted handed stage
unbarred_of past key deleted handed stage was = was

module _ (old : Fdc) (execution : Execution) (count : ℕ) (some ahead : List ℕ) (before : DriveState) (quiet : IsQuiet old) (fits : rate_fits old.rate (rate_of before.medium) ≡ true) (range : InRange before)
    (at : old.phase ≡ Execute execution) (first : some ≡ take (length some) ahead) (left : execution.steps + length some ≤ 65535) (within : count ≤ length some) (are : AreAhead (head_of execution.head_drive) ahead before) where
  pub write_foreseen : (writing : Writing) (search : Search) → execution.task ≡ Write writing → writing.stage ≡ stages.Search search → wants false false writing.counted old.fifo ≡ false → 1 ≤ execution.steps → MeetsNothing (Some writing.wanted.key) (take count some) search → Foresees count old before
  write_foreseen writing search is stage low later meets =
      let head_drive : ℕ = execution.head_drive in
      let words : List ℕ = take count some in
      let size : length words ≡ count = length-take-le count some within in
      let passing = some_words (head_of head_drive) count some ahead before first are in
      foresees_write old execution count before at writing is (λ past sent deleted was certain.
      let key : Chrn = writing.wanted.key in
      let under : IsCertain (head_of head_drive) past.seen before = subst (λ (s : Sent). IsCertain (head_of s.head_drive) past.seen before) (sym was.1.1.sent_is) (certain (ap is_search stage)) in
      let writes : IsWriting past key writing.deleted was.1.0 (stages.Search search) = subst (λ now. IsWriting past key writing.deleted was.1.0 now) stage was.1.1.writes in
      let fresh : Past = record past { barred = false } in
      let none = plain_none (Some key) (past.seen ++ words) (under.plain words passing) (meets past writes.1.0) in
      let stands : IsSearchingToWrite key writing.deleted was.1.0 (length words) fresh search = record { unbarred = refl; writes = unbarred_of past key writing.deleted was.1.0 (stages.Search search) writes } in
      let begins : writes_at head_drive writing old execution.steps search ≡ old =
      ap (λ now. record old { phase = Execute (record execution { task = Write (write_at writing now) }) }) (sym stage) ∙ ap (λ task. record old { phase = Execute (record execution { task = task }) }) (sym is) ∙ ap (λ phase. record old { phase = phase }) (sym at) in
      subst (λ fdc. IsQuietBy count fdc before) begins (subst (λ n. IsQuietBy n (writes_at head_drive writing old execution.steps search) before) size
      (quiet_by Search (writes_at head_drive writing old) (IsSearchingToWrite key writing.deleted was.1.0) (HasNoneWanted (Some key)) 1 (head_of head_drive) old.rate (write_goes_on head_drive writing old quiet low writing.deleted was.1.0) (first_none (Some key)) execution.steps later (past.seen ++ words) none search fresh words before (omega (arith, size, left, within)) stands refl passing
      (calm_told before range under.faultless) fits (λ n left later next stands. record { request = refl; interrupt = refl; ended = refl; mark = refl }))))

-- ---- what follows from what is known of a write and of a FORMAT

-- ---- WRITE DATA and WRITE DELETED

whole_if : (past : Past) (key : Chrn) (deleted : Bool) (handed : List ℕ) (ending : Ending) → HasWritten past key deleted handed ending → WholeIfDone past key deleted handed ending
whole_if past key deleted handed (Done marked) is = whole_written past key deleted handed marked is
whole_if past key deleted handed _ is = tt

means_in : (past : Past) (sent : Sent) (deleted : Bool) (phase : Phase) (asking : Bool) (fifo : Fifo) → MayWriteIn past sent deleted phase asking fifo → WriteMeansIn past sent deleted phase
means_in past sent deleted Command asking fifo was = tt
means_in past sent deleted (Execute execution) asking fifo was = tt
means_in past sent deleted (Result (Short next last)) asking fifo was = tt
means_in past sent deleted (Result (Long ending results read)) asking fifo (down, are, (handed, was)) = record {
  results_are = are;
  handed = handed;
  content = was.content;
  first = first_written past sent.key deleted handed was.written.begun;
  cause = was.written.cause;
  whole = whole_if past sent.key deleted handed ending was.written;
}

pub write_tells : (past : Past) (sent : Sent) (deleted : Bool) (fdc : Fdc) → MayWrite past sent deleted fdc → WriteMeansIn past sent deleted fdc.phase
write_tells past sent deleted fdc was = means_in past sent deleted fdc.phase fdc.asking fdc.fifo was

same_writing : (past : Past) (key : Chrn) (deleted : Bool) (handed : List ℕ) (stage : WriteStage) → IsWriting past key deleted handed stage → IsWriting (record past { steps = 65536 }) key deleted handed stage
same_writing past key deleted handed (stages.Search search) was = was
same_writing past key deleted handed (stages.Gap left) was = was
same_writing past key deleted handed (stages.Window now) was = was

-- a write may be stopped at each stage, so its words are the first of the window
first_at : (past : Past) (key : Chrn) (deleted : Bool) (handed : List ℕ) (stage : WriteStage) → IsWriting past key deleted handed stage → WritesFirst past key deleted handed
first_at past key deleted handed stage was =
    first_written past key deleted handed (stopped_written Late stage (record past { steps = 65536 }) key deleted handed (same_writing past key deleted handed stage was) refl).begun

window_task : (past : Past) (sent : Sent) (deleted : Bool) (head_drive steps : ℕ) (task : Task) (asking : Bool) (fifo : Fifo) → MayWriteTask past sent deleted head_drive steps task asking fifo → WritesWindow past sent deleted
window_task past sent deleted head_drive steps (Write writing) asking fifo (asks, (handed, was)) =
    subst (λ s. WritesWindow past s deleted) was.sent_is (subst (λ d. WritesWindow past (write_sent head_drive writing) d) was.deleted_is
    (handed, subst (λ counted. IsContent counted past.taken handed) (sym was.counted_is) (content_of writing.counted past.taken handed fifo.bytes was.handed_is), first_at past writing.wanted.key writing.deleted handed writing.stage was.writes))
window_task past sent deleted head_drive steps _ asking fifo was = absurd was

window_in : (past : Past) (sent : Sent) (deleted : Bool) (phase : Phase) (asking : Bool) (fifo : Fifo) → MayWriteIn past sent deleted phase asking fifo → WritesWindow past sent deleted
window_in past sent deleted (Execute execution) asking fifo was = window_task past sent deleted execution.head_drive execution.steps execution.task asking fifo was
window_in past sent deleted (Result (Long ending results read)) asking fifo (down, are, (handed, was)) =
    (handed, was.content, first_written past sent.key deleted handed was.written.begun)
window_in past sent deleted _ asking fifo was = absurd was

pub writes_window : (past : Past) (sent : Sent) (deleted : Bool) (fdc : Fdc) → MayWrite past sent deleted fdc → WritesWindow past sent deleted
writes_window past sent deleted fdc was = window_in past sent deleted fdc.phase fdc.asking fdc.fifo was

-- ---- FORMAT TRACK

laid_if : (past : Past) (numbers : Numbers) (handed : List ℕ) (ending : Ending) → HasFormatted past numbers handed ending → LaidIfDone past numbers handed ending
laid_if past numbers handed (Done marked) is = whole_laid past numbers handed marked is
laid_if past numbers handed _ is = tt

format_means_in : (past : Past) (sent : ℕ) (numbers : Numbers) (phase : Phase) (asking : Bool) (fifo : Fifo) → MayFormatIn past sent numbers phase asking fifo → FormatMeansIn past sent numbers phase
format_means_in past sent numbers Command asking fifo was = tt
format_means_in past sent numbers (Execute execution) asking fifo was = tt
format_means_in past sent numbers (Result (Short next last)) asking fifo was = tt
format_means_in past sent numbers (Result (Long ending results read)) asking fifo (down, are, (handed, was)) = record {
  results_are = are;
  handed = handed;
  key = was.result;
  content = was.content;
  first = was.formatted.begun.first;
  cause = was.formatted.cause;
  whole = laid_if past numbers handed ending was.formatted;
}

pub format_tells : (past : Past) (sent : ℕ) (numbers : Numbers) (fdc : Fdc) → MayFormat past sent numbers fdc → FormatMeansIn past sent numbers fdc.phase
format_tells past sent numbers fdc was = format_means_in past sent numbers fdc.phase fdc.asking fdc.fifo was

laid_at : (past : Past) (numbers : Numbers) (handed : List ℕ) (stage : FormatStage) → IsFormatting past numbers handed stage → LaysFirst past numbers handed
laid_at past numbers handed stage was = (stopped_formatted Late stage (record past { steps = 65536 }) numbers handed was refl).begun.first

track_task : (past : Past) (sent : ℕ) (numbers : Numbers) (head_drive steps : ℕ) (task : Task) (asking : Bool) (fifo : Fifo) → MayFormatTask past sent numbers head_drive steps task asking fifo → LaysTrack past numbers
track_task past sent numbers head_drive steps (Format formatting) asking fifo (asks, (handed, was)) =
    (handed, subst (λ counted. IsContent counted past.taken handed) (sym was.counted_is) (content_of formatting.counted past.taken handed fifo.bytes was.handed_is), laid_at past numbers handed formatting.stage was.formats)
track_task past sent numbers head_drive steps _ asking fifo was = absurd was

track_in : (past : Past) (sent : ℕ) (numbers : Numbers) (phase : Phase) (asking : Bool) (fifo : Fifo) → MayFormatIn past sent numbers phase asking fifo → LaysTrack past numbers
track_in past sent numbers (Execute execution) asking fifo was = track_task past sent numbers execution.head_drive execution.steps execution.task asking fifo was
track_in past sent numbers (Result (Long ending results read)) asking fifo (down, are, (handed, was)) =
    (handed, was.content, was.formatted.begun.first)
track_in past sent numbers _ asking fifo was = absurd was

pub lays_track : (past : Past) (sent : ℕ) (numbers : Numbers) (fdc : Fdc) → MayFormat past sent numbers fdc → LaysTrack past numbers
lays_track past sent numbers fdc was = track_in past sent numbers fdc.phase fdc.asking fdc.fifo was
