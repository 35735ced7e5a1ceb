-- Device steps in a row that surely change neither line.
use Rattle.std.proofs.Common.{◌≡◌, ◌≤◌, ◌<◌, ◌+◌, ℕ, zero, suc, Bool, true, false, List, [], ◌∷◌, ◌++◌, length, take, Some, refl, sym, ap, subst, ◌∙◌, arith, get_or, Option, None}
use Rattle.fdc_core.proofs.Common.{false≢true, append_assoc, CanTell, DriveState, Becomes, InRange, at_index, is_protected, rate_of, word_under, with_word, Past, heard, is_due, needs_byte, opens, Ending, Done, NoMark, NoSector, NoField, BadCheck, Overrun, NoCount, Protected, Late, head_of, is_listening, rate_fits, Execute, Task, Write, DataRate, Writing, HoldsLines, Works, ExecutesIn, Listens, SeesTask, SeesWord, StepsOn, ExecutesTask, Foresees, IsQuietBy, MovesDrive, MovesIn, MovesTask, let_pass, polled, IsTime, KeptOut, Saw, Stopped, WordTime, Wrote, WritesIn, WritesOn, HearsWord, Stops, StopsWriting, WriteDoes, byte_taken, Fdc, Execution, Format, Formatting, Sent, Numbers, MayReadIdIn, MayReadIdTask, MayReadIn, MayReadTask, MayWriteIn, MayWriteTask, MayFormatIn, MayFormatTask, IsCertain, searches_in, searches_for, take_more, Chrn, HasSearched, IsSearching, MissesWell, search_outcome, FailsWell, HasHeard, IsReading, KeepsMark, ReadOutcome, mark_at, read_outcome, ReadHeard, ReadStage, Search, HasMostLeft, HasNoneWanted, MarksBy, MayBeMarked, MeetsBy, past_with}
use Rattle.drive_model.specs.Ahead.{AreAhead}
use Rattle.fdc_core.specs.Quiet.{WorksBy}
use Rattle.fdc_stages.specs.Writings.{is_search}
use Rattle.fdc_core.proofs.Coursing.{ahead_first, none_comes, unpolled}
use Rattle.fdc_core.proofs.Quieting.{HasNoFaults, ahead_after, fits_after, passes_calm, sees_ahead, some_none, HasGivenBytes, HasHeardWords, HasReadWords, missing, reads_on, some_seen}
use Rattle.fdc_stages.specs.Readings.{IsWhole}
use Rattle.fdc_stages.specs.declared.searching.Searched.{Searched}
use Rattle.fdc_stages.specs.Readings as given
use Rattle.fdc_stages.specs.declared.reading.ReadHeard.TheVariants as answers
use Rattle.fdc_stages.specs.declared.searching.Searched.TheVariants as searched

-- ---- one device step

-- a command that listens hears the word that is ahead
pub record HearsAhead (was new : Fdc) (before after : DriveState) (head_drive steps word : ℕ) (task : Task) : Type 0 where
  pub passes : Becomes (let_pass before) before after
  pub does : StepsOn head_drive steps task false word was new

module _ (was new : Fdc) (before after : DriveState) (head_drive steps word : ℕ) (task : Task) (due : was.poll_due ≡ false) (at : was.phase ≡ Execute (record { head_drive = head_drive; steps = steps; task = task })) (listens : is_listening task ≡ true)
    (no_index : at_index before ≡ false) (under : word_under before (head_of head_drive) ≡ word) (calm : HasNoFaults before) (fits : rate_fits was.rate (rate_of before.medium) ≡ true) (works : Works was before new after) where
  pub hears_ahead : HearsAhead was new before after head_drive steps word task
  hears_ahead =
      let unpoll : polled was ≡ was = unpolled was (none_comes was due) in
      let moves : MovesDrive was before after = subst (λ polls. MovesDrive polls before after) unpoll works.drive in
      let passes : MovesTask true before after = subst (λ listens. MovesTask listens before after) listens (subst (λ phase. MovesIn phase was before after) at moves) in
      let hears : Listens was (at_index before) was before after new = subst (λ polls. Listens polls (at_index before) was before after new) unpoll works.reads in
      let sees : SeesTask true (head_of head_drive) was.rate before hears.word after =
      subst (λ listens. SeesTask listens (head_of head_drive) was.rate before hears.word after) listens (subst (λ phase. SeesWord phase was.rate before hears.word after) at hears.sees) in
      let does : ExecutesTask true head_drive steps task (at_index before) hears.word was new =
      subst (λ listens. ExecutesTask listens head_drive steps task (at_index before) hears.word was new) listens (subst (λ phase. ExecutesIn phase (at_index before) hears.word was new) at hears.follows.executes) in
      let same : hears.word ≡ word = sees_ahead before after passes calm was.rate (head_of head_drive) hears.word fits sees ∙ under in
      record {
        passes = passes;
        does = subst (λ index. StepsOn head_drive steps task index word was new) no_index (subst (λ w. StepsOn head_drive steps task (at_index before) w was new) same does);
      }

-- a write in its search hears the word that is ahead
pub record HearsToWriteAhead (was new : Fdc) (before after : DriveState) (head_drive steps word : ℕ) (writing : Writing) : Type 0 where
  pub passes : Becomes (let_pass before) before after
  pub does : HearsWord head_drive steps writing false word was new

no_stop : (head_drive steps : ℕ) (writing : Writing) (old : Fdc) (before : DriveState) (new : Fdc) → 1 ≤ steps → steps < 65535 → needs_byte writing.stage ≡ false → StopsWriting head_drive steps writing old before new → ⊥
no_stop head_drive steps writing old before new some few needs is =
    none_stops is.ending (subst (λ needs. Stops steps (is_protected before.medium) (byte_taken needs writing.counted old.fifo) is.ending) needs is.stops)
  where
    none_stops : (ending : Ending) → Stops steps (is_protected before.medium) (Some 0) ending → ⊥
    none_stops Late stops = omega (arith, stops, few)
    none_stops Protected stops = omega (arith, stops.0, some)
    none_stops Overrun stops = some_none stops.1
    none_stops (Done deleted) stops = stops
    none_stops NoMark stops = stops
    none_stops NoSector stops = stops
    none_stops NoField stops = stops
    none_stops BadCheck stops = stops
    none_stops NoCount stops = stops

module _ (was new : Fdc) (before after : DriveState) (head_drive steps word : ℕ) (writing : Writing) (due : was.poll_due ≡ false) (at : was.phase ≡ Execute (record { head_drive = head_drive; steps = steps; task = Write writing })) (some : 1 ≤ steps) (few : steps < 65535) (closed : is_due writing.stage ≡ false) (shut : opens writing.stage ≡ false) (needs : needs_byte writing.stage ≡ false)
    (no_index : at_index before ≡ false) (under : word_under before (head_of head_drive) ≡ word) (calm : HasNoFaults before) (fits : rate_fits was.rate (rate_of before.medium) ≡ true) (works : Works was before new after) where
  by_time : (time : WordTime) → IsTime time was.rate (head_of head_drive) before after → WriteDoes time head_drive steps writing was before new → HearsToWriteAhead was new before after head_drive steps word writing
  by_time (Saw index raw) is does =
      let same : raw ≡ word = sees_ahead before after is.passes calm was.rate (head_of head_drive) raw fits is.sees ∙ under in
      record {
        passes = is.passes;
        does = subst (λ index. HearsWord head_drive steps writing index word was new) (is.index_is ∙ no_index) (subst (λ w. HearsWord head_drive steps writing index w was new) same does.1);
      }
  by_time (KeptOut index raw) is does = absurd (false≢true (sym shut ∙ does.0))
  by_time (Wrote opened closes index raw) is does = absurd (false≢true (sym closed ∙ does.due))
  by_time Stopped is does = absurd (no_stop head_drive steps writing was before new some few needs does)

  pub writes_ahead : HearsToWriteAhead was new before after head_drive steps word writing
  writes_ahead =
      let unpoll : polled was ≡ was = unpolled was (none_comes was due) in
      let on : WritesOn was was before after new = subst (λ polls. WritesOn polls was before after new) unpoll works.writes in
      let step : WritesIn (Execute (record { head_drive = head_drive; steps = steps; task = Write writing })) was.asking was.fifo was before after new =
      subst (λ phase. WritesIn phase was.asking was.fifo was before after new) at on in
      by_time step.step.does.time step.step.does.is step.step.does.does

-- ---- device steps in a row

-- what goes on stands at `next` after a device step
pub record GoesOnWith {S : Type 0} (at : S → Fdc) (Is : Past → S → Type 0) (past : Past) (new : Fdc) : Type 0 where
  pub next : S
  pub is : new ≡ at next
  pub stands : Is past next

-- each device step takes a command one step on. `Is` says what goes on in it after what was heard, where so many words
-- are left, and `May` what the words of the revolution are
abbrev pub EachGoesOnWith : {S : Type 0} (at : ℕ → S → Fdc) (Is : ℕ → Past → S → Type 0) (May : List ℕ → Type 0) (least head : ℕ) (rate : DataRate) → Type 0
EachGoesOnWith {S = S} at Is May least head rate =
    (steps word left : ℕ) (now : S) (past : Past) (new : Fdc) (before after : DriveState) → least ≤ steps → steps < 65535 → Is (suc left) past now → May (with_word past.seen word)
    → at_index before ≡ false → word_under before head ≡ word → HasNoFaults before → rate_fits rate (rate_of before.medium) ≡ true → Works (at steps now) before new after
    → Becomes (let_pass before) before after × GoesOnWith (at (steps + 1)) (Is left) (heard false word past) new

-- so many device steps after the command stood at `steps`. These words are still ahead
pub record IsAfterSteps {S : Type 0} (at : ℕ → S → Fdc) (Is : ℕ → Past → S → Type 0) (head : ℕ) (rate : DataRate) (steps count : ℕ) (rest whole : List ℕ) (new : Fdc) (after : DriveState) : Type 0 where
  pub now : S
  pub past : Past
  pub is : new ≡ at (steps + count) now
  pub stands : Is (length rest) past now
  pub whole_is : past.seen ++ rest ≡ whole
  pub ahead : AreAhead head rest after
  pub calm : HasNoFaults after
  pub fits : rate_fits rate (rate_of after.medium) ≡ true

-- `May` holds of the first of the words too
abbrev pub HoldsOfFirst : (May : List ℕ → Type 0) → Type 0
HoldsOfFirst May = (first rest whole : List ℕ) → first ++ rest ≡ whole → May whole → May first

module _ (S : Type 0) (at : ℕ → S → Fdc) (Is : ℕ → Past → S → Type 0) (May : List ℕ → Type 0) (least head : ℕ) (rate : DataRate) (each : EachGoesOnWith at Is May least head rate) (of_first : HoldsOfFirst May) (steps : ℕ) (later : least ≤ steps) (whole : List ℕ) (may : May whole) where
  -- one step more
  one_more : (count word : ℕ) (rest : List ℕ) (mid new : Fdc) (between after : DriveState) → steps + count < 65535 → IsAfterSteps at Is head rate steps count (word ∷ rest) whole mid between → Works mid between new after → IsAfterSteps at Is head rate steps (suc count) rest whole new after
  unfolding AreAhead
  one_more count word rest mid new between after few was works =
      let (under, no_index, ahead) = was.ahead in
      let reach : with_word was.past.seen word ++ rest ≡ whole = append_assoc was.past.seen (word ∷ []) rest ∙ was.whole_is in
      let (passes, on) = each (steps + count) word (length rest) was.now was.past new between after (omega (arith, later)) few was.stands (of_first (with_word was.past.seen word) rest whole reach may) no_index under was.calm was.fits (subst (λ fdc. Works fdc between new after) was.is works) in
      let sum : steps + count + 1 ≡ steps + suc count = omega arith in
      record {
        now = on.next;
        past = heard false word was.past;
        is = on.is ∙ ap (λ n. at n on.next) sum;
        stands = on.stands;
        whole_is = reach;
        ahead = ahead_after between after passes was.calm head rest ahead;
        calm = (passes_calm between after passes was.calm).calm;
        fits = fits_after between after passes was.calm rate was.fits;
      }

  module _ (now : S) (past : Past) (words : List ℕ) (before : DriveState) (few : steps + length words ≤ 65535) (stands : Is (length words) past now) (whole_is : past.seen ++ words ≡ whole) (ahead : AreAhead head words before) (calm : HasNoFaults before) (fits : rate_fits rate (rate_of before.medium) ≡ true) where
    -- what is left of the words
    onward : (count : ℕ) (rest : List ℕ) (mid new : Fdc) (between after : DriveState) → suc count ≤ length words → count + length rest ≡ length words → IsAfterSteps at Is head rate steps count rest whole mid between → Works mid between new after
        → (left : List ℕ) × (suc count + length left ≡ length words) × IsAfterSteps at Is head rate steps (suc count) left whole new after
    onward count [] mid new between after some sum amid works = absurd (omega (arith, some, sum))
    onward count (word ∷ rest) mid new between after some sum amid works =
        (rest, omega (arith, sum), one_more count word rest mid new between after (omega (arith, few, some)) amid works)

    amid : (count : ℕ) (new : Fdc) (after : DriveState) → count ≤ length words → WorksBy count (at steps now) before new after
        → (left : List ℕ) × (count + length left ≡ length words) × IsAfterSteps at Is head rate steps count left whole new after
    unfolding WorksBy
    amid zero new after some (same, still) = (
      words,
      omega arith,
      record {
        now = now;
        past = past;
        is = same ∙ ap (λ n. at n now) (omega arith);
        stands = stands;
        whole_is = whole_is;
        ahead = subst (λ drive. AreAhead head words drive) (sym still) ahead;
        calm = subst HasNoFaults (sym still) calm;
        fits = subst (λ drive. rate_fits rate (rate_of drive.medium) ≡ true) (sym still) fits;
      },
    )
    amid (suc count) new after some (mid, between, by, works) =
        let (rest, sum, was) = amid count mid between (omega (arith, some)) by in
        onward count rest mid new between after some sum was works

    -- the lines stay
    pub quiet_by : ((n left : ℕ) (later : Past) (next : S) → Is left later next → HoldsLines (at steps now) (at n next)) → IsQuietBy (length words) (at steps now) before
    quiet_by holds count new after some by =
        let (rest, sum, was) = amid count new after some by in
        subst (λ fdc. HoldsLines (at steps now) fdc) (sym was.is) (holds (steps + count) (length rest) was.past was.now was.stands)

-- ---- what is certain

none_by : (old : Fdc) (before : DriveState) → IsQuietBy 0 old before
unfolding WorksBy
none_by old before zero new after some (same, still) = subst (λ fdc. HoldsLines old fdc) (sym same) (record { request = refl; interrupt = refl; ended = refl; mark = refl })
none_by old before (suc count) new after some by = absurd (omega (arith, some))

-- in no device step nothing changes
pub nothing_foreseen : (old : Fdc) (before : DriveState) → Foresees 0 old before
nothing_foreseen old before = record { identifies = λ past sent may certain. none_by old before; reads = λ past sent may certain single. none_by old before; writes = λ past sent deleted may certain. none_by old before; formats = λ past sent numbers may. none_by old before }

-- some of the words ahead are ahead
pub some_words : (head count : ℕ) (some ahead : List ℕ) (before : DriveState) → some ≡ take (length some) ahead → AreAhead head ahead before → AreAhead head (take count some) before
some_words head count some ahead before first are =
    ahead_first head count some before (subst (λ words. AreAhead head words before) (sym first) (ahead_first head (length some) ahead before are))

pub calm_told : (before : DriveState) → InRange before → before.left ≡ Some 0 → HasNoFaults before
calm_told before range left =
    let told : CanTell before.faults (Some 0) = subst (λ left. CanTell before.faults left) left range.told in
    record { left = left; below = omega (arith, told) }

-- ---- what a command that writes is foreseen to do

module _ (old : Fdc) (execution : Execution) (count : ℕ) (before : DriveState) (at : old.phase ≡ Execute execution) where
  pub foresees_write : (writing : Writing) → execution.task ≡ Write writing
      → ((past : Past) (sent : Sent) (deleted : Bool) → MayWriteTask past sent deleted execution.head_drive execution.steps (Write writing) old.asking old.fifo → (is_search writing.stage ≡ true → IsCertain (head_of sent.head_drive) past.seen before) → IsQuietBy count old before)
      → Foresees count old before
  foresees_write writing is does = record {
    identifies = λ past sent may certain.
        absurd (subst (λ task. MayReadIdTask past sent execution.head_drive execution.steps task) is (subst (λ phase. MayReadIdIn past sent phase) at may));
    reads = λ past sent may certain single.
        absurd (subst (λ task. MayReadTask past sent execution.head_drive execution.steps task old.asking old.fifo.bytes) is (subst (λ phase. MayReadIn past sent phase old.asking old.fifo.bytes) at may));
    writes = λ past sent deleted may certain.
        does past sent deleted (subst (λ task. MayWriteTask past sent deleted execution.head_drive execution.steps task old.asking old.fifo) is (subst (λ phase. MayWriteIn past sent deleted phase old.asking old.fifo) at may))
        (λ searching. certain (ap searches_in at ∙ ap searches_for is ∙ searching));
    formats = λ past sent numbers may.
        absurd (subst (λ task. MayFormatTask past sent numbers execution.head_drive execution.steps task old.asking old.fifo) is (subst (λ phase. MayFormatIn past sent numbers phase old.asking old.fifo) at may));
  }

  pub foresees_format : (formatting : Formatting) → execution.task ≡ Format formatting
      → ((past : Past) (sent : ℕ) (numbers : Numbers) → MayFormatTask past sent numbers execution.head_drive execution.steps (Format formatting) old.asking old.fifo → IsQuietBy count old before) → Foresees count old before
  foresees_format formatting is does = record {
    identifies = λ past sent may certain.
        absurd (subst (λ task. MayReadIdTask past sent execution.head_drive execution.steps task) is (subst (λ phase. MayReadIdIn past sent phase) at may));
    reads = λ past sent may certain single.
        absurd (subst (λ task. MayReadTask past sent execution.head_drive execution.steps task old.asking old.fifo.bytes) is (subst (λ phase. MayReadIn past sent phase old.asking old.fifo.bytes) at may));
    writes = λ past sent deleted may certain.
        absurd (subst (λ task. MayWriteTask past sent deleted execution.head_drive execution.steps task old.asking old.fifo) is (subst (λ phase. MayWriteIn past sent deleted phase old.asking old.fifo) at may));
    formats = λ past sent numbers may.
        does past sent numbers (subst (λ task. MayFormatTask past sent numbers execution.head_drive execution.steps task old.asking old.fifo) is (subst (λ phase. MayFormatIn past sent numbers phase old.asking old.fifo) at may));
  }

-- ---- what the word makes of a search or of a reading at which counting stops

with_next : (seen words : List ℕ) (i word : ℕ) → i < length words → word ≡ get_or words i 0 → with_word (seen ++ take i words) word ≡ seen ++ take (i + 1) words
with_next seen words i word below is =
    ap (λ w. with_word (seen ++ take i words) w) is ∙ append_assoc seen (take i words) (get_or words i 0 ∷ []) ∙ ap (λ more. seen ++ more) (sym (take_more words i 0 below))

-- ---- a search

-- a word in which no field that is wanted ends, and which no index pulse follows, ends no search
module _ (past : Past) (wanted : Option Chrn) (word : ℕ) (none : HasNoneWanted wanted (with_word past.seen word)) where
  ends_not : (next : Search) (answer : Searched) → HasSearched false (heard false word past) wanted (search_outcome next answer) → MissesWell (search_outcome next answer) → (answer ≡ searched.On → ⊥) → ⊥
  ends_not next searched.On has well other = other refl
  ends_not next (searched.Met key) has well other = none has.1.0 key has.0 has.1.1.address
  ends_not next (searched.Missed ending) has well other = some_seen past.seen word (missing (heard false word past) wanted ending well has)

-- so where one ends, a field that is wanted has ended
pub meets_by : (wanted : Option Chrn) (words : List ℕ) (i word : ℕ) (search mid next : Search) (answer : Searched) → i < length words → word ≡ get_or words i 0 → HasHeardWords wanted (take i words) search mid
    → ((past : Past) → IsSearching past wanted mid → HasSearched false (heard false word past) wanted (search_outcome next answer)) → MissesWell (search_outcome next answer) → (answer ≡ searched.On → ⊥) → MeetsBy wanted (take (i + 1) words) search
meets_by wanted words i word search mid next answer below is was hears well other past at none =
    let before : Past = record past { seen = past.seen ++ take i words } in
    ends_not before wanted word (subst (HasNoneWanted wanted) (sym (with_next past.seen words i word below is)) none) next answer (hears before (was past at)) well other

-- ---- a reading before its data mark

abbrev goes_on : ReadOutcome → Bool
goes_on (given.On stage) = true
goes_on _ = false

abbrev mark_behind : ReadOutcome → Option Bool
mark_behind (given.On stage) = mark_at stage
mark_behind _ = None

unmarked_on : (next after : ReadStage) (answer : ReadHeard) → read_outcome next answer ≡ given.On after → mark_at after ≡ None → (answer ≡ answers.On → mark_at next ≡ None → ⊥) → ⊥
unmarked_on next after answers.On on none other = other refl (ap mark_behind on ∙ none)
unmarked_on next after _ on none other = false≢true (ap goes_on on)

-- where one stops, its data mark has come, or can't come any more
pub marks_by : (key : Chrn) (words : List ℕ) (i word : ℕ) (stage mid next : ReadStage) (answer : ReadHeard) → i < length words → word ≡ get_or words i 0 → HasReadWords key (take i words) stage mid
    → ((past : Past) (told : List ℕ) → IsReading past key told mid → HasHeard (heard false word past) key told (read_outcome next answer)) → FailsWell (read_outcome next answer) → KeepsMark mid (read_outcome next answer)
    → (answer ≡ answers.On → mark_at next ≡ None → ⊥) → MarksBy key (take (i + 1) words) stage
marks_by key words i word stage mid next answer below is was hears well keeps other past at may =
    let before : Past = past_with (take i words) past in
    let unmarked : MayBeMarked key (with_word before.seen word) = subst (MayBeMarked key) (sym (with_next past.seen words i word below is)) may in
    let (after, on, reads) = reads_on before key word mid unmarked (was past at) (read_outcome next answer) (hears, well, keeps) in
    unmarked_on next after answer on reads.1 other

-- ---- the bytes of a content

-- where no byte comes any more, the content has no more bytes than came
pub most_left : (count : ℕ) (stage next : ReadStage) → HasGivenBytes count stage next → IsWhole next → HasMostLeft count stage
most_left count stage next was whole past key told at =
    let (later, more, reads, size) = was past key told at in
    let all = whole later key more reads in
    omega (arith, size, all)
