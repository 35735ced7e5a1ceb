-- A word that passes by a search, in place.
use Rattle.std.proofs.Common.{◌≡◌, ◌<◌, ℕ, ◌+◌, Bool, false, sym, ap, subst, ◌∙◌, inr, ◌≤◌, suc, true, not, ◌&&◌, ◌||◌, if◌then◌else◌, ◌==◌, List, [], ◌∷◌, length, take, Option, None, Some, refl, length-append, inl, arith, length-take-le}
use Rattle.fdc_core.proofs.Common.{DriveState, Phase, Execute, Read, Reading, heard, IsReading, PassesBy, ReadStage, HearsIn, StepsOn, at_stage, gone_on_reading, ExecutionSteps, Fdc, false≢true, Becomes, at_index, passed, rate_of, word_under, ahead_same, becomes_at, wants, Search, HearsNothing, DataRate, ReadId, Write, Writing, StageHearsWord, gone_on, after_next, head_of, write_at, rate_fits, seen_of, Seeking, with_polls, has_ended, is_seeking, stepped_seek, pulse_of, pulse_due, Execution, Command, Result, PassesMany, Works, HoldsLines, IsStill, IsQuiet, comes_poll, SeesUnder, Listens, ListensToNone, is_held, polled, seek_stepped, let_pass, Rests, RestsIn, Moves, MovesDrive, MovesIn, Ends, EndsIn, Stays, Flows, FlowsIn, StepsNowhere, TaskSteps, LastsOn, LastsIn, WritesOn}
use Rattle.std.specs.Option.{option_map_or}
use Rattle.drive_model.specs.Ahead.{LetsPass, AreAhead}
use Rattle.fdc_stages.specs.Searches.{HearsNothingIn}
use Rattle.fdc_core.proofs.Words.{heard_time, at_reading}
use Rattle.fdc_commands.specs.declared.motion.Motion.{Motion}
use Rattle.fdc_commands.specs.declared.motion.Motion.TheVariants.{Ended}
use Rattle.fdc_commands.specs.declared.motion.Seek.{Seek}
use Rattle.fdc_phases.specs.declared.answers.Answer.{Answer}
use Rattle.fdc_core.specs.Courses.{Courses}
use Rattle.fdc_core.proofs.Staying.{executes_stays, executes_flows, executes_moves, same_stays, executes_left}
use Rattle.fdc_core.proofs.Waiting.{executes_lasts}
use Rattle.fdc_core.proofs.Feeding.{executes_hears, rests_follows, rests_hears, executes_writes, rests_writes}
use Rattle.fdc_stages.specs.Readings as given
use Rattle.fdc_stages.specs.declared.reading.ReadStage.TheVariants as stages
use Rattle.fdc_stages.specs.declared.writing.WriteStage.TheVariants as write_stages
use Rattle.fdc_stages.specs.declared.writing.WriteNext.TheVariants as write_next
use Rattle.fdc_stages.specs.Searches as searched

-- the word passed by
pub passed_by : (head_drive steps word : ℕ) (index : Bool) (reading : Reading) (next : ReadStage) (old new : Fdc) → steps < 65535 → index ≡ false
    → PassesBy word reading.stage next → new ≡ gone_on_reading head_drive (steps + 1) (at_stage reading next) old → StepsOn head_drive steps (Read reading) index word old new
passed_by head_drive steps word index reading next old new few is passes after =
    inr (few, (given.On next, ((λ past told reads. subst (λ i. IsReading (heard i word past) reading.wanted.key told next) (sym is) (passes.0 past reading.wanted.key told reads)), tt, passes.1), after))

-- the word didn't pass by, and is heard
pub heard_after : (head_drive steps word : ℕ) (index : Bool) (reading : Reading) (after : ReadStage) (old new : Fdc) → steps < 65535 → after ≡ reading.stage
    → old.phase ≡ Execute (record { head_drive = head_drive; steps = steps; task = Read reading })
    → HearsIn (at_reading head_drive steps (at_stage reading after) old).phase index word (at_reading head_drive steps (at_stage reading after) old) new → StepsOn head_drive steps (Read reading) index word old new
heard_after head_drive steps word index reading after old new few same at hears =
    let is : at_reading head_drive steps (at_stage reading after) old ≡ old = ap (λ stage. at_reading head_drive steps (at_stage reading stage) old) same ∙ ap (λ phase. record old { phase = phase }) (sym at) in
    inr (few, subst (λ phase. HearsIn phase index word old new) at (subst (λ fdc. HearsIn fdc.phase index word fdc new) is hears))

-- another command
pub steps_same : (old new : Fdc) (before after : DriveState) (phase : Phase) → old.phase ≡ phase → ExecutionSteps phase (record old { phase = phase }) before after new → ExecutionSteps old.phase old before after new
steps_same old new before after phase is steps = subst (λ fdc. ExecutionSteps fdc.phase fdc before after new) (ap (λ p. record old { phase = p }) (sym is)) steps

-- ---- device steps in a row

-- ---- no poll comes

undue : (comes : Bool) (old : Fdc) → comes ≡ false → (if comes then record old { poll_due = false; interrupt = true; seeks = with_polls old.seeks } else old) ≡ old
undue true old is = absurd (false≢true (sym is))
undue false old is = refl

pub none_comes : (fdc : Fdc) → fdc.poll_due ≡ false → comes_poll fdc ≡ false
none_comes fdc is = ap (λ due. due && not (is_held fdc)) is

-- without a poll
pub unpolled : (old : Fdc) → comes_poll old ≡ false → polled old ≡ old
unpolled old is = undue (comes_poll old) old is

-- a device step in which no poll comes
module _ (old : Fdc) (due : comes_poll old ≡ false) where
  pub works_unpolled : (new : Fdc) (before after : DriveState) → Rests (before.cylinder == 0) old new → Listens old (at_index before) old before after new → WritesOn old old before after new → MovesDrive old before after
      → Ends old new → Stays old new → Flows old new → LastsOn old new → Works old before new after
  works_unpolled new before after rests reads writes drive ends stays flows lasts = record {
    rests = subst (λ polls. Rests (before.cylinder == 0) polls new) (sym (unpolled old due)) rests;
    reads = subst (λ polls. Listens polls (at_index before) old before after new) (sym (unpolled old due)) reads;
    writes = subst (λ polls. WritesOn polls old before after new) (sym (unpolled old due)) writes;
    drive = subst (λ polls. MovesDrive polls before after) (sym (unpolled old due)) drive;
    ends = ends;
    stays = stays;
    flows = flows;
    lasts = lasts;
  }

-- a device step of what is in execution
pub works_on : (old new : Fdc) (before after : DriveState) (execution : Execution) → old.poll_due ≡ false → old.phase ≡ Execute execution → TaskSteps execution.task execution.head_drive execution.steps old before after new → Works old before new after
works_on old new before after execution due is steps =
    works_unpolled old (none_comes old due) new before after
    (subst (λ phase. RestsIn phase (before.cylinder == 0) old new) (sym is) tt)
    (executes_hears old new before after execution is steps)
    (executes_writes old new before after execution is steps)
    (executes_moves old new before after execution is steps)
    (executes_left old new before after execution is steps)
    (executes_stays old new before after execution is steps)
    (executes_flows old new before after execution is steps)
    (executes_lasts old new before after execution is steps)

-- ---- no seek runs

unmoved : (old : Seeking) (drive : ℕ) (motion : Motion) (track0 : Bool) → not (has_ended motion) ≡ false → stepped_seek old drive motion track0 ≡ old
unmoved old drive Ended track0 is = refl
unmoved old drive _ track0 is = absurd (false≢true (sym is))

unpulsed : (motion : Motion) (track0 : Bool) → not (has_ended motion) ≡ false → pulse_of motion track0 ≡ None
unpulsed Ended track0 is = refl
unpulsed _ track0 is = absurd (false≢true (sym is))

seek_same : (old : Seeking) (seek : Option Seek) (track0 : Bool) → option_map_or (λ s. not (has_ended s.motion)) seek false ≡ false → option_map_or (λ s. stepped_seek old s.drive s.motion track0) seek old ≡ old
seek_same old None track0 is = refl
seek_same old (Some seek) track0 is = unmoved old seek.drive seek.motion track0 is

seek_none : (seek : Option Seek) (track0 : Bool) → option_map_or (λ s. not (has_ended s.motion)) seek false ≡ false → option_map_or (λ s. pulse_of s.motion track0) seek None ≡ None
seek_none None track0 is = refl
seek_none (Some seek) track0 is = unpulsed seek.motion track0 is

stays_up : (up runs over : Bool) → runs ≡ false → (up || (runs && over)) ≡ up
stays_up up true over is = absurd (false≢true (sym is))
stays_up true false over is = refl
stays_up false false over is = refl

unseeking : (track0 : Bool) (old : Fdc) → is_seeking old.seeks ≡ false → old ≡ seek_stepped track0 old
unseeking track0 old is =
    rw (seek_same old.seeks old.seeks.seek track0 is, stays_up old.interrupt (is_seeking old.seeks) (not (is_seeking old.seeks)) is) refl

-- ---- outside execution

outside : (P : Phase → Type 0) → P Command → ((answer : Answer) → P (Result answer)) → (phase : Phase) → ((execution : Execution) → phase ≡ Execute execution → ⊥) → P phase
outside P command result Command other = command
outside P command result (Result answer) other = result answer
outside P command result (Execute execution) other = absurd (other execution refl)

-- nothing of the controller changes any more
pub still : (fdc : Fdc) → comes_poll fdc ≡ false → is_seeking fdc.seeks ≡ false → ((execution : Execution) → fdc.phase ≡ Execute execution → ⊥) → IsStill fdc
still fdc due ended other = record {
  works = λ before.
      let after = let_pass before in
      let track0 = before.cylinder == 0 in
      let same = unseeking track0 fdc ended in
      let moves : Moves (pulse_due fdc.seeks track0) before after = subst (λ pulse. Moves pulse before after) (sym (seek_none fdc.seeks.seek track0 ended)) refl in
      works_unpolled fdc due fdc before after
      (outside (λ phase. RestsIn phase track0 fdc fdc) same (λ answer. same) fdc.phase other)
      (rests_hears track0 (at_index before) fdc fdc before after same other)
      (rests_writes track0 fdc fdc before after same other)
      (outside (λ phase. MovesIn phase fdc before after) moves (λ answer. moves) fdc.phase other)
      (outside (λ phase. EndsIn phase fdc.phase) tt (λ answer. tt) fdc.phase other)
      (same_stays fdc)
      (outside (λ phase. FlowsIn phase fdc.asking fdc) tt (λ answer. tt) fdc.phase other)
      (outside (λ phase. LastsIn phase fdc fdc) tt (λ answer. tt) fdc.phase other);
  alone =
      let same = unseeking false fdc ended in
      record {
        rests = subst (λ polls. Rests false polls fdc) (sym (unpolled fdc due)) (outside (λ phase. RestsIn phase false fdc fdc) same (λ answer. same) fdc.phase other);
        reads = subst (λ polls. ListensToNone polls fdc fdc) (sym (unpolled fdc due)) (rests_follows false false fdc fdc same other);
        nowhere = outside (λ phase. StepsNowhere phase (polled fdc) fdc) tt (λ answer. tt) fdc.phase other;
        ends = outside (λ phase. EndsIn phase fdc.phase) tt (λ answer. tt) fdc.phase other;
        stays = same_stays fdc;
        flows = outside (λ phase. FlowsIn phase fdc.asking fdc) tt (λ answer. tt) fdc.phase other;
      };
}

-- ---- words ahead

-- the first of the words ahead are ahead
pub ahead_first : (head count : ℕ) (words : List ℕ) (s : DriveState) → AreAhead head words s → AreAhead head (take count words) s
unfolding AreAhead
ahead_first head (suc count) (word ∷ rest) s (same, before, ahead) = (same, before, ahead_first head count rest (passed s) ahead)
ahead_first head _ _ s ahead = tt

-- after a word time with the gate closed
pub ahead_behind : (head : ℕ) (rest : List ℕ) (before : DriveState) → AreAhead head rest (passed before) → AreAhead head rest (let_pass before)
ahead_behind head rest before ahead = ahead_same head rest (passed before) false before.cut before.faults before.left ahead

-- a word time in which no fault comes
pub passes_calmly : (before after : DriveState) → after ≡ let_pass before → Becomes (let_pass before) before after
passes_calmly before after is = becomes_at (let_pass before) before after is refl refl

-- a word that passes by a search in one device step, after `steps` other device steps and at least `least`
pub record PassesWord (least head : ℕ) (rate : DataRate) (steps word : ℕ) (search next : Search) (before after : DriveState) : Type 0 where
  pub some : least ≤ steps
  pub few : steps < 65535
  pub under : word_under before head ≡ word
  pub no_index : at_index before ≡ false
  pub fits : rate_fits rate (rate_of before.medium) ≡ true
  pub hears : HearsNothing word search next
  pub passes : Becomes (let_pass before) before after

-- the word is seen
sees_word : (least head : ℕ) (rate : DataRate) (steps word : ℕ) (search next : Search) (before after : DriveState) → PassesWord least head rate steps word search next before after → SeesUnder rate head before word after
sees_word least head rate steps word search next before after is =
    (word, inl (sym is.under), ap (λ fits. seen_of fits word) (sym is.fits))

-- each such word takes a command one step on, and changes neither line
abbrev pub HearsEach : ℕ → ℕ → DataRate → (ℕ → Search → Fdc) → Type 0
HearsEach least head rate at =
    (steps word : ℕ) (search next : Search) (before after : DriveState) → PassesWord least head rate steps word search next before after
    → Works (at steps search) before (at (steps + 1) next) after × HoldsLines (at steps search) (at (steps + 1) next)

-- word by word
courses : (least head : ℕ) (rate : DataRate) (at : ℕ → Search → Fdc) → HearsEach least head rate at → (words : List ℕ) (steps last : ℕ) (search final : Search) (before after : DriveState) → least ≤ steps → last ≡ steps + length words → last ≤ 65535
    → rate_fits rate (rate_of before.medium) ≡ true → AreAhead head words before → HearsNothingIn words search final → LetsPass (length words) before after → Courses (length words) (at steps search) before (at last final) after
unfolding Courses AreAhead HearsNothingIn LetsPass
courses least head rate at each [] steps last search final before after some sum few fits ahead same passes =
    let none : last ≡ steps = omega (arith, sum) in
    (ap (λ n. at n final) none ∙ ap (at steps) same, passes)
courses least head rate at each (word ∷ rest) steps last search final before after some sum few fits (under, no_index, ahead) (next, hears, more) others =
    let mid = let_pass before in
    let step = each steps word search next before mid (record { some = some; few = omega (arith, sum, few); under = under; no_index = no_index; fits = fits; hears = hears; passes = passes_calmly before mid refl }) in (
      at (steps + 1) next,
      mid,
      step.0,
      step.1,
      courses least head rate at each rest (steps + 1) last next final mid after (omega (arith, some)) (omega (arith, sum)) few fits (ahead_behind head rest before ahead) more others,
    )

-- the same for a given count of words
pub courses_over : (least head : ℕ) (rate : DataRate) (at : ℕ → Search → Fdc) → HearsEach least head rate at → (count steps last : ℕ) (search final : Search) (before after : DriveState) → least ≤ steps → rate_fits rate (rate_of before.medium) ≡ true
    → PassesMany head steps last count search final before after → Courses count (at steps search) before (at last final) after
courses_over least head rate at each count steps last search final before after some fits is =
    subst (λ n. Courses n (at steps search) before (at last final) after) is.count_is
    (courses least head rate at each is.words steps last search final before after some (is.last_is ∙ ap (λ n. steps + n) (sym is.count_is)) is.few fits is.ahead is.hears (subst (λ n. LetsPass n before after) (sym is.count_is) is.passes))

-- the first of the words ahead were heard
pub passes_first : (head steps last count : ℕ) (some ahead : List ℕ) (search final : Search) (before after : DriveState) → last ≡ steps + count → steps + length some ≤ 65535 → some ≡ take (length some) ahead → count ≤ length some → AreAhead head ahead before
    → HearsNothingIn (take count some) search final → LetsPass count before after → PassesMany head steps last count search final before after
passes_first head steps last count some ahead search final before after sum few first within are hears passes = record {
  last_is = sum;
  few = omega (arith, sum, few, within);
  words = take count some;
  count_is = length-take-le count some within;
  ahead = ahead_first head count some before (subst (λ words. AreAhead head words before) (sym first) (ahead_first head (length some) ahead before are));
  hears = hears;
  passes = passes;
}

-- ---- READ ID

-- READ ID after `steps` device steps
abbrev pub id_at : ℕ → Fdc → ℕ → Search → Fdc
id_at head_drive old steps search = record old { phase = Execute (record { head_drive = head_drive; steps = steps; task = ReadId search }) }

id_hears : (head_drive : ℕ) (old : Fdc) → IsQuiet old → HearsEach 0 (head_of head_drive) old.rate (id_at head_drive old)
id_hears head_drive old quiet steps word search next before after is =
    let was : Fdc = id_at head_drive old steps search in
    let new : Fdc = id_at head_drive old (steps + 1) next in
    let goes : new ≡ gone_on head_drive (steps + 1) (ReadId next) was = ap (λ asking. record new { asking = asking }) quiet.down in (
      works_on was new before after (record { head_drive = head_drive; steps = steps; task = ReadId search }) quiet.due refl (record {
        word = word;
        sees = sees_word 0 (head_of head_drive) old.rate steps word search next before after is;
        passes = is.passes;
        does = subst (λ index. StepsOn head_drive steps (ReadId search) index word was new) (sym is.no_index) (inr (is.few, (searched.On next, ((λ past searching. is.hears past None searching), tt), goes)));
      }),
      record { request = refl; interrupt = refl; ended = refl; mark = refl },
    )

pub id_courses : (old : Fdc) (execution : Execution) (search final : Search) (count last : ℕ) (before after : DriveState) → IsQuiet old → rate_fits old.rate (rate_of before.medium) ≡ true
    → old.phase ≡ Execute execution → execution.task ≡ ReadId search → PassesMany (head_of execution.head_drive) execution.steps last count search final before after → Courses count old before (id_at execution.head_drive old last final) after
id_courses old execution search final count last before after quiet fits at is passes =
    let head_drive : ℕ = execution.head_drive in
    let begins : id_at head_drive old execution.steps search ≡ old = ap (λ task. record old { phase = Execute (record execution { task = task }) }) (sym is) ∙ ap (λ phase. record old { phase = phase }) (sym at) in
    subst (λ fdc. Courses count fdc before (id_at head_drive old last final) after) begins
    (courses_over 0 (head_of head_drive) old.rate (id_at head_drive old) (id_hears head_drive old quiet) count execution.steps last search final before after (omega arith) fits passes)

-- ---- READ DATA

-- READ DATA in its search, after `steps` device steps
abbrev pub reads_at : ℕ → Reading → Fdc → ℕ → Search → Fdc
reads_at head_drive reading old steps search = at_reading head_drive steps (at_stage reading (stages.Search search)) old

reading_hears : (head_drive : ℕ) (reading : Reading) (old : Fdc) → IsQuiet old → wants true false false old.fifo ≡ false → HearsEach 0 (head_of head_drive) old.rate (reads_at head_drive reading old)
reading_hears head_drive reading old quiet low steps word search next before after is =
    let was : Fdc = reads_at head_drive reading old steps search in
    let new : Fdc = reads_at head_drive reading old (steps + 1) next in
    let keeps : old.asking ≡ wants true old.asking false old.fifo = quiet.down ∙ sym low ∙ ap (λ asking. wants true asking false old.fifo) (sym quiet.down) in
    let goes : new ≡ gone_on_reading head_drive (steps + 1) (at_stage reading (stages.Search next)) was = ap (λ asking. record new { asking = asking }) keeps in (
      works_on was new before after (record { head_drive = head_drive; steps = steps; task = Read (at_stage reading (stages.Search search)) }) quiet.due refl (record {
        word = word;
        sees = sees_word 0 (head_of head_drive) old.rate steps word search next before after is;
        passes = is.passes;
        does = passed_by head_drive steps word (at_index before) (at_stage reading (stages.Search search)) (stages.Search next) was new is.few is.no_index ((λ past key told reads. (is.hears past (Some key) reads.0, reads.1)), tt) goes;
      }),
      record { request = refl; interrupt = refl; ended = refl; mark = refl },
    )

pub reading_courses : (old : Fdc) (execution : Execution) (reading : Reading) (search final : Search) (count last : ℕ) (before after : DriveState) → IsQuiet old → wants true false false old.fifo ≡ false → rate_fits old.rate (rate_of before.medium) ≡ true
    → old.phase ≡ Execute execution → execution.task ≡ Read reading → reading.stage ≡ stages.Search search → PassesMany (head_of execution.head_drive) execution.steps last count search final before after
    → Courses count old before (reads_at execution.head_drive reading old last final) after
reading_courses old execution reading search final count last before after quiet low fits at is stage passes =
    let head_drive : ℕ = execution.head_drive in
    let begins : reads_at head_drive reading old execution.steps search ≡ old = ap (λ now. record old { phase = Execute (record execution { task = Read (at_stage reading now) }) }) (sym stage) ∙ ap (λ task. record old { phase = Execute (record execution { task = task }) }) (sym is) ∙ ap (λ phase. record old { phase = phase }) (sym at) in
    subst (λ fdc. Courses count fdc before (reads_at head_drive reading old last final) after) begins
    (courses_over 0 (head_of head_drive) old.rate (reads_at head_drive reading old) (reading_hears head_drive reading old quiet low) count execution.steps last search final before after (omega arith) fits passes)

-- ---- a write

-- a write in its search, after `steps` device steps
abbrev pub writes_at : ℕ → Writing → Fdc → ℕ → Search → Fdc
writes_at head_drive writing old steps search = record old { phase = Execute (record { head_drive = head_drive; steps = steps; task = Write (write_at writing (write_stages.Search search)) }) }

searches_on : (word : ℕ) (writing : Writing) (search next : Search) → HearsNothing word search next → StageHearsWord (write_at writing (write_stages.Search search)) false word (write_next.On (write_stages.Search next))
searches_on word writing search next hears = (
  (λ past deleted handed shut was. (omega (arith, was.0, length-append past.seen (word ∷ [])), (hears past (Some writing.wanted.key) was.1.0, was.1.1))),
  tt,
  omega arith,
  λ up. absurd (false≢true up),
  λ left some is no_index. absurd (cc is),
)

writing_hears : (head_drive : ℕ) (writing : Writing) (old : Fdc) → IsQuiet old → wants false false writing.counted old.fifo ≡ false → HearsEach 1 (head_of head_drive) old.rate (writes_at head_drive writing old)
writing_hears head_drive writing old quiet low steps word search next before after is =
    let at : Writing = write_at writing (write_stages.Search search) in
    let was : Fdc = writes_at head_drive writing old steps search in
    let new : Fdc = writes_at head_drive writing old (steps + 1) next in
    let keeps : old.asking ≡ wants false old.asking writing.counted old.fifo = quiet.down ∙ sym low ∙ ap (λ asking. wants false asking writing.counted old.fifo) (sym quiet.down) in
    let goes : new ≡ after_next head_drive (steps + 1) at (write_next.On (write_stages.Search next)) was = ap (λ asking. record new { asking = asking }) keeps in (
      works_on was new before after (record { head_drive = head_drive; steps = steps; task = Write at }) quiet.due refl (record {
        does = heard_time head_drive steps at was before after new refl (record {
          index = false;
          word = word;
          is = record { index_is = sym is.no_index; sees = sees_word 1 (head_of head_drive) old.rate steps word search next before after is; passes = is.passes };
          does = record { few = is.few; next = write_next.On (write_stages.Search next); hears = searches_on word writing search next is.hears; after_is = goes };
        });
        guards = λ first protects. absurd (omega (arith, first, is.some));
      }),
      record { request = refl; interrupt = refl; ended = refl; mark = refl },
    )

pub writing_courses : (old : Fdc) (execution : Execution) (writing : Writing) (search final : Search) (count last : ℕ) (before after : DriveState) → IsQuiet old → wants false false writing.counted old.fifo ≡ false → 1 ≤ execution.steps → rate_fits old.rate (rate_of before.medium) ≡ true
    → old.phase ≡ Execute execution → execution.task ≡ Write writing → writing.stage ≡ write_stages.Search search → PassesMany (head_of execution.head_drive) execution.steps last count search final before after
    → Courses count old before (writes_at execution.head_drive writing old last final) after
writing_courses old execution writing search final count last before after quiet low some fits at is stage passes =
    let head_drive : ℕ = execution.head_drive in
    let begins : writes_at head_drive writing old execution.steps search ≡ old = ap (λ now. record old { phase = Execute (record execution { task = Write (write_at writing now) }) }) (sym stage) ∙ ap (λ task. record old { phase = Execute (record execution { task = task }) }) (sym is) ∙ ap (λ phase. record old { phase = phase }) (sym at) in
    subst (λ fdc. Courses count fdc before (writes_at head_drive writing old last final) after) begins
    (courses_over 1 (head_of head_drive) old.rate (writes_at head_drive writing old) (writing_hears head_drive writing old quiet low) count execution.steps last search final before after some fits passes)
