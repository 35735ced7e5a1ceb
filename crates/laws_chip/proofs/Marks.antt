-- The mark of a field that is read. None is known as the command begins. Once the mark is met it stays. Before that no
-- byte passed.
use Rattle.std.proofs.Common.{◌≡◌, ◌⊎◌, inl, inr, ℕ, ◌+◌, ◌≤◌, Bool, true, false, ◌==◌, if◌then◌else◌, Option, Some, None, List, [], ◌∷◌, ◌++◌, length, refl, sym, ◌∙◌, ap, subst, arith, length-append}
use Rattle.laws_chip.proofs.Common.{false≢true, nil_from_length, Chrn, IsSizeCode, content_size, Past, new_past, heard, HasHeard, HasMark, IsOver, IsReading, KeepsMark, ReadOutcome, mark_at, Ending, Done, NoMark, NoSector, NoField, BadCheck, Overrun, NoCount, Late, phase_told, MayReadIn, MayReadTask, Sent, stepped, ExecutesTask, is_executing, ending_over, is_listening, ending_of_phase, mark_in, mark_of_phase, after_heard, at_stage, gone_on_reading, is_full, over_or_on, pushed, finished, ending_told, Long, Fdc, Phase, Execute, Reading, Task, Format, same_stage, starts, starts_given, FindsBadField, FollowsWord as Follows, Taking as Command, Result as Telling, ReadTask as Read, TaskReadId as ReadId, WriteTask as Write}
use Rattle.track_model.proofs.Sizes.{content_size_least}
use Rattle.track_separator.proofs.Lawful.{reads_within}
use Rattle.fdc_stages.proofs.Lawful.{over_full}
use Rattle.fdc_stages.specs.Readings.{FailsWell, IsFailure}
use Rattle.fdc_stages.specs.declared.reading.ReadStage.{ReadStage}
use Rattle.fdc_stages.specs.declared.reading.ReadStage.TheVariants.{Content, Over}
use Rattle.fdc_stages.specs.Readings as given

-- ---- as the command goes on, and as it ends

-- the mark that is then known. A failure adds none
abbrev pub mark_then : Option Bool → Phase → Option Bool
mark_then was (Execute execution) = mark_in execution.task
mark_then was (Telling (Long (Done marked) results read)) = Some marked
mark_then was _ = was

pub then_busy : (was : Option Bool) (phase : Phase) → is_executing phase ≡ true → mark_then was phase ≡ mark_of_phase phase
then_busy was (Execute execution) busy = refl
then_busy was _ busy = absurd (false≢true busy)

pub then_done : (was : Option Bool) (phase : Phase) (marked : Bool) → ending_of_phase phase ≡ Some (Done marked) → mark_then was phase ≡ Some marked
then_done was (Telling (Long ending results read)) marked is = let same : ending ≡ Done marked = cc is in ap (λ e. mark_then was (Telling (Long e results read))) same
then_done was _ marked is = absurd (cc is)

pub then_bad : (was : Option Bool) (phase : Phase) → ending_of_phase phase ≡ Some BadCheck → mark_then was phase ≡ was
then_bad was (Telling (Long ending results read)) is = let same : ending ≡ BadCheck = cc is in ap (λ e. mark_then was (Telling (Long e results read))) same
then_bad was _ is = absurd (cc is)

-- ---- ---- the mark stays

over_stays : (good counted empty marked m : Bool) (head_drive steps : ℕ) (reading : Reading) (fdc : Fdc) → mark_at reading.stage ≡ Some m → marked ≡ m
    → mark_then (Some m) (over_or_on (Some (ending_over good counted marked)) empty head_drive steps reading fdc).phase ≡ Some m
over_stays true true true marked m head_drive steps reading fdc is same = ap (λ b. Some b) same
over_stays good counted false marked m head_drive steps reading fdc is same = is
over_stays _ _ true marked m head_drive steps reading fdc is same = refl

goes_on_stays : (head_drive steps : ℕ) (reading : Reading) (stage : ReadStage) (m : Bool) (fdc : Fdc) → mark_at stage ≡ Some m
    → mark_then (Some m) (gone_on_reading head_drive steps (at_stage reading stage) fdc).phase ≡ Some m
goes_on_stays head_drive steps reading (Content separator marked) m fdc is = is
goes_on_stays head_drive steps reading (Over marked good) m fdc is =
    let same : marked ≡ m = cc is in
    over_stays good reading.counted (length fdc.fifo.bytes == 0) marked m head_drive steps (at_stage reading (Over marked good)) fdc is same
goes_on_stays head_drive steps reading _ m fdc is = absurd (cc is)

failure_stays : (ending : Ending) (m : Bool) (head_drive : ℕ) (key : Chrn) (fdc : Fdc) → IsFailure ending → mark_then (Some m) (finished ending head_drive key fdc).phase ≡ Some m
failure_stays NoMark m head_drive key fdc is = refl
failure_stays NoSector m head_drive key fdc is = refl
failure_stays NoField m head_drive key fdc is = refl
failure_stays ending m head_drive key fdc is = absurd is

heard_stays : (head_drive steps : ℕ) (reading : Reading) (m : Bool) (fdc : Fdc) (after : ReadOutcome) → HasMark m after → FailsWell after
    → mark_then (Some m) (after_heard head_drive steps reading after fdc).phase ≡ Some m
heard_stays head_drive steps reading m fdc (given.On stage) has well = goes_on_stays head_drive steps reading stage m fdc has
heard_stays head_drive steps reading m fdc (given.Byte stage value) has well = by_count reading.counted (is_full fdc)
  where
    by_count : (counted full : Bool) → mark_then (Some m) (if counted then gone_on_reading head_drive steps (at_stage reading stage) fdc
        else (if full then finished Overrun head_drive reading.wanted.key fdc else gone_on_reading head_drive steps (at_stage reading stage) (pushed value fdc))).phase ≡ Some m
    by_count true full = goes_on_stays head_drive steps reading stage m fdc has
    by_count false true = refl
    by_count false false = goes_on_stays head_drive steps reading stage m (pushed value fdc) has
heard_stays head_drive steps reading m fdc (given.Ended ending) has well = failure_stays ending m head_drive reading.wanted.key fdc well

has_mark : (stage : ReadStage) (m : Bool) (after : ReadOutcome) → mark_at stage ≡ Some m → KeepsMark stage after → HasMark m after
has_mark (Content separator marked) m after is keeps = let same : marked ≡ m = cc is in subst (λ b. HasMark b after) same keeps
has_mark (Over marked good) m after is keeps = let same : marked ≡ m = cc is in subst (λ b. HasMark b after) same keeps
has_mark _ m after is keeps = absurd (cc is)

-- ---- ---- before the mark no byte passed

none_told : (past : Past) (key : Chrn) (told : List ℕ) (stage : ReadStage) → mark_at stage ≡ None → IsReading past key told stage → told ≡ []
none_told past key told (Content separator marked) none was = absurd (cc none)
none_told past key told (Over marked good) none was = absurd (cc none)
none_told past key told _ none was = was.1

none_given : (given told : List ℕ) → told ≡ [] → ((rest : List ℕ) × (told ≡ given ++ rest)) → given ≡ []
none_given given told none (rest, is) =
    let lengths = ap length is in
    let joined = length-append given rest in
    let no_more = ap length none in
    nil_from_length given (omega arith)

-- ---- ---- a field whose CRC is wrong

over_bad : (good counted empty marked : Bool) (head_drive steps : ℕ) (reading : Reading) (fdc : Fdc)
    → ending_told (over_or_on (Some (ending_over good counted marked)) empty head_drive steps reading fdc) ≡ Some BadCheck → good ≡ false
over_bad true true true marked head_drive steps reading fdc is = let done : Some (Done marked) ≡ Some BadCheck = is in absurd (cc done)
over_bad true false true marked head_drive steps reading fdc is = let uncounted : Some NoCount ≡ Some BadCheck = is in absurd (cc uncounted)
over_bad false counted true marked head_drive steps reading fdc is = refl
over_bad good counted false marked head_drive steps reading fdc is = let none : None ≡ Some BadCheck = is in absurd (cc none)

-- the command ends with a wrong CRC only at a field that is over and isn't whole
bad_on : (head_drive steps : ℕ) (reading : Reading) (stage : ReadStage) (fdc : Fdc) → ending_told (gone_on_reading head_drive steps (at_stage reading stage) fdc) ≡ Some BadCheck
    → (marked : Bool) × (stage ≡ Over marked false)
bad_on head_drive steps reading (Over marked good) fdc is =
    (marked, ap (λ whole. Over marked whole) (over_bad good reading.counted (length fdc.fifo.bytes == 0) marked head_drive steps (at_stage reading (Over marked good)) fdc is))
bad_on head_drive steps reading _ fdc is = let none : None ≡ Some BadCheck = is in absurd (cc none)

-- the word gave at most one more byte of the field. A mark that was met is the field's own
record IsBadOver (past : Past) (key : Chrn) (told : List ℕ) (after : ReadOutcome) : Type 0 where
  marked : Bool
  bytes : List ℕ
  few : length bytes ≤ length told + 1
  over : IsOver past key bytes marked false
  own : (met : Bool) → HasMark met after → met ≡ marked

own_mark : (stage : ReadStage) (marked met : Bool) → stage ≡ Over marked false → mark_at stage ≡ Some met → met ≡ marked
own_mark stage marked met at is = let here : Some marked ≡ Some met = sym (ap mark_at at) ∙ is in cc here

bad_heard : (head_drive steps : ℕ) (reading : Reading) (past : Past) (told : List ℕ) (fdc : Fdc) (after : ReadOutcome) → HasHeard past reading.wanted.key told after → FailsWell after
    → ending_told (after_heard head_drive steps reading after fdc) ≡ Some BadCheck → IsBadOver past reading.wanted.key told after
bad_heard head_drive steps reading past told fdc (given.On stage) has well is =
    let (marked, at) = bad_on head_drive steps reading stage fdc is in
    record {
      marked = marked;
      bytes = told;
      few = omega arith;
      over = subst (IsReading past reading.wanted.key told) at has;
      own = λ met same. own_mark stage marked met at same;
    }
bad_heard head_drive steps reading past told fdc (given.Byte stage value) has well is =
    let (marked, at) = by_count reading.counted (is_full fdc) is in
    let longer = length-append told (value ∷ []) in
    record {
      marked = marked;
      bytes = told ++ value ∷ [];
      few = omega arith;
      over = subst (IsReading past reading.wanted.key (told ++ value ∷ [])) at has;
      own = λ met same. own_mark stage marked met at same;
    }
  where
    by_count : (counted full : Bool) → ending_told (if counted then gone_on_reading head_drive steps (at_stage reading stage) fdc
        else (if full then finished Overrun head_drive reading.wanted.key fdc else gone_on_reading head_drive steps (at_stage reading stage) (pushed value fdc))) ≡ Some BadCheck
        → (marked : Bool) × (stage ≡ Over marked false)
    by_count true full is = bad_on head_drive steps reading stage fdc is
    by_count false true is = let overrun : Some Overrun ≡ Some BadCheck = is in absurd (cc overrun)
    by_count false false is = bad_on head_drive steps reading stage (pushed value fdc) is
bad_heard head_drive steps reading past told fdc (given.Ended ending) has well is = let same : ending ≡ BadCheck = cc is in absurd (subst IsFailure same well)

-- where no mark was met, the field gave no byte, and no field is over after the next word
early : (past : Past) (key : Chrn) (told : List ℕ) (after : ReadOutcome) → IsSizeCode key.n → told ≡ [] → IsBadOver past key told after → ⊥
early past key told after sized none bad =
    let all = over_full past key bad.bytes bad.marked false bad.over in
    let least = content_size_least key.n sized.0 in
    let few = bad.few in
    let empty = ap length none in
    omega arith

met_mark : (past later : Past) (key : Chrn) (told : List ℕ) (stage : ReadStage) (after : ReadOutcome) → IsSizeCode key.n → IsReading past key told stage → KeepsMark stage after
    → (bad : IsBadOver later key told after) → mark_at stage ≡ Some bad.marked
met_mark past later key told (Content separator met) after sized was keeps bad = ap (λ b. Some b) (bad.own met keeps)
met_mark past later key told (Over met good) after sized was keeps bad = ap (λ b. Some b) (bad.own met keeps)
met_mark past later key told _ after sized was keeps bad = absurd (early later key told after sized was.1 bad)

bad_field : (past : Past) (key : Chrn) (told : List ℕ) (marked : Bool) → IsSizeCode key.n → IsOver past key told marked false → FindsBadField past key marked
bad_field past key told marked sized (turn, among, (p, q, over)) = (
  turn,
  p,
  q,
  record { among = among; address = over.address; field = record { coded = sized; first = over.ended.first; inside = over.ended.inside } },
  λ intact. false≢true ((over.tells key.n refl).1 intact),
)

-- where a command ends with a wrong CRC, the mark of that field was known
abbrev pub EndsBadly : Past → Chrn → Option Bool → Fdc → Type 0
EndsBadly past key mark fdc = IsSizeCode key.n → ending_told fdc ≡ Some BadCheck → (marked : Bool) × (mark ≡ Some marked) × FindsBadField past key marked

-- ---- both, in a device step

-- either no mark was known and no byte had passed, or the mark is as it was
abbrev pub MarkStays : List ℕ → Option Bool → Option Bool → Type 0
MarkStays bytes was now = ((was ≡ None) × (bytes ≡ [])) ⊎ (now ≡ was)

module _ (past : Past) (sent : Sent) (index : Bool) (word : ℕ) (polls new : Fdc) where
  known_stays : (head_drive steps : ℕ) (reading : Reading) (m : Bool) → mark_at reading.stage ≡ Some m → ExecutesTask true head_drive steps (Read reading) index word polls new
      → mark_then (Some m) new.phase ≡ Some m
  known_stays head_drive steps reading m is (inl (last, after)) = ap (λ fdc. mark_then (Some m) fdc.phase) after
  known_stays head_drive steps reading m is (inr (few, (after, hears, then_is))) =
      ap (λ fdc. mark_then (Some m) fdc.phase) then_is ∙ heard_stays head_drive (steps + 1) reading m polls after (has_mark reading.stage m after is hears.2) hears.1

  in_task : (head_drive steps : ℕ) (task : Task) (asking : Bool) (fifo : List ℕ) → ExecutesTask (is_listening task) head_drive steps task index word polls new
      → MayReadTask past sent head_drive steps task asking fifo → MarkStays past.given (mark_in task) (mark_then (mark_in task) new.phase)
  in_task head_drive steps (Read reading) asking fifo executes (asks, (told, was)) = by_mark (mark_at reading.stage) refl
    where
      by_mark : (mark : Option Bool) → mark_at reading.stage ≡ mark → MarkStays past.given (mark_at reading.stage) (mark_then (mark_at reading.stage) new.phase)
      by_mark None none = inl (
        none,
        none_given past.given told (none_told past reading.wanted.key told reading.stage none was.reads)
            (starts_given past.given fifo told (starts reading.counted (past.given ++ fifo) told was.bytes_are)),
      )
      by_mark (Some m) is = inr (subst (λ mark. mark_then mark new.phase ≡ mark) (sym is) (known_stays head_drive steps reading m is executes))
  in_task head_drive steps _ asking fifo executes was = absurd was

  pub step_stays : (phase : Phase) (old : Fdc) → is_executing phase ≡ true → Follows phase polls index word old new → MayReadIn past sent phase old.asking old.fifo.bytes
      → MarkStays past.given (mark_of_phase phase) (mark_then (mark_of_phase phase) new.phase)
  step_stays Command old busy follows was = absurd was
  step_stays (Telling answer) old busy follows was = absurd (false≢true busy)
  step_stays (Execute execution) old busy follows was =
      in_task execution.head_drive execution.steps execution.task old.asking old.fifo.bytes follows.executes was

  known_bad : (head_drive steps : ℕ) (reading : Reading) (asking : Bool) (fifo : List ℕ) → ExecutesTask true head_drive steps (Read reading) index word polls new
      → MayReadTask past sent head_drive steps (Read reading) asking fifo → EndsBadly (heard index word (stepped past)) sent.key (mark_at reading.stage) new
  known_bad head_drive steps reading asking fifo (inl (last, after)) was sized is =
      let late : Some Late ≡ Some BadCheck = sym (ap ending_told after) ∙ is in absurd (cc late)
  known_bad head_drive steps reading asking fifo (inr (few, (after, hears, then_is))) (asks, (told, was)) sized is =
      let key = reading.wanted.key in
      let same : key ≡ sent.key = ap (λ s. s.key) was.sent_is in
      let coded : IsSizeCode key.n = subst (λ k. IsSizeCode k.n) (sym same) sized in
      let later = heard index word (stepped past) in
      let has : HasHeard later key told after = hears.0 (stepped past) told (same_stage past.given (past.steps + 1) past.counted past key told reading.stage was.reads) in
      let bad = bad_heard head_drive (steps + 1) reading later told polls after has hears.1 (sym (ap ending_told then_is) ∙ is) in (
        bad.marked,
        met_mark past later key told reading.stage after coded was.reads hears.2 bad,
        subst (λ k. FindsBadField later k bad.marked) same (bad_field later key bad.bytes bad.marked coded bad.over),
      )

  bad_task : (head_drive steps : ℕ) (task : Task) (asking : Bool) (fifo : List ℕ) → ExecutesTask (is_listening task) head_drive steps task index word polls new
      → MayReadTask past sent head_drive steps task asking fifo → EndsBadly (heard index word (stepped past)) sent.key (mark_in task) new
  bad_task head_drive steps (Read reading) asking fifo executes was = known_bad head_drive steps reading asking fifo executes was
  bad_task head_drive steps _ asking fifo executes was = absurd was

  pub step_bad : (phase : Phase) (old : Fdc) → is_executing phase ≡ true → Follows phase polls index word old new → MayReadIn past sent phase old.asking old.fifo.bytes
      → EndsBadly (heard index word (stepped past)) sent.key (mark_of_phase phase) new
  step_bad Command old busy follows was = absurd was
  step_bad (Telling answer) old busy follows was = absurd (false≢true busy)
  step_bad (Execute execution) old busy follows was = bad_task execution.head_drive execution.steps execution.task old.asking old.fifo.bytes follows.executes was

-- ---- the terminal count

task_mark : (head_drive steps : ℕ) (task : Task) → mark_of_phase (phase_told (Execute (record { head_drive = head_drive; steps = steps; task = task }))) ≡ mark_in task
task_mark head_drive steps (ReadId search) = refl
task_mark head_drive steps (Read reading) = refl
task_mark head_drive steps (Write writing) = refl
task_mark head_drive steps (Format formatting) = refl

pub told_mark : (phase : Phase) → mark_of_phase (phase_told phase) ≡ mark_of_phase phase
told_mark (Execute execution) = task_mark execution.head_drive execution.steps execution.task
told_mark _ = refl

-- ---- as the command begins

fresh_stage : (key : Chrn) (told : List ℕ) (stage : ReadStage) → IsReading new_past key told stage → mark_at stage ≡ None
fresh_stage key told (Content separator marked) (p, q, taken, was) =
    let within = reads_within separator [] p q marked (content_size key.n) taken was.reads in absurd (omega arith)
fresh_stage key told (Over marked good) (turn, inl none, (p, q, over)) =
    let inside = over.ended.inside in
    let no_words = ap length none in
    absurd (omega arith)
fresh_stage key told (Over marked good) (turn, inr among, over) = absurd among
fresh_stage key told _ was = refl

pub fresh_mark : (sent : Sent) (phase : Phase) (asking : Bool) (fifo : List ℕ) → MayReadIn new_past sent phase asking fifo → mark_of_phase phase ≡ None
fresh_mark sent Command asking fifo was = refl
fresh_mark sent (Telling answer) asking fifo was = refl
fresh_mark sent (Execute execution) asking fifo was = fresh_task execution.head_drive execution.steps execution.task was
  where
    fresh_task : (head_drive steps : ℕ) (task : Task) → MayReadTask new_past sent head_drive steps task asking fifo → mark_in task ≡ None
    fresh_task head_drive steps (Read reading) (asks, (told, was)) = fresh_stage reading.wanted.key told reading.stage was.reads
    fresh_task head_drive steps _ was = refl
