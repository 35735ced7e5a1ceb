-- What a device step, a transfer and the terminal count leave of a READ DATA.
use Rattle.std.proofs.Common.{rules, ◌≡◌, ℕ, ◌+◌, Bool, true, false, not, ◌&&◌, if◌then◌else◌, ◌==◌, List, [], ◌∷◌, ◌++◌, length, min, drop, get_or, Option, Some, IfSome, refl, sym, ap, subst, ◌∙◌, arith, inl, inr, append_assoc, None}
use Rattle.fdc_core.proofs.Common.{false≢true, nat_tests, Chrn, content_size, reads_mark, reads_within, Past, heard, words_heard, IsStart, IsReading, HasRead, HasHeard, FailsWell, IsFailure, IsToldOf, Ending, NoMark, NoSector, NoField, Overrun, NoCount, Late, ReadOutcome, ReadStage, Wait, Content, Over, over_told, told_stays, heard_count, DriveState, MayRead, Sent, sent_of, IsUnderway, HasEndedAs, IsSpent, MayReadIn, MayReadTask, told_in, stepped, gave, SeesWord, is_executing, after_step, Hears, StageHears, finished, Fifo, key_after, results_of, fifo_told, asking_told, phase_asks, task_asks, phase_told, task_told, ending_at, ending_over, ending_of, is_read, is_reading, moves_bytes, is_moving, key_as_sent, over_or_on, gone_on_reading, after_heard, at_stage, pushed, is_full, Fdc, Reading, Execution, Phase, Command, Execute, Result, Task, ReadId, Read, Write, Format, DataRate, Separator, IsAmong, IsSearching, IsMet, IsMissed, HasSearched, HasAddress, Search, SearchOutcome, no_key, MayReadId, MayReadIdIn, MayReadIdTask, IdentifiedAs, after_searched}
use Rattle.fdc_stages.specs.Readings.{IsOver}
use Rattle.fdc_stages.specs.Readings as given
use Rattle.fdc_stages.specs.Searches as searched

-- ---- the stage, apart from what else passed

-- the same words, with other bytes, steps or terminal count
abbrev pub moved : List ℕ → ℕ → Bool → Past → Past
moved given steps counted past = record past { given = given; steps = steps; counted = counted }

pub same_stage : (bytes : List ℕ) (steps : ℕ) (counted : Bool) (past : Past) (key : Chrn) (told : List ℕ) (stage : ReadStage) → IsReading past key told stage → IsReading (moved bytes steps counted past) key told stage
same_stage bytes steps counted past key told (Wait separator) ((p, at), none) =
    ((p, record { address = at.address; waits = at.waits; few = at.few }), none)
same_stage bytes steps counted past key told (Content separator deleted) (p, q, taken, at) =
    (p, q, taken, record { address = at.address; reads = at.reads; bytes = at.bytes; few = at.few })
same_stage bytes steps counted past key told _ was = was

-- what a stage gave is of a field of the key
pub told_of : (past : Past) (key : Chrn) (told : List ℕ) (stage : ReadStage) → IsReading past key told stage → IsToldOf past key told
told_of past key told (Content separator deleted) (p, q, taken, was) =
    let within = reads_within separator past.seen p q deleted (content_size key.n) taken was.reads in
    inr (
      past.seen,
      inl refl,
      (
        p,
        q,
        min taken (content_size key.n),
        deleted,
        record {
          address = was.address;
          mark = reads_mark separator past.seen p q deleted (content_size key.n) taken was.reads;
          most = omega arith;
          inside = omega arith;
          bytes = was.bytes;
        },
      ),
    )
told_of past key told (Over deleted good) was = over_told past key told deleted good was
told_of past key told _ was = inl was.1

-- ---- the bytes

-- the bytes that the stage gave begin with these
pub starts : (counted : Bool) (bytes told : List ℕ) → IsStart counted bytes told → (rest : List ℕ) × (told ≡ bytes ++ rest)
starts false bytes told is = ([], search (rules, sym is))
starts true bytes told was = was

-- the bytes that the stage gave begin with those that were given to memory, whatever was in the FIFO
pub starts_given : (given fifo told : List ℕ) → ((rest : List ℕ) × (told ≡ (given ++ fifo) ++ rest)) → (rest : List ℕ) × (told ≡ given ++ rest)
starts_given given fifo told (rest, is) = (fifo ++ rest, is ∙ append_assoc given fifo rest)

-- the stage gave one byte more
pub told_more : (bytes told : List ℕ) (value : ℕ) → IsStart true bytes told → IsStart true bytes (told ++ value ∷ [])
told_more bytes told value (rest, is) = (rest ++ value ∷ [], ap (λ all. all ++ value ∷ []) is ∙ append_assoc bytes rest (value ∷ []))

-- ---- what was not given

spent_none : (ending : Ending) → IsSpent ending []
spent_none NoCount = refl
spent_none _ = tt

spent_failure : (ending : Ending) (rest : List ℕ) → IsFailure ending → IsSpent ending rest
spent_failure NoCount rest is = absurd is
spent_failure _ rest is = tt

spent_counted : (past : Past) (key : Chrn) (told : List ℕ) (ending : Ending) (rest : List ℕ) → past.counted ≡ true → HasRead past key told ending → IsSpent ending rest
spent_counted past key told NoCount rest counted read = absurd (false≢true (sym read.cause.0 ∙ counted))
spent_counted past key told _ rest counted read = tt

nothing_of : (bytes : List ℕ) → (length bytes == 0) ≡ true → bytes ≡ []
nothing_of [] none = refl
nothing_of (byte ∷ bytes) none = absurd (grind (arith, nat_tests))

-- what the stage gave, once the FIFO is empty
pub record IsGiven (ending : Ending) (given told : List ℕ) : Type 0 where
  pub rest : List ℕ
  pub bytes_are : told ≡ given ++ rest
  pub spent : IsSpent ending rest

all_given : (past : Past) (key : Chrn) (fifo told : List ℕ) (ending : Ending) (counted : Bool) → past.counted ≡ counted → HasRead past key told ending
    → IsStart counted (past.given ++ fifo) told → (length fifo == 0) ≡ true → IsGiven ending past.given told
all_given past key fifo told ending false same read start none =
    record { rest = []; bytes_are = sym start ∙ ap (λ bytes. past.given ++ bytes) (nothing_of fifo none); spent = spent_none ending }
all_given past key fifo told ending true same read start none =
    let (rest, all) = starts_given past.given fifo told start in
    record { rest = rest; bytes_are = all; spent = spent_counted past key told ending rest same read }

-- ---- a field that is over

ended_over : (past : Past) (key : Chrn) (told : List ℕ) (deleted good counted : Bool) → IsOver past key told deleted good → past.counted ≡ counted → HasRead past key told (ending_over good counted deleted)
ended_over past key told deleted true true over is = record { bytes = over_told past key told deleted true over; cause = (is, over) }
ended_over past key told deleted true false over is = record { bytes = over_told past key told deleted true over; cause = (is, (deleted, over)) }
ended_over past key told deleted false counted over is = record { bytes = over_told past key told deleted false over; cause = (deleted, over) }

ended_at : (past : Past) (key : Chrn) (told : List ℕ) (stage : ReadStage) (counted : Bool) → IsReading past key told stage → past.counted ≡ counted → IfSome (ending_at stage counted) (λ ending. HasRead past key told ending)
ended_at past key told (Over deleted good) counted was is = ended_over past key told deleted good counted was is
ended_at past key told _ counted was is = tt

-- ---- what follows a word

asks_bytes : (empty rest : Bool) → (not empty && rest) ≡ true → empty ≡ false
asks_bytes true rest is = absurd (false≢true is)
asks_bytes false rest is = refl

-- a failure gives the key as it was sent
failure_key : (ending : Ending) (key : Chrn) (last_sector : ℕ) → IsFailure ending → key ≡ key_after ending key last_sector
failure_key NoMark key last_sector is = refl
failure_key NoSector key last_sector is = refl
failure_key NoField key last_sector is = refl
failure_key _ key last_sector is = absurd is

module _ (past : Past) (head_drive steps : ℕ) (old : Fdc) where
  over_on : (ending : Option Ending) (empty : Bool) (reading : Reading) (told : List ℕ) → (length old.fifo.bytes == 0) ≡ empty → IfSome ending (λ e. HasRead past reading.wanted.key told e) → IsUnderway past (sent_of head_drive reading) head_drive reading steps (past.given ++ old.fifo.bytes) told → MayRead past (sent_of head_drive reading) (over_or_on ending empty head_drive steps reading old)
  over_on (Some ending) true reading told none ends is =
      let all = all_given past reading.wanted.key old.fifo.bytes told ending reading.counted is.counted_is ends is.bytes_are none in
      (refl, (told, record { read = ends; rest = all.rest; bytes_are = all.bytes_are; spent = all.spent }))
  over_on _ _ reading told none ends is = (asks_bytes (length old.fifo.bytes == 0) _, (told, is))

  on_reads : (reading : Reading) (told : List ℕ) → IsUnderway past (sent_of head_drive reading) head_drive reading steps (past.given ++ old.fifo.bytes) told → MayRead past (sent_of head_drive reading) (gone_on_reading head_drive steps reading old)
  on_reads reading told is =
      over_on (ending_of reading) (length old.fifo.bytes == 0) reading told refl (ended_at past reading.wanted.key told reading.stage reading.counted is.reads is.counted_is) is

  -- the bytes begin with what was given
  ended_reads : (key : Chrn) (ending : Ending) (counted : Bool) (told : List ℕ) → IsFailure ending → HasRead past key told ending → IsStart counted (past.given ++ old.fifo.bytes) told → HasEndedAs past key ending told
  ended_reads key ending counted told fails read start =
      let (rest, all) = starts_given past.given old.fifo.bytes told (starts counted (past.given ++ old.fifo.bytes) told start) in
      record { read = read; rest = rest; bytes_are = all; spent = spent_failure ending rest fails }

module _ (past : Past) (head_drive steps : ℕ) (old : Fdc) (reading : Reading) (counted_is : past.counted ≡ reading.counted) (steps_are : past.steps ≡ steps) (heard_are : words_heard past ≡ steps) where
  -- a byte came
  byte_reads : (counted full : Bool) (value : ℕ) (told : List ℕ) → reading.counted ≡ counted → IsReading past reading.wanted.key (told ++ value ∷ []) reading.stage → IsStart counted (past.given ++ old.fifo.bytes) told
      → MayRead past (sent_of head_drive reading) (if counted then gone_on_reading head_drive steps reading old else (if full then finished Overrun head_drive reading.wanted.key old else gone_on_reading head_drive steps reading (pushed value old)))
  byte_reads true full value told is reads start = on_reads past head_drive steps old reading (told ++ value ∷ []) (record {
    sent_is = refl;
    counted_is = counted_is;
    steps_are = steps_are;
    heard_are = heard_are;
    reads = reads;
    bytes_are = subst (λ c. IsStart c (past.given ++ old.fifo.bytes) (told ++ value ∷ [])) (sym is) (told_more (past.given ++ old.fifo.bytes) told value start);
  })
  byte_reads false true value told is reads start =
      let (rest, all) = starts_given past.given old.fifo.bytes (told ++ value ∷ []) (value ∷ [], ap (λ bytes. bytes ++ value ∷ []) (sym start)) in (
        refl,
        (
          told ++ value ∷ [],
          record {
            read = record { bytes = told_of past reading.wanted.key (told ++ value ∷ []) reading.stage reads; cause = counted_is ∙ is };
            rest = rest;
            bytes_are = all;
            spent = tt;
          },
        ),
      )
  byte_reads false false value told is reads start = on_reads past head_drive steps (pushed value old) reading (told ++ value ∷ []) (record {
    sent_is = refl;
    counted_is = counted_is;
    steps_are = steps_are;
    heard_are = heard_are;
    reads = reads;
    bytes_are = subst (λ c. IsStart c (past.given ++ (old.fifo.bytes ++ value ∷ [])) (told ++ value ∷ [])) (sym is) (sym (append_assoc past.given old.fifo.bytes (value ∷ [])) ∙ ap (λ bytes. bytes ++ value ∷ []) start);
  })

module _ (past : Past) (head_drive steps : ℕ) (old : Fdc) (reading : Reading) (told : List ℕ) (counted_is : past.counted ≡ reading.counted) (steps_are : past.steps ≡ steps) (heard_are : words_heard past ≡ steps) (start : IsStart reading.counted (past.given ++ old.fifo.bytes) told) where
  follow_reads : (heard : ReadOutcome) → HasHeard past reading.wanted.key told heard → FailsWell heard → MayRead past (sent_of head_drive reading) (after_heard head_drive steps reading heard old)
  follow_reads (given.On stage) reads well =
      on_reads past head_drive steps old (at_stage reading stage) told (record { sent_is = refl; counted_is = counted_is; steps_are = steps_are; heard_are = heard_are; reads = reads; bytes_are = start })
  follow_reads (given.Byte stage value) reads well =
      byte_reads past head_drive steps old (at_stage reading stage) counted_is steps_are heard_are reading.counted (is_full old) value told refl reads start
  follow_reads (given.Ended ending) read well = (
    ap (λ key. results_of ending head_drive key) (failure_key ending reading.wanted.key reading.last_sector well),
    (told, ended_reads past head_drive steps old reading.wanted.key ending reading.counted told well read start),
  )

-- a READ DATA follows the word that it heard
hear_reads : (index : Bool) (word head_drive steps : ℕ) (reading : Reading) (after : ReadOutcome) (old new : Fdc) → StageHears reading.wanted.key index word reading.stage after → new ≡ after_heard head_drive (steps + 1) reading after old
    → (past : Past) (sent : Sent) (told : List ℕ) → IsUnderway past sent head_drive reading steps (past.given ++ old.fifo.bytes) told → MayRead (heard index word (stepped past)) sent new
hear_reads index word head_drive steps reading after old new hears is past sent told was =
    let later = heard index word (stepped past) in
    subst (λ fdc. MayRead later sent fdc) (sym is) (subst (λ s. MayRead later s (after_heard head_drive (steps + 1) reading after old)) was.sent_is
    (follow_reads later head_drive (steps + 1) old reading told was.counted_is (ap (λ n. n + 1) was.steps_are) (heard_count index word (stepped past) ∙ ap (λ n. n + 1) was.heard_are) was.bytes_are after
    (hears.0 (stepped past) told (same_stage past.given (past.steps + 1) past.counted past reading.wanted.key told reading.stage was.reads)) hears.1))

pub hears_reads : (index : Bool) (word head_drive steps : ℕ) (task : Task) (old new : Fdc) → Hears head_drive (steps + 1) task index word old new
    → (past : Past) (sent : Sent) → MayReadTask past sent head_drive steps task old.asking old.fifo.bytes → MayRead (heard index word (stepped past)) sent new
hears_reads index word head_drive steps (Read reading) old new (after, hears, is) past sent (asks, (told, was)) =
    hear_reads index word head_drive steps reading after old new hears is past sent told was
hears_reads index word head_drive steps _ old new hears past sent was = absurd was

-- the last step ends it
late_underway : (index : Bool) (word : ℕ) (past : Past) (sent : Sent) (head_drive : ℕ) (reading : Reading) (fifo told : List ℕ) → IsUnderway past sent head_drive reading 65535 (past.given ++ fifo) told → HasEndedAs (heard index word (stepped past)) reading.wanted.key Late told
late_underway index word past sent head_drive reading fifo told was =
    let (rest, all) = starts_given past.given fifo told (starts reading.counted (past.given ++ fifo) told was.bytes_are) in
    let steps = was.steps_are in
    record {
      read = record { bytes = told_stays index word (stepped past) reading.wanted.key told (told_of past reading.wanted.key told reading.stage was.reads); cause = omega arith };
      rest = rest;
      bytes_are = all;
      spent = tt;
    }

late_task : (index : Bool) (word : ℕ) (past : Past) (sent : Sent) (head_drive steps : ℕ) (task : Task) (old : Fdc) → steps ≡ 65535 → MayReadTask past sent head_drive steps task old.asking old.fifo.bytes → MayRead (heard index word (stepped past)) sent (finished Late head_drive (key_as_sent task) old)
late_task index word past sent head_drive steps (Read reading) old is (asks, (told, was)) =
    subst (λ s. MayRead (heard index word (stepped past)) s (finished Late head_drive reading.wanted.key old)) was.sent_is
    (refl, (told, late_underway index word past sent head_drive reading old.fifo.bytes told (subst (λ n. IsUnderway past sent head_drive reading n (past.given ++ old.fifo.bytes) told) is was)))
late_task index word past sent head_drive steps _ old is was = absurd was

-- the last step ends the command
pub late_reads : (index : Bool) (word head_drive steps : ℕ) (task : Task) (old new : Fdc) → steps ≡ 65535 → new ≡ finished Late head_drive (key_as_sent task) old
    → (past : Past) (sent : Sent) → MayReadTask past sent head_drive steps task old.asking old.fifo.bytes → MayRead (heard index word (stepped past)) sent new
late_reads index word head_drive steps task old new last is past sent was =
    subst (λ fdc. MayRead (heard index word (stepped past)) sent fdc) (sym is) (late_task index word past sent head_drive steps task old last was)

-- outside execution nothing passes
pub rests_sees : (phase : Phase) → ((execution : Execution) → phase ≡ Execute execution → ⊥) → (rate : DataRate) (before after : DriveState) → SeesWord phase rate before 0 after
rests_sees (Execute execution) other rate before after = absurd (other execution refl)
rests_sees _ other rate before after = tt

pub rests_reads : (phase : Phase) → ((execution : Execution) → phase ≡ Execute execution → ⊥) → (index asking : Bool) (fifo : List ℕ) (past : Past) (sent : Sent) → MayReadIn past sent phase asking fifo → MayReadIn (after_step (is_executing phase) index 0 past) sent phase asking fifo
rests_reads (Execute execution) other index asking fifo past sent was = absurd (other execution refl)
rests_reads _ other index asking fifo past sent was = was

-- ---- a byte goes to memory

out_task : (past : Past) (sent : Sent) (head_drive steps : ℕ) (task : Task) (asking on : Bool) (bytes : List ℕ) (threshold : ℕ) → asking ≡ true → MayReadTask past sent head_drive steps task asking bytes
    → MayReadTask (gave (get_or bytes 0 0xFF) past) sent head_drive steps task (task_asks task asking (record { bytes = drop 1 bytes; on = on; threshold = threshold })) (drop 1 bytes)
out_task past sent head_drive steps (ReadId search) asking on bytes threshold up was = absurd was
out_task past sent head_drive steps (Write writing) asking on bytes threshold up was = absurd was
out_task past sent head_drive steps (Format formatting) asking on bytes threshold up was = absurd was
out_task past sent head_drive steps (Read reading) asking on [] threshold up (asks, was) = absurd (false≢true (sym (asks up)))
out_task past sent head_drive steps (Read reading) asking on (byte ∷ rest) threshold up (asks, (told, was)) = (
  asks_bytes (length rest == 0) _,
  (
    told,
    record {
      sent_is = was.sent_is;
      counted_is = was.counted_is;
      steps_are = was.steps_are;
      heard_are = was.heard_are;
      reads = same_stage (past.given ++ byte ∷ []) past.steps past.counted past reading.wanted.key told reading.stage was.reads;
      bytes_are = subst (λ bytes. IsStart reading.counted bytes told) (sym (append_assoc past.given (byte ∷ []) rest)) was.bytes_are;
    },
  ),
)

pub out_reads : (past : Past) (sent : Sent) (phase : Phase) (asking : Bool) (fifo : Fifo) → asking ≡ true → is_reading phase ≡ true → MayReadIn past sent phase asking fifo.bytes
    → MayReadIn (gave (get_or fifo.bytes 0 0xFF) past) sent phase (phase_asks phase asking (record fifo { bytes = drop 1 fifo.bytes })) (drop 1 fifo.bytes)
out_reads past sent Command asking fifo up is was = absurd was
out_reads past sent (Result answer) asking fifo up is was = absurd (false≢true is)
out_reads past sent (Execute execution) asking fifo up is was = out_task past sent execution.head_drive execution.steps execution.task asking fifo.on fifo.bytes fifo.threshold up was

-- ---- the terminal count

told_task : (past : Past) (sent : Sent) (head_drive steps : ℕ) (task : Task) (asking : Bool) (fifo : Fifo) → MayReadTask past sent head_drive steps task asking fifo.bytes
    → MayReadTask (told_in true past) sent head_drive steps (task_told task) (asking_told (moves_bytes task) asking) (fifo_told (is_read task) fifo).bytes
told_task past sent head_drive steps (Read reading) asking fifo (asks, (told, was)) =
    let (rest, all) = starts_given past.given fifo.bytes told (starts reading.counted (past.given ++ fifo.bytes) told was.bytes_are) in (
      λ up. absurd (false≢true up),
      (
        told,
        record {
          sent_is = was.sent_is;
          counted_is = refl;
          steps_are = was.steps_are;
          heard_are = was.heard_are;
          reads = same_stage past.given past.steps true past reading.wanted.key told reading.stage was.reads;
          bytes_are = (rest, all ∙ sym (append_assoc past.given [] rest));
        },
      ),
    )
told_task past sent head_drive steps _ asking fifo was = absurd was

pub told_reads : (past : Past) (sent : Sent) (phase : Phase) (asking : Bool) (fifo : Fifo) → MayReadIn past sent phase asking fifo.bytes
    → MayReadIn (told_in (is_executing phase) past) sent (phase_told phase) (asking_told (is_moving phase) asking) (fifo_told (is_reading phase) fifo).bytes
told_reads past sent Command asking fifo was = absurd was
told_reads past sent (Result answer) asking fifo was = was
told_reads past sent (Execute execution) asking fifo was = told_task past sent execution.head_drive execution.steps execution.task asking fifo was

-- ---- a result byte is read

pub second_true : (a b : Bool) → (a && b) ≡ true → b ≡ true
second_true true b is = is
second_true false b is = absurd (false≢true is)

-- ---- what a device step leaves of a READ ID

met_address : (index : Bool) (past : Past) (key : Chrn) (separator : Separator) → IsMet index past key separator → HasAddress past key
met_address false past key separator (p, met) = (past.seen, p, record { among = inl refl; address = met.address })
met_address true past key separator (turn, p, met) =
    (turn, p, record { among = inr (subst (λ turns. IsAmong turns turn) (sym met.over.last) (inl refl)); address = met.address })

missed_id : (past : Past) (sent : ℕ) (ending : Ending) → IsMissed past None ending → IdentifiedAs past sent ending (results_of ending sent no_key)
missed_id past sent NoMark is = (refl, is)
missed_id past sent NoSector is = (refl, is)
missed_id past sent _ is = absurd is

follow_id : (index : Bool) (past : Past) (head_drive steps : ℕ) (old : Fdc) (after : SearchOutcome) → past.steps ≡ steps → words_heard past ≡ steps → HasSearched index past None after → MayReadId past head_drive (after_searched head_drive steps after old)
follow_id index past head_drive steps old (searched.On search) counts hears is = record { sent_is = refl; steps_are = counts; heard_are = hears; searches = is }
follow_id index past head_drive steps old (searched.Met key separator) counts hears is = (refl, met_address index past key separator is.1)
follow_id index past head_drive steps old (searched.Missed ending) counts hears is = missed_id past head_drive ending is

same_search : (past : Past) (search : Search) → IsSearching past None search → IsSearching (stepped past) None search
same_search past search is = is

-- a READ ID follows the word that it heard
pub hears_identifies : (index : Bool) (word head_drive steps : ℕ) (task : Task) (old new : Fdc) → Hears head_drive (steps + 1) task index word old new
    → (past : Past) (sent : ℕ) → MayReadIdTask past sent head_drive steps task → MayReadId (heard index word (stepped past)) sent new
hears_identifies index word head_drive steps (ReadId search) old new (after, hears, is) past sent was =
    let later = heard index word (stepped past) in
    subst (λ fdc. MayReadId later sent fdc) (sym is) (subst (λ s. MayReadId later s (after_searched head_drive (steps + 1) after old)) was.sent_is
    (follow_id index later head_drive (steps + 1) old after (ap (λ n. n + 1) was.steps_are) (heard_count index word (stepped past) ∙ ap (λ n. n + 1) was.heard_are) (hears.0 (stepped past) (same_search past search was.searches))))
hears_identifies index word head_drive steps _ old new hears past sent was = absurd was

late_id_task : (index : Bool) (word : ℕ) (past : Past) (sent head_drive steps : ℕ) (task : Task) (old : Fdc) → steps ≡ 65535 → MayReadIdTask past sent head_drive steps task → MayReadId (heard index word (stepped past)) sent (finished Late head_drive (key_as_sent task) old)
late_id_task index word past sent head_drive steps (ReadId search) old last was =
    let counts = was.steps_are in
    subst (λ s. MayReadId (heard index word (stepped past)) s (finished Late head_drive no_key old)) was.sent_is (refl, omega arith)
late_id_task index word past sent head_drive steps _ old last was = absurd was

-- the last step ends the command
pub late_identifies : (index : Bool) (word head_drive steps : ℕ) (task : Task) (old new : Fdc) → steps ≡ 65535 → new ≡ finished Late head_drive (key_as_sent task) old
    → (past : Past) (sent : ℕ) → MayReadIdTask past sent head_drive steps task → MayReadId (heard index word (stepped past)) sent new
late_identifies index word head_drive steps task old new last is past sent was =
    subst (λ fdc. MayReadId (heard index word (stepped past)) sent fdc) (sym is) (late_id_task index word past sent head_drive steps task old last was)

pub rests_identifies : (phase : Phase) → ((execution : Execution) → phase ≡ Execute execution → ⊥) → (index : Bool) (past : Past) (sent : ℕ) → MayReadIdIn past sent phase → MayReadIdIn (after_step (is_executing phase) index 0 past) sent phase
rests_identifies (Execute execution) other index past sent was = absurd (other execution refl)
rests_identifies _ other index past sent was = was
