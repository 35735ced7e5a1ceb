-- DRQ by the FIFO's rule, and how long the controller can wait while it is low.
use Rattle.std.proofs.Common.{◌≡◌, ◌⊎◌, ◌<◌, ◌≤◌, ℕ, ◌-◌, Bool, true, false, not, ◌&&◌, ◌||◌, if◌then◌else◌, ◌==◌, List, [], ◌∷◌, ◌++◌, length, drop, bit_and, nat_le, max, refl, sym, ap, subst, ◌∙◌, arith, inl, inr, length-append, length-drop, ◌+◌, Some}
use Rattle.fdc_core.proofs.Common.{false≢true, eqb-true, nat_tests, Fifo, room_of, worth_fetching, low_level, wants, with_byte, taken_out, taken_in, fifo_told, asking_told, told_count, task_asks, phase_asks, task_told, phase_told, is_over, is_read, is_reading, moves_bytes, is_moving, asks, is_gated, is_held, Stays, polled, seek_stepped, with_polls, CanWait, Feeds, TaskWaits, PhaseWaits, Fdc, Phase, Execute, Task, ReadId, Read, Write, Format, DriveState, at_index, IsMiss, MissesWell, IsFailure, Ending, NoMark, NoSector, NoField, Overrun, ReadOutcome, ReadStage, SearchOutcome, Chrn, no_key, SeesWord, Listens, ListensToNone, StepHears, Follows, StepsOn, ExecutesTask, ExecutesIn, OverrunsIn, OverrunsTask, FindsFull, Hears, StageHears, is_listening, ending_at, ending_over, is_overrun, after_searched, after_heard, over_or_on, gone_on_reading, at_stage, pushed, is_full, finished, TaskSteps, TaskStepsNowhere, Formatting, Writing, Execution, Reading, WritesTask, WritesIn, WritesOn, RestsWritten}
use Rattle.fdc_registers.specs.Dor.{gate}
use Rattle.fdc_core.proofs.MayRead.{hears_reads, late_reads, rests_sees, rests_reads, hears_identifies, late_identifies, rests_identifies}
use Rattle.fdc_core.proofs.MayWrite.{writes_on, formats_on}
use Rattle.fdc_stages.specs.Readings as given
use Rattle.fdc_stages.specs.declared.reading.ReadStage.TheVariants as stages
use Rattle.fdc_stages.specs.Searches as searched

below : (m n : ℕ) → nat_le m n ≡ false → n < m
below m n is = grind (arith, nat_tests)

-- few bytes to fetch
fetch_low : (none before ended many : Bool) → (not none && (before || ended || many)) ≡ false → (none ≡ true) ⊎ (many ≡ false)
fetch_low true before ended many is = inl refl
fetch_low false true ended many is = absurd (false≢true (sym is))
fetch_low false false true many is = absurd (false≢true (sym is))
fetch_low false false false true is = absurd (false≢true (sym is))
fetch_low false false false false is = inr refl

few_fetched : (len : ℕ) → ((len == 0) ≡ true) ⊎ (nat_le 8 len ≡ false) → len ≤ 7
few_fetched len (inl none) = let is = eqb-true len 0 none in omega arith
few_fetched len (inr few) = let is = below 8 len few in omega arith

-- many bytes to come
fill_low : (counted full before few : Bool) → counted ≡ false → (not (counted || full) && (before || few)) ≡ false → (full ≡ true) ⊎ (few ≡ false)
fill_low true full before few none is = absurd (false≢true (sym none))
fill_low false true before few none is = inl refl
fill_low false false false false none is = inr refl
fill_low false false _ _ none is = absurd (false≢true (sym is))

many_filled : (len room : ℕ) → room ≡ 16 → ((len == room) ≡ true) ⊎ (nat_le len 8 ≡ false) → 9 ≤ len
many_filled len room is (inl full) = let same = eqb-true len room full in omega arith
many_filled len room is (inr many) = let more = below len 8 many in omega arith

room_on : (fifo : Fifo) → fifo.on ≡ true → room_of fifo.on ≡ 16
room_on fifo on = ap room_of on

worth_is : (fifo : Fifo) → fifo.on ≡ true → fifo.threshold ≡ 8 → worth_fetching fifo ≡ 8
worth_is fifo on threshold = ap (λ b. if b then max 1 (16 - fifo.threshold) else 1) on ∙ ap (λ t. max 1 (16 - t)) threshold

low_is : (fifo : Fifo) → fifo.on ≡ true → fifo.threshold ≡ 8 → low_level fifo ≡ 8
low_is fifo on threshold = ap (λ b. if b then fifo.threshold else 0) on ∙ threshold

fetched : (before ended : Bool) (fifo : Fifo) → fifo.on ≡ true → fifo.threshold ≡ 8 → wants true before ended fifo ≡ false → length fifo.bytes ≤ 7
fetched before ended fifo on threshold low =
    few_fetched (length fifo.bytes) (fetch_low (length fifo.bytes == 0) before ended (nat_le 8 (length fifo.bytes)) (subst (λ worth. (not (length fifo.bytes == 0) && (before || ended || nat_le worth (length fifo.bytes))) ≡ false) (worth_is fifo on threshold) low))

filled : (counted before : Bool) (fifo : Fifo) → counted ≡ false → fifo.on ≡ true → fifo.threshold ≡ 8 → wants false before counted fifo ≡ false → 9 ≤ length fifo.bytes
filled counted before fifo none on threshold low =
    many_filled (length fifo.bytes) (room_of fifo.on) (room_on fifo on) (fill_low counted (length fifo.bytes == room_of fifo.on) before (nat_le (length fifo.bytes) 8) none (subst (λ level. (not (counted || length fifo.bytes == room_of fifo.on) && (before || nat_le (length fifo.bytes) level)) ≡ false) (low_is fifo on threshold) low))

low_task : (slack : ℕ) (task : Task) (before : Bool) (fifo : Fifo) → fifo.on ≡ true → fifo.threshold ≡ 8 → TaskWaits slack task fifo → task_asks task before fifo ≡ false → TaskWaits 9 task fifo
low_task slack (ReadId search) before fifo on threshold waits low = tt
low_task slack (Read reading) before fifo on threshold waits low = λ none.
    let few = fetched before (is_over reading.stage) fifo on threshold low in let room = room_on fifo on in omega arith
low_task slack (Write writing) before fifo on threshold waits low = λ none.
    let many = filled writing.counted before fifo none on threshold low in omega arith
low_task slack (Format formatting) before fifo on threshold waits low = λ none.
    let many = filled formatting.counted before fifo none on threshold low in
    let (lead, has, room) = waits none in
    (lead, has, omega arith)

low_phase : (slack : ℕ) (phase : Phase) (before : Bool) (fifo : Fifo) → fifo.on ≡ true → fifo.threshold ≡ 8 → PhaseWaits slack phase fifo → phase_asks phase before fifo ≡ false → PhaseWaits 9 phase fifo
low_phase slack (Execute execution) before fifo on threshold waits low = low_task slack execution.task before fifo on threshold waits low
low_phase slack _ before fifo on threshold waits low = tt

second_low : (gated asking : Bool) → gated ≡ true → (gated && asking) ≡ false → asking ≡ false
second_low true asking up low = low
second_low false asking up low = absurd (false≢true up)

-- while DRQ is low the controller can wait nine steps
pub low_waits : (slack : ℕ) (fdc : Fdc) → Feeds fdc → CanWait slack fdc → asks fdc ≡ false → CanWait 9 fdc
low_waits slack fdc feeds waits low =
    low_phase slack fdc.phase feeds.before fdc.fifo feeds.on feeds.threshold waits (sym feeds.asks ∙ second_low (is_gated fdc) fdc.asking feeds.gated low)

-- ---- transfers

out_task : (slack : ℕ) (task : Task) (bytes : List ℕ) (on : Bool) (threshold : ℕ) → TaskWaits slack task (record { bytes = bytes; on = on; threshold = threshold }) → is_read task ≡ true → TaskWaits slack task (record { bytes = drop 1 bytes; on = on; threshold = threshold })
out_task slack (ReadId search) bytes on threshold waits reads = tt
out_task slack (Read reading) bytes on threshold waits reads = λ none. let room = waits none in let less = length-drop 1 bytes in omega arith
out_task slack _ bytes on threshold waits reads = absurd (false≢true reads)

pub out_waits : (slack : ℕ) (phase : Phase) (fifo : Fifo) → is_reading phase ≡ true → PhaseWaits slack phase fifo → PhaseWaits slack phase (record fifo { bytes = drop 1 fifo.bytes })
out_waits slack (Execute execution) fifo reads waits = out_task slack execution.task fifo.bytes fifo.on fifo.threshold waits reads
out_waits slack _ fifo reads waits = tt

held_more : (byte : ℕ) (full : Bool) (fifo : Fifo) → length fifo.bytes ≤ length (if full then fifo else record fifo { bytes = fifo.bytes ++ byte ∷ [] }).bytes
held_more byte true fifo = omega arith
held_more byte false fifo = let more = length-append fifo.bytes (byte ∷ []) in omega arith

in_task : (slack byte : ℕ) (task : Task) (fifo : Fifo) → is_read task ≡ false → TaskWaits slack task fifo → TaskWaits slack task (with_byte byte fifo)
in_task slack byte (ReadId search) fifo writes waits = tt
in_task slack byte (Read reading) fifo writes waits = absurd (false≢true (sym writes))
in_task slack byte (Write writing) fifo writes waits = λ none. let room = waits none in let more = held_more byte (length fifo.bytes == room_of fifo.on) fifo in omega arith
in_task slack byte (Format formatting) fifo writes waits = λ none.
    let (lead, has, room) = waits none in let more = held_more byte (length fifo.bytes == room_of fifo.on) fifo in (lead, has, omega arith)

pub in_waits : (slack byte : ℕ) (phase : Phase) (fifo : Fifo) → is_reading phase ≡ false → PhaseWaits slack phase fifo → PhaseWaits slack phase (with_byte byte fifo)
in_waits slack byte (Execute execution) fifo writes waits = in_task slack byte execution.task fifo writes waits
in_waits slack byte _ fifo writes waits = tt

kept_on : (byte : ℕ) (full : Bool) (fifo : Fifo) → ((if full then fifo else record fifo { bytes = fifo.bytes ++ byte ∷ [] }).on ≡ fifo.on) × ((if full then fifo else record fifo { bytes = fifo.bytes ++ byte ∷ [] }).threshold ≡ fifo.threshold)
kept_on byte true fifo = (refl, refl)
kept_on byte false fifo = (refl, refl)

pub in_keeps : (byte : ℕ) (fifo : Fifo) → ((with_byte byte fifo).on ≡ fifo.on) × ((with_byte byte fifo).threshold ≡ fifo.threshold)
in_keeps byte fifo = kept_on byte (length fifo.bytes == room_of fifo.on) fifo

pub out_feeds : (old : Fdc) → Feeds old → Feeds (taken_out old)
out_feeds old feeds = record { before = old.asking; asks = refl; gated = feeds.gated; on = feeds.on; threshold = feeds.threshold }

pub in_feeds : (byte : ℕ) (old : Fdc) → Feeds old → Feeds (taken_in byte old)
in_feeds byte old feeds = record {
  before = old.asking;
  asks = refl;
  gated = feeds.gated;
  on = (in_keeps byte old.fifo).0 ∙ feeds.on;
  threshold = (in_keeps byte old.fifo).1 ∙ feeds.threshold;
}

-- ---- the terminal count

told_task_waits : (slack : ℕ) (task : Task) (fifo : Fifo) → TaskWaits slack (task_told task) fifo
told_task_waits slack (ReadId search) fifo = tt
told_task_waits slack _ fifo = λ none. absurd (false≢true (sym none))

pub told_waits : (slack : ℕ) (phase : Phase) (fifo : Fifo) → PhaseWaits slack (phase_told phase) fifo
told_waits slack (Execute execution) fifo = told_task_waits slack execution.task fifo
told_waits slack _ fifo = tt

-- the FIFO's rule then says that DRQ is down
told_asks : (task : Task) (before asking : Bool) (fifo : Fifo) → asking ≡ task_asks task before fifo → asking_told (moves_bytes task) asking ≡ task_asks (task_told task) before (fifo_told (is_read task) fifo)
told_asks (ReadId search) before asking fifo is = is
told_asks _ before asking fifo is = refl

told_rule : (phase : Phase) (before asking : Bool) (fifo : Fifo) → asking ≡ phase_asks phase before fifo → asking_told (is_moving phase) asking ≡ phase_asks (phase_told phase) before (fifo_told (is_reading phase) fifo)
told_rule (Execute execution) before asking fifo is = told_asks execution.task before asking fifo is
told_rule _ before asking fifo is = is

told_on : (b : Bool) (fifo : Fifo) → ((fifo_told b fifo).on ≡ fifo.on) × ((fifo_told b fifo).threshold ≡ fifo.threshold)
told_on true fifo = (refl, refl)
told_on false fifo = (refl, refl)

pub told_feeds : (old : Fdc) → Feeds old → Feeds (told_count old)
told_feeds old feeds = record {
  before = feeds.before;
  asks = told_rule old.phase feeds.before old.asking old.fifo feeds.asks;
  gated = feeds.gated;
  on = (told_on (is_reading old.phase) old.fifo).0 ∙ feeds.on;
  threshold = (told_on (is_reading old.phase) old.fifo).1 ∙ feeds.threshold;
}

-- ---- device steps

pub step_feeds : (old new : Fdc) → Stays old new → new.asking ≡ phase_asks new.phase old.asking new.fifo → Feeds old → Feeds new
step_feeds old new stays flows feeds = record {
  before = old.asking;
  asks = flows;
  gated = subst (λ dor. (bit_and dor.0 gate == gate) ≡ true) (sym stays.dor) feeds.gated;
  on = stays.on ∙ feeds.on;
  threshold = stays.threshold ∙ feeds.threshold;
}

pub rest_feeds : (track0 : Bool) (old new : Fdc) → new ≡ seek_stepped track0 old → Feeds old → Feeds new
rest_feeds track0 old new is feeds =
    subst (λ fdc. Feeds fdc) (sym is) (record { before = feeds.before; asks = feeds.asks; gated = feeds.gated; on = feeds.on; threshold = feeds.threshold })

if_feeds : (b : Bool) (old : Fdc) → Feeds old → Feeds (if b then record old { poll_due = false; interrupt = true; seeks = with_polls old.seeks } else old)
if_feeds true old feeds = record { before = feeds.before; asks = feeds.asks; gated = feeds.gated; on = feeds.on; threshold = feeds.threshold }
if_feeds false old feeds = feeds

pub polled_feeds : (old polls new : Fdc) → polls ≡ polled old → (Feeds polls → Feeds new) → Feeds old → Feeds new
polled_feeds old polls new is was feeds = was (subst (λ p. Feeds p) (sym is) (if_feeds (old.poll_due && not (is_held old)) old feeds))

-- ---- A device step of a command that listens, put together

-- ---- OR comes only where a byte found the FIFO full

miss_overruns : (ending : Ending) (head_drive : ℕ) (key : Chrn) (old : Fdc) → IsMiss ending → is_overrun (finished ending head_drive key old).phase ≡ false
miss_overruns NoMark head_drive key old is = refl
miss_overruns NoSector head_drive key old is = refl
miss_overruns _ head_drive key old is = absurd is

searched_overruns : (head_drive steps : ℕ) (old : Fdc) (after : SearchOutcome) → MissesWell after → is_overrun (after_searched head_drive steps after old).phase ≡ false
searched_overruns head_drive steps old (searched.Missed ending) well = miss_overruns ending head_drive no_key old well
searched_overruns head_drive steps old _ well = refl

failure_overruns : (ending : Ending) (head_drive : ℕ) (key : Chrn) (old : Fdc) → IsFailure ending → is_overrun (finished ending head_drive key old).phase ≡ false
failure_overruns NoMark head_drive key old is = refl
failure_overruns NoSector head_drive key old is = refl
failure_overruns NoField head_drive key old is = refl
failure_overruns _ head_drive key old is = absurd is

over_overruns : (good counted deleted empty : Bool) (head_drive steps : ℕ) (reading : Reading) (old : Fdc) → is_overrun (over_or_on (Some (ending_over good counted deleted)) empty head_drive steps reading old).phase ≡ false
over_overruns true true deleted true head_drive steps reading old = refl
over_overruns true false deleted true head_drive steps reading old = refl
over_overruns false counted deleted true head_drive steps reading old = refl
over_overruns good counted deleted false head_drive steps reading old = refl

at_overruns : (stage : ReadStage) (counted empty : Bool) (head_drive steps : ℕ) (reading : Reading) (old : Fdc) → is_overrun (over_or_on (ending_at stage counted) empty head_drive steps reading old).phase ≡ false
at_overruns (stages.Over deleted good) counted empty head_drive steps reading old = over_overruns good counted deleted empty head_drive steps reading old
at_overruns _ counted empty head_drive steps reading old = refl

on_overruns : (head_drive steps : ℕ) (reading : Reading) (old : Fdc) → is_overrun (gone_on_reading head_drive steps reading old).phase ≡ false
on_overruns head_drive steps reading old = at_overruns reading.stage reading.counted (length old.fifo.bytes == 0) head_drive steps reading old

clash : {A : Type 0} (b : Bool) → b ≡ false → b ≡ true → A
clash b is other = absurd (false≢true (sym is ∙ other))

byte_overruns : (counted full : Bool) (head_drive steps value : ℕ) (reading : Reading) (old : Fdc)
    → is_overrun (if counted then gone_on_reading head_drive steps reading old else (if full then finished Overrun head_drive reading.wanted.key old else gone_on_reading head_drive steps reading (pushed value old))).phase ≡ true → (counted ≡ false) × (full ≡ true)
byte_overruns true full head_drive steps value reading old up = clash _ (on_overruns head_drive steps reading old) up
byte_overruns false true head_drive steps value reading old up = (refl, refl)
byte_overruns false false head_drive steps value reading old up = clash _ (on_overruns head_drive steps reading (pushed value old)) up

heard_overruns : (index : Bool) (word head_drive steps : ℕ) (reading : Reading) (old : Fdc) (after : ReadOutcome) → StageHears reading.wanted.key index word reading.stage after
    → is_overrun (after_heard head_drive steps reading after old).phase ≡ true → FindsFull reading index word old
heard_overruns index word head_drive steps reading old (given.On stage) hears up = clash _ (on_overruns head_drive steps (at_stage reading stage) old) up
heard_overruns index word head_drive steps reading old (given.Byte stage value) hears up =
    let (uncounted, full) = byte_overruns reading.counted (is_full old) head_drive steps value (at_stage reading stage) old up in
    record { stage = stage; value = value; comes = hears; uncounted = uncounted; full = full }
heard_overruns index word head_drive steps reading old (given.Ended ending) hears up = clash _ (failure_overruns ending head_drive reading.wanted.key old hears.1) up

pub hears_overruns : (index : Bool) (word head_drive steps : ℕ) (task : Task) (old new : Fdc) → Hears head_drive steps task index word old new → OverrunsTask task index word old new
hears_overruns index word head_drive steps (ReadId search) old new (after, hears, is) =
    subst (λ fdc. is_overrun fdc.phase ≡ false) (sym is) (searched_overruns head_drive steps old after hears.1)
hears_overruns index word head_drive steps (Read reading) old new (after, hears, is) =
    subst (λ fdc. is_overrun fdc.phase ≡ true → FindsFull reading index word old) (sym is) (heard_overruns index word head_drive steps reading old after hears)
hears_overruns index word head_drive steps _ old new hears = tt

late_overruns : (index : Bool) (word : ℕ) (task : Task) (old new : Fdc) → is_overrun new.phase ≡ false → OverrunsTask task index word old new
late_overruns index word (ReadId search) old new is = is
late_overruns index word (Read reading) old new is = λ up. clash _ is up
late_overruns index word _ old new is = tt

-- ---- in execution

-- READ ID and READ DATA
listen_follows : (index : Bool) (word head_drive steps : ℕ) (task : Task) (old new : Fdc) → is_listening task ≡ true → StepsOn head_drive steps task index word old new
    → Follows (Execute (record { head_drive = head_drive; steps = steps; task = task })) old index word old new
listen_follows index word head_drive steps task old new listens (inl (last, is)) = record {
  executes = subst (λ b. ExecutesTask b head_drive steps task index word old new) (sym listens) (inl (last, is));
  overruns = late_overruns index word task old new (subst (λ fdc. is_overrun fdc.phase ≡ false) (sym is) refl);
  reads = late_reads index word head_drive steps task old new last is;
  identifies = late_identifies index word head_drive steps task old new last is;
}
listen_follows index word head_drive steps task old new listens (inr (few, hears)) = record {
  executes = subst (λ b. ExecutesTask b head_drive steps task index word old new) (sym listens) (inr (few, hears));
  overruns = hears_overruns index word head_drive (steps + 1) task old new hears;
  reads = hears_reads index word head_drive steps task old new hears;
  identifies = hears_identifies index word head_drive steps task old new hears;
}

-- of the commands that write nothing is said here
write_follows : (index : Bool) (word head_drive steps : ℕ) (writing : Writing) (old new : Fdc) → Follows (Execute (record { head_drive = head_drive; steps = steps; task = Write writing })) old index word old new
write_follows index word head_drive steps writing old new =
    record { executes = tt; overruns = tt; reads = λ past sent was. absurd was; identifies = λ past sent was. absurd was }

format_follows : (index : Bool) (word head_drive steps : ℕ) (formatting : Formatting) (old new : Fdc) → Follows (Execute (record { head_drive = head_drive; steps = steps; task = Format formatting })) old index word old new
format_follows index word head_drive steps formatting old new =
    record { executes = tt; overruns = tt; reads = λ past sent was. absurd was; identifies = λ past sent was. absurd was }

task_hears : (task : Task) (head_drive steps : ℕ) (old new : Fdc) (before after : DriveState) → TaskSteps task head_drive steps old before after new
    → StepHears (Execute (record { head_drive = head_drive; steps = steps; task = task })) old (at_index before) old before after new
task_hears (ReadId search) head_drive steps old new before after is =
    record { word = is.word; sees = is.sees; follows = listen_follows (at_index before) is.word head_drive steps (ReadId search) old new refl is.does }
task_hears (Read reading) head_drive steps old new before after is =
    record { word = is.word; sees = is.sees; follows = listen_follows (at_index before) is.word head_drive steps (Read reading) old new refl is.does }
task_hears (Write writing) head_drive steps old new before after is =
    record { word = 0; sees = tt; follows = write_follows (at_index before) 0 head_drive steps writing old new }
task_hears (Format formatting) head_drive steps old new before after is =
    record { word = 0; sees = tt; follows = format_follows (at_index before) 0 head_drive steps formatting old new }

pub executes_hears : (old new : Fdc) (before after : DriveState) (execution : Execution) → old.phase ≡ Execute execution → TaskSteps execution.task execution.head_drive execution.steps old before after new → Listens old (at_index before) old before after new
executes_hears old new before after execution is steps =
    subst (λ phase. StepHears phase old (at_index before) old before after new) (sym is) (task_hears execution.task execution.head_drive execution.steps old new before after steps)

task_hears_none : (task : Task) (head_drive steps : ℕ) (old new : Fdc) → TaskStepsNowhere task head_drive steps old new
    → Follows (Execute (record { head_drive = head_drive; steps = steps; task = task })) old false 0 old new
task_hears_none (ReadId search) head_drive steps old new is = listen_follows false 0 head_drive steps (ReadId search) old new refl is
task_hears_none (Read reading) head_drive steps old new is = listen_follows false 0 head_drive steps (Read reading) old new refl is
task_hears_none (Write writing) head_drive steps old new is = write_follows false 0 head_drive steps writing old new
task_hears_none (Format formatting) head_drive steps old new is = format_follows false 0 head_drive steps formatting old new

pub executes_hears_none : (old new : Fdc) (execution : Execution) → old.phase ≡ Execute execution → TaskStepsNowhere execution.task execution.head_drive execution.steps old new → ListensToNone old old new
executes_hears_none old new execution is steps =
    subst (λ phase. Follows phase old false 0 old new) (sym is) (task_hears_none execution.task execution.head_drive execution.steps old new steps)

-- ---- outside execution

rests_executes : (phase : Phase) → ((execution : Execution) → phase ≡ Execute execution → ⊥) → (index : Bool) (polls new : Fdc) → ExecutesIn phase index 0 polls new
rests_executes (Execute execution) other index polls new = absurd (other execution refl)
rests_executes _ other index polls new = tt

rests_overruns : (phase : Phase) → ((execution : Execution) → phase ≡ Execute execution → ⊥) → (index : Bool) (polls new : Fdc) → OverrunsIn phase index 0 polls new
rests_overruns (Execute execution) other index polls new = absurd (other execution refl)
rests_overruns _ other index polls new = tt

pub rests_follows : (track0 index : Bool) (old new : Fdc) → new ≡ seek_stepped track0 old → ((execution : Execution) → old.phase ≡ Execute execution → ⊥) → Follows old.phase old index 0 old new
rests_follows track0 index old new is other = subst (λ fdc. Follows old.phase old index 0 old fdc) (sym is) (record {
  executes = rests_executes old.phase other index old (seek_stepped track0 old);
  overruns = rests_overruns old.phase other index old (seek_stepped track0 old);
  reads = rests_reads old.phase other index old.asking old.fifo.bytes;
  identifies = rests_identifies old.phase other index;
})

pub rests_hears : (track0 index : Bool) (old new : Fdc) (before after : DriveState) → new ≡ seek_stepped track0 old → ((execution : Execution) → old.phase ≡ Execute execution → ⊥) → Listens old index old before after new
rests_hears track0 index old new before after is other =
    record { word = 0; sees = rests_sees old.phase other old.rate before after; follows = rests_follows track0 index old new is other }

-- ---- the poll moves nothing of this

if_follows : (b index : Bool) (word : ℕ) (old new : Fdc) → (let polls : Fdc = (if b then record old { poll_due = false; interrupt = true; seeks = with_polls old.seeks } else old) in Follows polls.phase polls index word polls new → Follows old.phase polls index word old new)
if_follows true index word old new was =
    record { executes = was.executes; overruns = was.overruns; reads = was.reads; identifies = was.identifies }
if_follows false index word old new was = was

pub polled_follows : (index : Bool) (word : ℕ) (old polls new : Fdc) → polls ≡ polled old → Follows polls.phase polls index word polls new → Follows old.phase polls index word old new
polled_follows index word old polls new is was =
    subst (λ p. Follows old.phase p index word old new) (sym is) (if_follows (old.poll_due && not (is_held old)) index word old new (subst (λ p. Follows p.phase p index word p new) is was))

if_sees : (b : Bool) (word : ℕ) (old : Fdc) (before after : DriveState) → (let polls : Fdc = (if b then record old { poll_due = false; interrupt = true; seeks = with_polls old.seeks } else old) in SeesWord polls.phase polls.rate before word after → SeesWord old.phase old.rate before word after)
if_sees true word old before after was = was
if_sees false word old before after was = was

pub polled_hears : (index : Bool) (old polls new : Fdc) (before after : DriveState) → polls ≡ polled old → Listens polls index polls before after new → Listens (polled old) index old before after new
polled_hears index old polls new before after is was = record {
  word = was.word;
  sees = if_sees (old.poll_due && not (is_held old)) was.word old before after (subst (λ p. SeesWord p.phase p.rate before was.word after) is was.sees);
  follows = subst (λ p. Follows old.phase p index was.word old new) is (polled_follows index was.word old polls new is was.follows);
}

-- ---- A device step of a command that writes, put together

task_writes : (task : Task) (head_drive steps : ℕ) (old : Fdc) (before after : DriveState) (new : Fdc) → TaskSteps task head_drive steps old before after new → WritesTask task head_drive steps old.asking old.fifo old before after new
task_writes (Write writing) head_drive steps old before after new is =
    record { step = is; writes = writes_on is.does.time head_drive steps writing old before new is.does.does }
task_writes (Format formatting) head_drive steps old before after new is =
    record { step = is; formats = formats_on is.does.time head_drive steps formatting old before new is.does.does }
task_writes _ head_drive steps old before after new is = tt

pub executes_writes : (old new : Fdc) (before after : DriveState) (execution : Execution) → old.phase ≡ Execute execution → TaskSteps execution.task execution.head_drive execution.steps old before after new → WritesOn old old before after new
executes_writes old new before after execution is steps =
    subst (λ phase. WritesIn phase old.asking old.fifo old before after new) (sym is) (task_writes execution.task execution.head_drive execution.steps old before after new steps)

rests_in : (phase : Phase) → ((execution : Execution) → phase ≡ Execute execution → ⊥) → (asking : Bool) (fifo : Fifo) (polls new : Fdc) (before after : DriveState) → RestsWritten phase asking fifo new → WritesIn phase asking fifo polls before after new
rests_in (Execute execution) other asking fifo polls new before after rests = absurd (other execution refl)
rests_in _ other asking fifo polls new before after rests = rests

pub rests_writes : (track0 : Bool) (old new : Fdc) (before after : DriveState) → new ≡ seek_stepped track0 old → ((execution : Execution) → old.phase ≡ Execute execution → ⊥) → WritesOn old old before after new
rests_writes track0 old new before after is other =
    rests_in old.phase other old.asking old.fifo old new before after (subst (λ fdc. RestsWritten old.phase old.asking old.fifo fdc) (sym is) (record { writes = λ past sent deleted was. was; formats = λ past sent numbers was. was }))

-- the poll moves nothing of this
if_writes : (b : Bool) (old new : Fdc) (before after : DriveState) → (let polls : Fdc = (if b then record old { poll_due = false; interrupt = true; seeks = with_polls old.seeks } else old) in WritesOn polls polls before after new → WritesOn polls old before after new)
if_writes true old new before after was = was
if_writes false old new before after was = was

pub polled_writes : (old polls new : Fdc) (before after : DriveState) → polls ≡ polled old → WritesOn polls polls before after new → WritesOn (polled old) old before after new
polled_writes old polls new before after is was =
    if_writes (old.poll_due && not (is_held old)) old new before after (subst (λ p. WritesOn p p before after new) is was)
