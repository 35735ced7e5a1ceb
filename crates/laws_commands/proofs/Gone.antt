-- Parts of a rescue that went on to its end: requests that were done, and records that were read. A record that could
-- be read was then written.
use Rattle.std.proofs.Common.{arith, ◌≡◌, ◌∙◌, Bool, true, false, true≢false, List, [], ◌∷◌, ◌++◌, refl, sym, ap, subst, inl, inr, append-nil, append_assoc, Option, Result, Ok, Err, ◌+◌, ℕ, length, ap₂}
use Rattle.laws_commands.proofs.Common.{AllByRecursion, Files, Chrn, Code, Status, track_of, user_bytes, bytes_from, content_size, length-with_items, Request, Reply, State, Reads, ReadsDrive, Step, IsDriverCall, read_reply, is_refusal, Taken, World, read_refusal, IsDeviceRefusal, StationState, Script, RunsScript, carries, with_report, IsRefused, IsAnswered, last_run, ask_answered, need_taken, ask_run, carry_run, Known, Passed, at_once, did_nothing, carries_passed, joined_did, IsEndStatus, Gave, mark_of, read_of, write_of, LogLine, gives_up, IsNotStopped, WasRefused, is_write, line_at, log_of}
use Rattle.commands.specs.Parts.{may_starve, through}
use Rattle.commands.proofs.Passed.{Does}
use Rattle.laws_commands.proofs.CopiedTrack.{both_fell}
use Rattle.laws_commands.proofs.Steps.{NeverFell, step_never_fell, either, keeps_drives}
use Rattle.laws_commands.proofs.VerifyRun.{end_is_whole}
use Rattle.laws_commands.proofs.DiskRecords.{length-bytes_at}
use Rattle.disk_commands.specs.Rescue.{does_next, follows, rescues}
use Rattle.flop_base.specs.declared.answers.Code.TheVariants as code
use Rattle.flop_base.specs.declared.answers.Status.TheVariants as status
use Rattle.floppy_jobs.specs.declared.request.Request.TheVariants as request
use Rattle.sector_model.specs.declared.reply.Reason.TheVariants as reason
use Rattle.sector_model.specs.declared.reply.Reply.TheVariants as reply

-- ---- what a read leaves

-- the bays stay, and memory keeps its length
pub record ReadKeeps (old new : StationState) : Type 0 where
  pub bays : new.bays ≡ old.bays
  pub size : length new.memory ≡ length old.memory

drive_keeps : (key : Chrn) (old new : StationState) (called : Result Bool Code) → key.n ≡ 2 → length old.memory ≡ user_bytes
    → ReadsDrive 0 key 0x10000 old called new → ReadKeeps old new
drive_keeps key old new (Ok deleted) sized size drive =
    let found = drive.found in
    let long : length found.content ≡ 512 = ap length found.whole.content_is ∙ length-bytes_at (track_of found.disk found.cylinder key.h) (found.mark + 64) (content_size key.n) ∙ ap content_size sized in
    record {
      bays = ap (λ (s : StationState). s.bays) found.becomes;
      size = ap (λ (s : StationState). length s.memory) found.becomes ∙ length-with_items old.memory 0x10000 found.content (omega arith);
    }
drive_keeps key old new (Err code) sized size drive = search

pub read_keeps : (key : Chrn) (old new : StationState) (called : Result Bool Code) → key.n ≡ 2 → length old.memory ≡ user_bytes
    → Reads 0 key 0x10000 old called new → ReadKeeps old new
read_keeps key old new called sized size reads =
    either (read_refusal old 0 key 0x10000) reads (drive_keeps key old new called sized size)
    (λ code refused. search)

-- a call of the driver lets no count fall
pub call_fell : (old new : State) (told after : Option Files) → IsDriverCall old told new after → NeverFell old.station.counters new.station.counters
call_fell old new told after call = assumption

-- ---- how the outcome of a read shows

told_mark : (key : Chrn) (deleted : Bool) → mark_of (read_of key) (read_reply (Ok deleted)) ≡ deleted ∷ []
told_mark key true = refl
told_mark key false = refl

-- a read that was done gave its mark, and the bytes that are in memory then
pub gave : (key : Chrn) (deleted : Bool) (read : Taken) → read.asked ≡ read_of key → read.answer ≡ read_reply (Ok deleted)
    → Gave key deleted (bytes_from read.after.station.memory 0x10000 (content_size key.n)) read
gave key deleted read asked answered = record {
  address = 0x10000;
  asked = asked;
  mark = ap₂ (λ (q : Request) (r : Reply). mark_of q r) asked answered ∙ told_mark key deleted;
  content = refl;
}

pub gave_reads : (key : Chrn) (deleted : Bool) (content : List ℕ) (taken : Taken) → Gave key deleted content taken
    → (address : ℕ) × (taken.asked ≡ request.Read 0 key address)
gave_reads key deleted content taken given = (given.address, given.asked)

-- a step that gave something wasn't refused
pub never_both : (key : Chrn) (code : Code) (deleted : Bool) (bytes : List ℕ) (read : Taken) → WasRefused key code read → Gave key deleted bytes read → ⊥
never_both key code deleted bytes read refused given = grind arith

-- the log line of a refused read
pub line_of_refused : (key : Chrn) (cause : Code) (read : Taken) → read.asked ≡ read_of key → read.answer ≡ read_reply (Err cause)
    → line_at read.asked read.answer ≡ (record { key = key; code = cause }) ∷ []
line_of_refused key cause read asked answered = ap₂ (λ (q : Request) (r : Reply). line_at q r) asked answered

-- a request that isn't refused has no log line
pub line_of_done : (asked : Request) (answer : Reply) → is_refusal answer ≡ false → line_at asked answer ≡ []
line_of_done asked (reply.Refused cause) fine = absurd (true≢false fine)
line_of_done asked _ fine = refl

pub read_done : (deleted : Bool) → is_refusal (read_reply (Ok deleted)) ≡ false
read_done true = refl
read_done false = refl

-- the request for a write is no read
pub write_no_read : (key other : Chrn) (deleted : Bool) (address : ℕ) → write_of key deleted ≡ request.Read 0 other address → ⊥
write_no_read key other true address same = cc same
write_no_read key other false address same = cc same

pub write_writes : (key : Chrn) (deleted : Bool) → is_write (write_of key deleted) ≡ true
write_writes key true = refl
write_writes key false = refl

pub write_keeps : (key : Chrn) (deleted : Bool) → keeps_drives (write_of key deleted) ≡ true
write_keeps key true = refl
write_keeps key false = refl

-- ---- requests

-- if no refusal stopped a run, none stopped its later part
pub later_fine : (one two course : List Taken) → course ≡ one ++ two → IsNotStopped course → IsNotStopped two
later_fine one two course whole fine before last is =
    fine (one ++ before) last (whole ∙ ap (λ (row : List Taken). one ++ row) is ∙ sym (append_assoc one before (last ∷ [])))

-- if no refusal stopped a run, its last request wasn't refused
pub not_refused : (asked : Request) (old : World) (course : List Taken) (new : World) (ended : Status) → IsNotStopped course
    → IsRefused asked old course new ended → ⊥
not_refused asked old course new ended fine run = true≢false (sym (ap is_refusal run.answered) ∙ fine [] run.taken run.course_is)

-- requests that a script can't go on without, one after the other
abbrev pub carries_all : List Request → Script → Script
carries_all [] rest = rest
carries_all (asked ∷ requests) rest = carries asked (λ none. carries_all requests rest)

-- such requests were done, and then what follows was run
pub carried : (requests : List Request) (rest : Script) (old : World) (course : List Taken) (new : World) (ended : Status)
    → IsEndStatus ended → IsNotStopped course → RunsScript (carries_all requests rest) old course new ended
    → Passed {Found = Unit {0}} (Does requests) (λ none. rest) old course new ended
carried [] rest old course new ended whole fine runs = at_once tt runs (did_nothing old)
carried (asked ∷ requests) rest old course new ended whole fine runs =
    let a = carries_passed asked (λ none. carries_all requests rest) old course new ended (end_is_whole ended whole)
    (not_refused asked old course new ended fine) runs in
    joined_did (asked ∷ []) requests a (carried requests rest a.mid a.two new ended whole (later_fine a.one a.two course a.course_is fine) a.left)

-- ---- what follows the read of a record

-- Either the record is written, or its line is added to the log, or the rescue ends there. It ends by the code of the
-- refusal, or because memory ran out.
pub data FollowRun (key : Chrn) (called : Result Bool Code) (lines : List LogLine) (rest : List LogLine → Script) (old : World) (course : List Taken)
    (new : World) (ended : Status) : Type 0 where
  Writes : (deleted : Bool) → called ≡ Ok deleted → RunsScript (carries (write_of key deleted) (λ none. rest lines)) old course new ended
      → FollowRun key called lines rest old course new ended
  Logs : (cause : Code) → called ≡ Err cause → IsDeviceRefusal cause → RunsScript (rest (lines ++ (record { key = key; code = cause }) ∷ [])) old course new ended
      → FollowRun key called lines rest old course new ended
  GivesUp : (cause : Code) → called ≡ Err cause → course ≡ [] → new.files ≡ old.files → FollowRun key called lines rest old course new ended
  Starves : new.files ≡ old.files → ended ≡ status.NoMemory → FollowRun key called lines rest old course new ended

module _ (key : Chrn) (lines : List LogLine) (rest : List LogLine → Script) (old : World) (course : List Taken) (new : World) (ended : Status) where
  logs : (cause : Code) → IsDeviceRefusal cause → RunsScript (may_starve (λ none. rest (lines ++ (record { key = key; code = cause }) ∷ []))) old course new ended
      → FollowRun key (Err cause) lines rest old course new ended
  unfolding may_starve
  logs cause device (inl runs) = Logs cause refl device runs
  logs cause device (inr none) = Starves (ap (λ (w : World). w.files) none.1) none.2

  gives : (cause : Code) → RunsScript (gives_up key (reason.Driver cause)) old course new ended → FollowRun key (Err cause) lines rest old course new ended
  gives cause runs = let last = last_run _ _ old course new ended runs in GivesUp cause refl last.0 last.1.files

  pub follow_run : (called : Result Bool Code) → RunsScript (follows key (read_reply called) lines rest) old course new ended
      → FollowRun key called lines rest old course new ended
  unfolding follows does_next
  follow_run (Ok true) runs = Writes true refl runs
  follow_run (Ok false) runs = Writes false refl runs
  follow_run (Err code.NoMark) runs = logs code.NoMark tt runs
  follow_run (Err code.NotFound) runs = logs code.NotFound tt runs
  follow_run (Err code.Overrun) runs = logs code.Overrun tt runs
  follow_run (Err code.BadCrc) runs = logs code.BadCrc tt runs
  follow_run (Err code.Seek) runs = logs code.Seek tt runs
  follow_run (Err code.BadRequest) runs = gives code.BadRequest runs
  follow_run (Err code.Protected) runs = gives code.Protected runs
  follow_run (Err code.Changed) runs = gives code.Changed runs
  follow_run (Err code.Page) runs = gives code.Page runs
  follow_run (Err code.NotReady) runs = gives code.NotReady runs

-- ---- records that were gone through

-- a record was read, with this outcome
pub record IsRead (key : Chrn) (called : Result Bool Code) (old : World) (read : Taken) (files : Option Files) : Type 0 where
  pub asked : read.asked ≡ read_of key
  pub answered : read.answer ≡ read_reply called
  pub call : IsDriverCall old.state old.files read.after files
  pub reads : Reads 0 key 0x10000 old.state.station called read.after.station

-- a record was written, with this mark
pub record IsWrite (key : Chrn) (deleted : Bool) (old : World) (write : Taken) (files : Option Files) : Type 0 where
  pub asked : write.asked ≡ write_of key deleted
  pub done : is_refusal write.answer ≡ false
  pub step : Step (write_of key deleted) old.state old.files write.answer write.after files

-- A course goes through the records of these keys, one after the other. A record that could be read was written, and
-- one whose read was refused wasn't.
pub data GoesKeys : List Chrn → World → List Taken → World → Type 0 where
  Over : (old : World) → GoesKeys [] old [] old
  Lost : (key : Chrn) (keys : List Chrn) (cause : Code) (old : World) (read : Taken) (files : Option Files) (later : List Taken) (new : World)
      → IsRead key (Err cause) old read files → GoesKeys keys (with_report read.after files old.report) later new
      → GoesKeys (key ∷ keys) old (read ∷ later) new
  Kept : (key : Chrn) (keys : List Chrn) (deleted : Bool) (old : World) (read : Taken) (files : Option Files) (write : Taken) (more : Option Files)
      (later : List Taken) (new : World) → IsRead key (Ok deleted) old read files
      → IsWrite key deleted (with_report read.after files old.report) write more
      → GoesKeys keys (with_report write.after more old.report) later new → GoesKeys (key ∷ keys) old (read ∷ write ∷ later) new

-- no count falls between two worlds
abbrev pub Fell : World → World → Type 0
Fell old new = NeverFell old.state.station.counters new.state.station.counters

pub fell_both : (old mid new : World) → Fell old mid → Fell mid new → Fell old new
fell_both old mid new one two = both_fell old.state.station.counters mid.state.station.counters new.state.station.counters one two

pub write_fell : (key : Chrn) (deleted : Bool) (old new : World) (write : Taken) (files : Option Files) → new.state ≡ write.after
    → IsWrite key deleted old write files → Fell old new
write_fell key deleted old new write files is wrote = grind (arith, step_never_fell, write_keeps)

pub keys_fell : {keys : List Chrn} {old : World} {course : List Taken} {new : World} → GoesKeys keys old course new → Fell old new
keys_fell (Over old) = record { first = omega arith; second = omega arith; stalls = omega arith }
keys_fell (Lost key keys cause old read files later new is goes) = grind (arith, fell_both, call_fell, keys_fell goes)
keys_fell (Kept key keys deleted old read files write more later new is wrote goes) =
    grind (arith, fell_both, call_fell, write_fell, keys_fell goes)

-- ---- the lines of such a course

-- the line of a record whose read was refused
pub log_of_lost : (key : Chrn) (cause : Code) (old : World) (read : Taken) (files : Option Files) (later : List Taken)
    → IsRead key (Err cause) old read files → log_of (read ∷ later) ≡ (record { key = key; code = cause }) ∷ log_of later
log_of_lost key cause old read files later is =
    ap (λ (row : List LogLine). row ++ log_of later) (line_of_refused key cause read is.asked is.answered)

-- a record that was saved has no line
pub log_of_kept : (key : Chrn) (deleted : Bool) (old mid : World) (read : Taken) (files : Option Files) (write : Taken) (more : Option Files)
    (later : List Taken) → IsRead key (Ok deleted) old read files → IsWrite key deleted mid write more → log_of (read ∷ write ∷ later) ≡ log_of later
log_of_kept key deleted old mid read files write more later is wrote = grind (arith, line_of_done, read_done)

-- ---- by a script that went on to its end

-- the world after a step
abbrev pub behind_step : {asked : Request} {rest : Reply → State → Script} {old new : World} {course : List Taken} {ended : Status}
    → IsAnswered asked rest old course new ended → World
behind_step {old = old} run = with_report run.taken.after run.files old.report

-- each line is that of a refusal by the drive
abbrev pub AreRefusals : List LogLine → Type 0
AreRefusals lines = AllByRecursion (λ (line : LogLine). IsDeviceRefusal line.code) lines

-- The records of these keys were gone through. The lines of their refusals were added to the log.
abbrev pub RescuesKeys : List Chrn → List LogLine → Known (List LogLine)
RescuesKeys keys lines old course found mid =
    GoesKeys keys old course mid × (found ≡ lines ++ log_of course) × (mid.report ≡ old.report) × AreRefusals (log_of course)

module _ (rest : List LogLine → Script) (new : World) (ended : Status) (whole : IsEndStatus ended) where
  -- the keys after the first one are gone through in this way
  abbrev Goes : List Chrn → Type 0
  Goes keys = (lines : List LogLine) (old : World) (course : List Taken) → IsNotStopped course
      → RunsScript (through rescues keys lines rest) old course new ended → Passed (RescuesKeys keys lines) rest old course new ended

  module _ (key : Chrn) (keys : List Chrn) (next : Goes keys) (lines : List LogLine) (old : World) (course : List Taken) (fine : IsNotStopped course) where
    abbrev Rest : List LogLine → Script
    Rest now = through rescues keys now rest

    abbrev Run : Type 0
    Run = IsAnswered (read_of key) (λ answer after. follows key answer lines Rest) old course new ended

    -- the record was read, so it was written
    wrote : (run : Run) (deleted : Bool) → IsRead key (Ok deleted) old run.taken run.files → IsNotStopped run.later
        → RunsScript (carries (write_of key deleted) (λ none. Rest lines)) (behind_step run) run.later new ended
        → Passed (RescuesKeys (key ∷ keys) lines) rest old course new ended
    wrote run deleted is later runs =
        let asked = write_of key deleted in
        let one = need_taken asked (λ answer after. Rest lines) (behind_step run) run.later new ended (end_is_whole ended whole)
        (not_refused asked (behind_step run) run.later new ended later)
        (carry_run asked (λ none. Rest lines) (behind_step run) run.later new ended runs) in
        let write = one.run in
        let all = next lines (behind_step write) write.later (later_fine (write.taken ∷ []) write.later run.later write.course_is later) write.left in
        let saved : IsWrite key deleted (behind_step run) write.taken write.files = record { asked = write.asked_is; done = one.fine; step = write.step } in
        let same = log_of_kept key deleted old (behind_step run) run.taken run.files write.taken write.files all.one is saved in
        record {
          one = run.taken ∷ write.taken ∷ all.one;
          two = all.two;
          found = all.found;
          mid = all.mid;
          course_is = run.course_is ∙ ap (λ (row : List Taken). run.taken ∷ row) (write.course_is ∙ ap (λ (row : List Taken). write.taken ∷ row) all.course_is);
          knows = (
            Kept key keys deleted old run.taken run.files write.taken write.files all.one all.mid is saved all.knows.0,
            all.knows.1 ∙ ap (λ (row : List LogLine). lines ++ row) (sym same),
            all.knows.2,
            subst AreRefusals (sym same) all.knows.3,
          );
          left = all.left;
        }

    -- the read was refused, so its line was added to the log
    logged : (run : Run) (cause : Code) → IsDeviceRefusal cause → IsRead key (Err cause) old run.taken run.files → IsNotStopped run.later
        → RunsScript (Rest (lines ++ (record { key = key; code = cause }) ∷ [])) (behind_step run) run.later new ended
        → Passed (RescuesKeys (key ∷ keys) lines) rest old course new ended
    logged run cause device is later runs =
        let line : LogLine = record { key = key; code = cause } in
        let all = next (lines ++ line ∷ []) (behind_step run) run.later later runs in
        let here = log_of_lost key cause old run.taken run.files all.one is in
        record {
          one = run.taken ∷ all.one;
          two = all.two;
          found = all.found;
          mid = all.mid;
          course_is = run.course_is ∙ ap (λ (row : List Taken). run.taken ∷ row) all.course_is;
          knows = (
            Lost key keys cause old run.taken run.files all.one all.mid is all.knows.0,
            all.knows.1 ∙ append_assoc lines (line ∷ []) (log_of all.one) ∙ ap (λ (row : List LogLine). lines ++ row) (sym here),
            all.knows.2,
            subst AreRefusals (sym here) (device, all.knows.3),
          );
          left = all.left;
        }

    by_next : (run : Run) (called : Result Bool Code) → IsRead key called old run.taken run.files
        → FollowRun key called lines Rest (behind_step run) run.later new ended
        → IsNotStopped run.later → Passed (RescuesKeys (key ∷ keys) lines) rest old course new ended
    by_next run called is (Writes deleted same runs) later =
        wrote run deleted (subst (λ (c : Result Bool Code). IsRead key c old run.taken run.files) same is) later runs
    by_next run called is (Logs cause same device runs) later =
        logged run cause device (subst (λ (c : Result Bool Code). IsRead key c old run.taken run.files) same is) later runs
    by_next run called is (GivesUp cause same nothing stays) later =
        absurd (true≢false (sym (ap is_refusal (is.answered ∙ ap read_reply same))
        ∙ fine [] run.taken (run.course_is ∙ ap (λ (row : List Taken). run.taken ∷ row) nothing)))
    by_next run called is (Starves stays starved) later = absurd (subst IsEndStatus starved whole)

    by_read : Run → Passed (RescuesKeys (key ∷ keys) lines) rest old course new ended
    by_read run =
        let called = run.step.1.0 in
        let runs = subst (λ (r : Reply). RunsScript (follows key r lines Rest) (behind_step run) run.later new ended) run.step.1.1 run.left in
        by_next run called (record { asked = run.asked_is; answered = run.step.1.1; call = run.step.0; reads = run.step.1.2 })
        (follow_run key lines Rest (behind_step run) run.later new ended called runs) (later_fine (run.taken ∷ []) run.later course run.course_is fine)

pub keys_gone : (keys : List Chrn) (lines : List LogLine) (rest : List LogLine → Script) (old : World) (course : List Taken) (new : World) (ended : Status)
    → IsEndStatus ended → IsNotStopped course → RunsScript (through rescues keys lines rest) old course new ended
    → Passed (RescuesKeys keys lines) rest old course new ended
unfolding through rescues
keys_gone [] lines rest old course new ended whole fine runs = at_once lines runs (Over old, sym (append-nil lines), refl, tt)
keys_gone (key ∷ keys) lines rest old course new ended whole fine runs =
    let follow = λ (answer : Reply) (after : State). follows key answer lines (λ now. through rescues keys now rest) in
    by_read rest new ended whole key keys (λ more now later sound next. keys_gone keys more rest now later new ended whole sound next) lines old course fine
    (ask_answered (read_of key) follow old course new ended (end_is_whole ended whole) (ask_run (read_of key) follow old course new ended runs))
