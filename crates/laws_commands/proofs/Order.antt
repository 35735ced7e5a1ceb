-- What a rescue stores, and in which order, however the rescue ends.
use Rattle.std.proofs.Common.{◌≡◌, ◌∙◌, ℕ, Bool, true, false, List, [], ◌∷◌, ◌++◌, length, append-nil, append_assoc, refl, sym, ap, subst, inl, inr, Option, Some, Result}
use Rattle.std.specs.Prelude.{is_some}
use Rattle.laws_commands.proofs.Common.{Files, stored, Chrn, Code, Rate, R500, R250, Status, Disk, blank_disk, file_of, Two, in_bay, Request, Reply, State, Step, IsDriverCall, refusal_of, read_reply, is_refusal, Taken, World, blank_request, Shape, Script, Ends, Fails, RunsScript, StoresLast, IsStored, NotStored, needs, shape_at, IsAnswered, AskRun, Answered, Stopped, NeedRun, Done, Refused, Halted, ask_run, need_run, carry_run, last_run, last_failed, last_stored, Track, format_each, tracks_of, read_of, write_of, outcome_status, log_text, LogLine, follows, prepares, asked_keys, outcome_of, last_text, rescue_rest, Rescues, by_rest, line_at, log_of, store_of, StoresDiskThenLog}
use Rattle.commands.specs.Parts.{carries, may_starve, opens, through}
use Rattle.laws_commands.proofs.Steps.{either, done_does}
use Rattle.disk_commands.specs.Rescue.{rescues, rescues_all, stores_log, rescue_found}
use Rattle.laws_commands.proofs.Storing.{nothing_first, all_first}
use Rattle.laws_commands.proofs.Gone.{behind_step, line_of_refused, line_of_done, read_done, carries_all, FollowRun, Writes, Logs, GivesUp, Starves, follow_run}
use Rattle.laws_commands.proofs.RescueOpening.{ready_requests, formats_for, second_request, prepares_carried, second_put}
use Rattle.laws_commands.proofs.RescueRecords.{write_does}
use Rattle.flop_base.specs.declared.answers.Status.TheVariants as status
use Rattle.floppy_jobs.specs.declared.request.Request.TheVariants as request
use Rattle.sector_model.specs.declared.reply.Reply.TheVariants as reply

-- Nothing was stored, or the other diskette alone was, or the other diskette and then the new log.
data StoresInOrder (to log : List ℕ) (lines : List LogLine) (told after : Option Files) : Type 0 where
  Nothing : after ≡ told → StoresInOrder to log lines told after
  DiskAlone : (disk : Disk) → after ≡ stored told to (file_of disk) → StoresInOrder to log lines told after
  DiskThenLog : (disk : Disk) → after ≡ stored (stored told to (file_of disk)) log (log_text lines)
      → StoresInOrder to log lines told after

-- the same, said by a list of stores
in_order : (to log : List ℕ) (lines : List LogLine) (told after : Option Files) → StoresInOrder to log lines told after
    → StoresDiskThenLog to log lines told after
in_order to log lines told after (Nothing same) = (blank_disk 1 1 1 R500, nothing_first _ told after same)
in_order to log lines told after (DiskAlone disk is) = (
  disk,
  record { made = store_of to (file_of disk) ∷ []; rest = store_of log (log_text lines) ∷ []; first = refl; files = is },
)
in_order to log lines told after (DiskThenLog disk is) = (disk, all_first _ told after is)

-- a condition that any state meets
abbrev Any : State → Type 0
Any state = Unit {0}

-- the medium in bay 1 has this name
abbrev Named : List ℕ → State → Type 0
Named to state = in_bay state.names 1 ≡ Some to

second_stores : (to : List ℕ) (shape : Shape) (logged : Bool) (old new : State) (told after : Option Files) (answer : Reply)
    → Step (second_request to shape logged) old told answer new after → after ≡ told
second_stores to shape true old new told after answer step =
    either (refusal_of old (request.Insert 1 to)) step (λ does. does.1) (λ cause refused. refused.files)
second_stores to shape false old new told after answer step = go shape.rate step
  where
    go : (rate : Rate) → Step (blank_request 1 to shape.cylinders rate) old told answer new after → after ≡ told
    go R500 blank = either (refusal_of old (request.Blank 1 to shape.cylinders)) blank (λ does. does.1) (λ cause refused. refused.files)
    go R250 blank = either (refusal_of old (request.BlankDd 1 to shape.cylinders)) blank (λ does. does.1) (λ cause refused. refused.files)

module _ (to log : List ℕ) where
  -- however a script is run, from such a state and with these lines of the new log so far, it stores in this order
  abbrev InOrder : (State → Type 0) → List LogLine → Script → Type 0
  InOrder Such lines script =
      (old : World) (course : List Taken) (new : World) (ended : Status) → Such old.state → RunsScript script old course new ended
      → StoresInOrder to log (lines ++ log_of course) old.files new.files

  -- the stores of a course with one more step in front, which stores nothing
  behind : {asked : Request} {rest : Reply → State → Script} {old new : World} {course : List Taken} {ended : Status}
      → (run : IsAnswered asked rest old course new ended) (lines now : List LogLine) → run.files ≡ old.files
      → lines ++ line_at run.taken.asked run.taken.answer ≡ now → StoresInOrder to log (now ++ log_of run.later) run.files new.files
      → StoresInOrder to log (lines ++ log_of course) old.files new.files
  behind {new = new} {course = course} run lines now same is stores =
      let all : now ++ log_of run.later ≡ lines ++ log_of course =
      ap (λ (row : List LogLine). row ++ log_of run.later) (sym is) ∙ append_assoc lines (line_at run.taken.asked run.taken.answer) (log_of run.later)
      ∙ ap (λ (row : List Taken). lines ++ log_of row) (sym run.course_is) in
      subst (λ (f : Option Files). StoresInOrder to log (lines ++ log_of course) f new.files) same
      (subst (λ (row : List LogLine). StoresInOrder to log row run.files new.files) all stores)

  -- a step that wasn't refused adds no line
  no_line : (lines : List LogLine) (taken : Taken) → is_refusal taken.answer ≡ false → lines ++ line_at taken.asked taken.answer ≡ lines
  no_line lines taken fine = ap (λ (row : List LogLine). lines ++ row) (line_of_done taken.asked taken.answer fine) ∙ append-nil lines

  -- a request that stores nothing, followed by a script that stores in this order
  need_in_order : (One Two : State → Type 0) (asked : Request) (lines : List LogLine) (rest : Reply → State → Script)
      → ((old new : State) (told after : Option Files) (answer : Reply) → Step asked old told answer new after → after ≡ told)
      → ((old new : State) (told after : Option Files) (answer : Reply) → Step asked old told answer new after → is_refusal answer ≡ false → One old → Two new)
      → ((answer : Reply) (after : State) → InOrder Two lines (rest answer after)) → InOrder One lines (needs asked rest)
  need_in_order One Two asked lines rest same leads next old course new ended such runs = go (need_run asked rest old course new ended runs)
    where
      go : NeedRun asked rest old course new ended → StoresInOrder to log (lines ++ log_of course) old.files new.files
      go (Done run fine) =
          let taken = run.taken in
          let such_then = leads old.state taken.after old.files run.files taken.answer run.step fine such in
          behind run lines lines (same old.state taken.after old.files run.files taken.answer run.step) (no_line lines taken fine)
          (next taken.answer taken.after (behind_step run) run.later new ended such_then run.left)
      go (Refused run) = Nothing (same old.state new.state old.files new.files (reply.Refused run.cause) run.step)
      go (Halted run) = Nothing run.stops.files

  -- a call of the driver, followed by a script that stores in this order
  call_in_order : (asked : Request)
      → ((old new : State) (told after : Option Files) (answer : Reply) → Step asked old told answer new after → IsDriverCall old told new after)
      → (lines : List LogLine) (rest : Script) → InOrder (Named to) lines rest → InOrder (Named to) lines (carries asked (λ none. rest))
  unfolding carries
  call_in_order asked call lines rest next =
      need_in_order (Named to) (Named to) asked lines (λ answer after. rest)
      (λ old new told after answer step. (call old new told after answer step).files)
      (λ old new told after answer step fine named. ap (λ (n : Two (Option (List ℕ))). in_bay n 1) (call old new told after answer step).names ∙ named)
      (λ answer after. next)

  -- ---- the end

  -- after the store of the disk, the log is stored or isn't, and no request is made
  log_in_order : (lines : List LogLine) (asked : ℕ) (old : World) (course : List Taken) (new : World) (ended : Status) (told : Option Files) (disk : Disk)
      → old.files ≡ stored told to (file_of disk) → RunsScript (stores_log log asked lines) old course new ended
      → (course ≡ []) × StoresInOrder to log lines told new.files
  unfolding stores_log may_starve
  log_in_order lines asked old course new ended told disk is (inl runs) =
      let last = last_stored log (log_text lines) (last_text (outcome_of asked lines)) (outcome_status (outcome_of asked lines)) old course new ended runs in
      (last.0, go last.1)
    where
      go : StoresLast log (log_text lines) (last_text (outcome_of asked lines)) (outcome_status (outcome_of asked lines)) old new ended
          → StoresInOrder to log lines told new.files
      go (IsStored state files prints) = DiskThenLog disk (files ∙ ap (λ (f : Option Files). stored f log (log_text lines)) is)
      go (NotStored same fault) = DiskAlone disk (ap (λ (w : World). w.files) same ∙ is)
  log_in_order lines asked old course new ended told disk is (inr starved) = (starved.0, DiskAlone disk (ap (λ (w : World). w.files) starved.1 ∙ is))

  end_in_order : (lines : List LogLine) (asked : ℕ) → InOrder (Named to) lines (carries (request.Eject 1) (λ still. stores_log log asked lines))
  end_in_order lines asked old course new ended named runs = go (carry_run (request.Eject 1) (λ still. stores_log log asked lines) old course new ended runs)
    where
      go : NeedRun (request.Eject 1) (λ answer after. stores_log log asked lines) old course new ended
          → StoresInOrder to log (lines ++ log_of course) old.files new.files
      go (Done run fine) =
          let does = (done_does old.state run.taken.after old.files run.files (request.Eject 1) run.taken.answer run.step fine).1 in
          let same : does.1 ≡ to = cc (does.3, named) in
          let files : run.files ≡ stored old.files to (file_of does.0) = does.5 ∙ ap (λ (n : List ℕ). stored old.files n (file_of does.0)) same in
          let stores = log_in_order lines asked (behind_step run) run.later new ended old.files does.0 files run.left in
          let none : log_of course ≡ line_at run.taken.asked run.taken.answer = ap log_of
          (run.course_is ∙ ap (λ (row : List Taken). run.taken ∷ row) stores.0) ∙ append-nil (line_at run.taken.asked run.taken.answer) in
          let all : lines ++ log_of course ≡ lines = ap (λ (row : List LogLine). lines ++ row) none ∙ no_line lines run.taken fine in
          subst (λ (row : List LogLine). StoresInOrder to log row old.files new.files) (sym all) stores.1
      go (Refused run) = Nothing (either (refusal_of old.state (request.Eject 1)) run.step (λ does. absurd (cc does.0)) (λ reason refused. refused.files))
      go (Halted run) = Nothing run.stops.files

  -- ---- the records

  -- for any lines of the log so far, the script stores in this order
  abbrev AllInOrder : (List LogLine → Script) → Type 0
  AllInOrder rest = (lines : List LogLine) → InOrder (Named to) lines (rest lines)

  rescue_in_order : (key : Chrn) (rest : List LogLine → Script) → AllInOrder rest → AllInOrder (λ lines. rescues key lines rest)
  unfolding rescues
  rescue_in_order key rest next lines old course new ended named runs =
      go (ask_run (read_of key) (λ answer after. follows key answer lines rest) old course new ended runs)
    where
      go : AskRun (read_of key) (λ answer after. follows key answer lines rest) old course new ended
          → StoresInOrder to log (lines ++ log_of course) old.files new.files
      go (Stopped run) = Nothing run.stops.files
      go (Answered run) =
          let called = run.step.1.0 in
          let answered = run.step.1.1 in
          by_next called answered (follow_run key lines rest (behind_step run) run.later new ended called
          (subst (λ (r : Reply). RunsScript (follows key r lines rest) (behind_step run) run.later new ended) answered run.left))
        where
          named_then : Named to run.taken.after
          named_then = ap (λ (n : Two (Option (List ℕ))). in_bay n 1) run.step.0.names ∙ named

          by_next : (called : Result Bool Code) → run.taken.answer ≡ read_reply called → FollowRun key called lines rest (behind_step run) run.later new ended
              → StoresInOrder to log (lines ++ log_of course) old.files new.files
          by_next called answered (Writes deleted is more) =
              let fine = ap is_refusal (answered ∙ ap read_reply is) ∙ read_done deleted in
              behind run lines lines run.step.0.files (no_line lines run.taken fine)
              (call_in_order (write_of key deleted) (λ from then told after answer step. (write_does key deleted from then told after answer step).0) lines
              (rest lines) (next lines) (behind_step run) run.later new ended named_then more)
          by_next called answered (Logs cause is device more) =
              let line = line_of_refused key cause run.taken run.asked_is (answered ∙ ap read_reply is) in
              let now = lines ++ (record { key = key; code = cause }) ∷ [] in
              behind run lines now run.step.0.files (ap (λ (row : List LogLine). lines ++ row) line)
              (next now (behind_step run) run.later new ended named_then more)
          by_next called answered (GivesUp cause is nothing same) = Nothing (same ∙ run.step.0.files)
          by_next called answered (Starves same starved) = Nothing (same ∙ run.step.0.files)

  records_in_order : (keys : List Chrn) (rest : List LogLine → Script) → AllInOrder rest → AllInOrder (λ lines. through rescues keys lines rest)
  unfolding through
  records_in_order [] rest next = next
  records_in_order (key ∷ keys) rest next = rescue_in_order key (λ now. through rescues keys now rest) (records_in_order keys rest next)

  -- ---- the opening

  formats_in_order : (tracks : List Track) (rest : Script) → InOrder (Named to) [] rest → InOrder (Named to) [] (carries_all (format_each 1 tracks) rest)
  formats_in_order [] rest next = next
  formats_in_order (track ∷ tracks) rest next =
      call_in_order (request.Format 1 track.0 track.1) (λ old new told after answer step. step.0) [] (carries_all (format_each 1 tracks) rest)
      (formats_in_order tracks rest next)

  opening_in_order : (shape : Shape) (logged : Bool) (rest : Script) → InOrder (Named to) [] rest
      → InOrder (Named to) [] (carries_all (formats_for shape logged) rest)
  opening_in_order shape true rest next = next
  opening_in_order shape false rest next = formats_in_order (tracks_of shape.cylinders shape.heads) rest next

  ready_in_order : (rate : Rate) (requests : List Request) (rest : Script) → InOrder (Named to) [] (carries_all requests rest)
      → InOrder (Named to) [] (carries_all (ready_requests rate requests) rest)
  ready_in_order R500 requests rest next =
      call_in_order (request.Ack 0) (λ old new told after answer step. step.0) [] _
      (call_in_order (request.Ack 1) (λ old new told after answer step. step.0) [] _ next)
  ready_in_order R250 requests rest next =
      call_in_order (request.Ack 0) (λ old new told after answer step. step.0) [] _
      (call_in_order (request.SetRate 0 R250) (λ old new told after answer step. step.0) [] _
      (call_in_order (request.Ack 1) (λ old new told after answer step. step.0) [] _
      (call_in_order (request.SetRate 1 R250) (λ old new told after answer step. step.0) [] _ next)))

  prepares_in_order : (shape : Shape) (logged : Bool) (rest : Unit {0} → Script) → InOrder (Named to) [] (rest tt)
      → InOrder Any [] (prepares to shape logged rest)
  unfolding carries
  prepares_in_order shape logged rest next =
      let second = second_request to shape logged in
      let ready = ready_requests shape.rate (formats_for shape logged) in
      let later = ready_in_order shape.rate (formats_for shape logged) (rest tt) (opening_in_order shape logged (rest tt) next) in
      subst (λ (s : Script). InOrder Any [] s) (sym (prepares_carried to shape logged rest))
      (need_in_order Any (Named to) second [] (λ answer after. carries_all ready (rest tt)) (second_stores to shape logged)
      (λ old new told after answer step fine any. (second_put to shape logged old new told after answer step fine).named) (λ answer after. later))

  -- ---- the whole

  ends_in_order : (line : List (List ℕ)) (wanted : Status) → InOrder Any [] (Ends line wanted)
  ends_in_order line wanted old course new ended any runs = Nothing (last_run line wanted old course new ended runs).1.files

  fails_in_order : (cause : Status) → InOrder Any [] (Fails cause)
  fails_in_order cause old course new ended any runs = Nothing (ap (λ (w : World). w.files) (last_failed cause old course new ended runs).1)

  found_in_order : (shape : Shape) (found : Option (List LogLine)) → InOrder Any [] (rescue_found to log shape found)
  unfolding rescue_found rescues_all may_starve
  found_in_order shape found old course new ended any (inl runs) =
      let keys = asked_keys shape found in
      let asked = length keys in
      let rest = λ (lines : List LogLine). carries (request.Eject 1) (λ still. stores_log log asked lines) in
      prepares_in_order shape (is_some found) (λ none. through rescues keys [] rest)
      (records_in_order keys rest (λ lines. end_in_order lines asked) []) old course new ended any runs
  found_in_order shape found old course new ended any (inr starved) = Nothing (ap (λ (w : World). w.files) starved.1)

pub stores_in_order : (from to log : List ℕ) (old new : World) (course : List Taken) (ended : Status) → Rescues from to log old course new ended
    → StoresDiskThenLog to log (log_of course) old.files new.files
unfolding opens
stores_in_order from to log old new course ended (answers, are, runs) =
    let rest = λ (shape : Shape). rescue_rest to log shape (answers shape.rate) in
    in_order to log (log_of course) old.files new.files
    (need_in_order to log Any Any (request.Insert 0 from) [] (λ answer after. rest (shape_at after 0))
    (λ before then told after answer step. either (refusal_of before (request.Insert 0 from)) step (λ does. does.1) (λ cause refused. refused.files))
    (λ before then told after answer step fine any. tt)
    (λ answer after.
    let shape = shape_at after 0 in
    by_rest old.files to log shape (InOrder to log Any []) (λ found there. found_in_order to log shape found)
    (λ line. ends_in_order to log line status.BadJob) (fails_in_order to log status.FileFault) (fails_in_order to log status.NoMemory)
    (answers shape.rate) (are shape.rate))
    old course new ended tt runs)
