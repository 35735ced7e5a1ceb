-- The course of a subcommand (form) is a run of the sector model.
use Rattle.std.proofs.Common.{[], ◌≡◌, ◌∙◌, ℕ, List, ◌∷◌, ◌++◌, Option, Some, Result, Ok, Err, refl, ap, sym, subst, append-nil, arith, Bool, length, None}
use Rattle.laws_program.proofs.Common.{Files, Status, DriveCounts, Board, Request, Stop, CallLine, State, StopsAt, Taken, Run, EndStopsAt, World, Plays, There, Missing, TooLong, Faulty, Starved, PlaysParsed, PlaysRequests, Played, Stopped, BrokenOff, EndStopped, Script, RunsScript, HasRun, script_ran, run_both, Breaks, AtStop, AtPut, course_of, ServesCalls, ServesParsed, ServesLines, line_run, rounds_run, Outside, Form, world, DoesForm, DoesOrStarves, AsAsked, StarvesWords, RunsOver, list_any, length-map, file_at, grown, job_of, reply_lines, is_refusal, stop_status, requests_of, course_lines, has_refusal, Prints, Whole, Part, IsText, most_job_bytes, of_one, whole_status, IsEndStatus, not_put, not_stop, AnswersJob, replies_lines, answers_of}
use Rattle.sector_model.specs.Runs.{Ends}
use Rattle.std.specs.Prelude.{◌||◌, IsSomeAnd, ◌≤◌, ◌<◌}
use Rattle.laws_program.proofs.OfForms.{asked_whole}
use Rattle.commands.proofs.Running as has
use Rattle.text_commands.specs.CallCourses as calls
use Rattle.floppy_words.specs.declared.form.Form.TheVariants as form
use Rattle.flop_base.specs.declared.answers.Status.TheVariants as status

-- ---- jobs and calls: a run, and what came after its last step

-- Nothing more came; or a request stopped the run; or its end stored the media that were left in; or that end stopped.
pub data Rests (mid : State) (files : Option Files) (new : State) (after : Option Files) : Type 0 where
  Still : new ≡ mid → after ≡ files → Rests mid files new after
  AtRequest : (asked : Request) (cause : Stop) → StopsAt asked mid files cause new after → Rests mid files new after
  AtEnd : Ends mid files new after → Rests mid files new after
  AtStore : EndStopsAt mid files new after → Rests mid files new after

-- the steps of the course were taken one after the other, and then one of these cases came
pub record Went (old : World) (course : List Taken) (new : World) : Type 0 where
  pub mid : State
  pub files : Option Files
  pub run : Run old.state old.files course mid files
  pub rests : Rests mid files new.state new.files

module _ (old : World) (course : List Taken) (new : World) where
  went_by : (steps : List Taken) (mid : State) (files : Option Files) → course ≡ steps → Run old.state old.files steps mid files
      → Rests mid files new.state new.files → Went old course new
  went_by steps mid files is run rests = record {
    mid = mid;
    files = files;
    run = subst (λ (row : List Taken). Run old.state old.files row mid files) (sym is) run;
    rests = rests;
  }

  went_nowhere : course ≡ [] → new.state ≡ old.state → new.files ≡ old.files → Went old course new
  went_nowhere nothing state files = went_by [] old.state old.files nothing (refl, refl) (Still state files)

  went_idle : course ≡ [] → new ≡ old → Went old course new
  went_idle nothing same = went_nowhere nothing (ap (λ (w : World). w.state) same) (ap (λ (w : World). w.files) same)

  went_requests : (requests : List Request) (ended : Status) → PlaysRequests requests old course new ended → Went old course new
  went_requests requests ended (Played is) = record { mid = is.mid; files = is.files; run = is.run; rests = AtEnd is.stored }
  went_requests requests ended (Stopped is) = record { mid = is.mid; files = is.files; run = is.run; rests = AtRequest is.asked is.cause is.stops }
  went_requests requests ended (BrokenOff is) =
      went_by (is.before ++ is.last ∷ []) is.last.after new.files is.course_is
      (run_both old.state is.mid is.last.after old.files is.files new.files is.before (is.last ∷ []) is.run (new.files, is.step, (refl, refl)))
      (Still is.after refl)
  went_requests requests ended (EndStopped is) = record { mid = is.mid; files = is.files; run = is.run; rests = AtStore is.stops }

  went_parsed : (parsed : Result (List Request) ℕ) (ended : Status) → PlaysParsed parsed old course new ended → Went old course new
  went_parsed (Ok requests) ended plays = went_requests requests ended plays
  went_parsed (Err line) ended alone = went_nowhere alone.nothing alone.tells.state alone.tells.files

  pub went_play : (job : List ℕ) (ended : Status) → Plays job old course new ended → Went old course new
  went_play job ended (There is) = went_parsed _ ended is.plays
  went_play job ended (Missing absent alone) = went_nowhere alone.nothing alone.tells.state alone.tells.files
  went_play job ended (TooLong longer alone) = went_nowhere alone.nothing alone.tells.state alone.tells.files
  went_play job ended (Faulty nothing idle) = went_idle nothing idle.same
  went_play job ended (Starved nothing idle) = went_idle nothing idle.same

  went_broken : (kept : ℕ) (line : CallLine) (mid : World) (before last : List Taken) (ended : Status)
      → Run old.state old.files before mid.state mid.files → Breaks kept line mid last new ended → course ≡ before ++ last → Went old course new
  went_broken kept line mid before last ended run (AtStop asked cause is nothing stops prints) whole =
      went_by before mid.state mid.files (whole ∙ ap (λ (row : List Taken). before ++ row) nothing ∙ append-nil before) run (AtRequest asked cause stops)
  went_broken kept line mid before last ended run (AtPut round does is after grows fault) whole =
      went_by (before ++ round.course) round.after new.files (whole ∙ ap (λ (row : List Taken). before ++ row) is)
      (run_both old.state mid.state round.after old.files mid.files new.files before round.course run
      (line_run line kept mid.state mid.files round new.files does)) (Still (sym after) refl)

  went_lines : (lines : List CallLine) (ended : Status) → ServesLines lines old course new ended → Went old course new
  went_lines lines ended (calls.Through is) =
      went_by (course_of is.rounds) is.mid.state is.mid.files is.course_is
      (rounds_run 0 old.state old.files is.rounds is.kept is.mid.state is.mid.files is.served.served) (AtEnd is.stored)
  went_lines lines ended (calls.Broken is) =
      went_broken is.kept is.line is.mid (course_of is.rounds) is.last ended
      (rounds_run 0 old.state old.files is.rounds is.kept is.mid.state is.mid.files is.served.served) is.breaks is.course_is
  went_lines lines ended (calls.EndStopped is) =
      went_by (course_of is.rounds) is.mid.state is.mid.files is.course_is
      (rounds_run 0 old.state old.files is.rounds is.kept is.mid.state is.mid.files is.served.served) (AtStore is.stops)

  went_served : (parsed : Result (List CallLine) ℕ) (ended : Status) → ServesParsed parsed old course new ended → Went old course new
  went_served (Ok lines) ended serves = went_lines lines ended serves
  went_served (Err line) ended alone = went_nowhere alone.nothing alone.tells.state alone.tells.files

  pub went_calls : (name : List ℕ) (ended : Status) → ServesCalls name old course new ended → Went old course new
  went_calls name ended (calls.There is) = went_served _ ended is.serves
  went_calls name ended (calls.Missing absent alone) = went_nowhere alone.nothing alone.tells.state alone.tells.files
  went_calls name ended (calls.TooLong longer alone) = went_nowhere alone.nothing alone.tells.state alone.tells.files
  went_calls name ended (calls.Faulty nothing idle) = went_idle nothing idle.same
  went_calls name ended (calls.Starved nothing idle) = went_idle nothing idle.same

  -- a play whose arguments memory ran out for is one that did nothing
  pub as_play : (job : List ℕ) (ended : Status) → DoesOrStarves (form.Play job) old course new ended → Plays job old course new ended
  as_play job ended (AsAsked does) = does
  as_play job ended (StarvesWords nothing idle) = Starved nothing idle

  -- the form went so, or memory for its arguments ran out
  pub went_or_starved : (asked : Form) (ended : Status) → (DoesForm asked old course new ended → Went old course new)
      → DoesOrStarves asked old course new ended → Went old course new
  went_or_starved asked ended went (AsAsked does) = went does
  went_or_starved asked ended went (StarvesWords nothing idle) = went_idle nothing idle.same

-- ---- each subcommand

-- the steps of a course were taken one after the other
abbrev Ran : State → Option Files → List Taken → Type 0
Ran old told course = (mid : State) × (files : Option Files) × Run old told course mid files

ran_nothing : (old : State) (told : Option Files) (course : List Taken) → course ≡ [] → Ran old told course
ran_nothing old told course nothing = subst (λ (steps : List Taken). Ran old told steps) (sym nothing) (old, told, (refl, refl))

ran_has : (old : World) (course : List Taken) (new : World) → HasRun old course new → Ran old.state old.files course
ran_has old course new (has.Through files run) = (new.state, files, run)
ran_has old course new (has.Stopped mid files asked cause run stops) = (mid, files, run)

ran_script : (script : Script) (old : World) (course : List Taken) (new : World) (ended : Status) → RunsScript script old course new ended
    → Ran old.state old.files course
ran_script script old course new ended runs = ran_has old course new (script_ran script old course new ended runs)

ran_went : (old : World) (course : List Taken) (new : World) → Went old course new → Ran old.state old.files course
ran_went old course new went = (went.mid, went.files, went.run)

ran_form : (asked : Form) (old : World) (course : List Taken) (new : World) (ended : Status) → DoesForm asked old course new ended → Ran old.state old.files course
ran_form (form.Play job) old course new ended does = ran_went old course new (went_play old course new job ended does)
ran_form (form.Int13 name) old course new ended does = ran_went old course new (went_calls old course new name ended does)
ran_form (form.FromImd imd name) old course new ended does = ran_nothing old.state old.files course does.nothing
ran_form (form.ToImd name imd) old course new ended does = ran_nothing old.state old.files course does.nothing
ran_form (form.Survey name) old course new ended does = ran_nothing old.state old.files course does.nothing
ran_form (form.Remaster from to) old course new ended does = ran_nothing old.state old.files course does.nothing
ran_form (form.Import flat name) old course new ended does = ran_script _ old course new ended does.2
ran_form (form.Rescue from to log) old course new ended does = ran_script _ old course new ended does.2
ran_form _ old course new ended does = ran_script _ old course new ended does

ran_or_starved : (asked : Form) (old : World) (course : List Taken) (new : World) (ended : Status) → DoesOrStarves asked old course new ended
    → Ran old.state old.files course
ran_or_starved asked old course new ended (AsAsked does) = ran_form asked old course new ended does
ran_or_starved asked old course new ended (StarvesWords nothing idle) = ran_nothing old.state old.files course nothing

pub form_runs : (asked : Form) (spares : List DriveCounts) (old new : Board) (before after : Outside) (ended : Status)
    → (over : RunsOver (Some asked) old spares before new after ended)
    → (mid : State) × (files : Option Files) × Run over.start before.files over.runs.course mid files
form_runs asked spares old new before after ended over =
    ran_or_starved asked (world over.start before.files before.report) over.runs.course (world over.last after.files after.report) ended over.runs.does

-- ---- what a batch job prints

told_replies : (course : List Taken) → course_lines course ≡ replies_lines (requests_of course) (answers_of course)
told_replies [] = refl
told_replies (taken ∷ later) = ap (λ (rest : List (List ℕ)). reply_lines taken.asked taken.answer ++ rest) (told_replies later)

some_refused : (course : List Taken) → has_refusal course ≡ list_any is_refusal (answers_of course)
some_refused [] = refl
some_refused (taken ∷ later) = ap (λ (rest : Bool). is_refusal taken.answer || rest) (some_refused later)

pub put_end : (line : List (List ℕ)) (wanted : Status) (old new : Option (List (List ℕ))) (ended : Status) → IsEndStatus ended → Prints line wanted old new ended → ended ≡ wanted
put_end line wanted old new ended whole (Whole is well) = well
put_end line wanted old new ended whole (Part grows fault) = absurd (not_put ended whole fault)

pub no_stop_end : (cause : Stop) (ended : Status) → IsEndStatus ended → ended ≡ stop_status cause → ⊥
no_stop_end cause ended whole is = not_stop cause (subst IsEndStatus is whole)

pub no_end : (wanted ended : Status) → IsEndStatus ended → ended ≡ wanted → (IsEndStatus wanted → ⊥) → ⊥
no_end wanted ended whole is bad = bad (subst IsEndStatus is whole)

-- ---- the file of a text

-- the file that was found has this text
abbrev pub IsThere : Option (List ℕ) → List ℕ → Type 0
IsThere found text = IsSomeAnd found (λ bytes. (bytes ≡ text) × (length bytes ≤ most_job_bytes))

abbrev pub IsTooLong : Option (List ℕ) → Type 0
IsTooLong found = IsSomeAnd found (λ bytes. most_job_bytes < length bytes)

pub one_text : (found : Option (List ℕ)) (x y : List ℕ) → IsThere found x → IsThere found y → y ≡ x
one_text found x y a b = let both = of_one found a b in sym both.3.0 ∙ both.2.0

pub there_missing : (found : Option (List ℕ)) (x : List ℕ) → IsThere found x → found ≡ None → ⊥
there_missing found x a none = let one = (of_one found a a).1 in cc (one, none)

pub there_long : (found : Option (List ℕ)) (x : List ℕ) → IsThere found x → IsTooLong found → ⊥
there_long found x a long = let both = of_one found a long in omega (arith, both.2.1, both.3)

pub text_there : (files : Files) (job text : List ℕ) → IsText (Some files) job text → file_at files job ≡ Some text
text_there files job text told = let one = of_one (file_at files job) told told in one.1 ∙ ap (λ (b : List ℕ). Some b) one.2.0

module _ (job : List ℕ) (files : Files) (old : World) (course : List Taken) (new : World) (ended : Status) (whole : IsEndStatus ended)
    (told : old.files ≡ Some files) where
  requests_answered : (text : List ℕ) (requests : List Request) → file_at files job ≡ Some text → job_of text ≡ Ok requests
      → PlaysRequests requests old course new ended → AnswersJob job old course new ended
  requests_answered text requests there spells (Played is) = record {
    requests = requests;
    spelled = record { files = files; text = text; tells = told; there = there; spells = spells };
    done = record { mid = is.mid; files = is.files; run = is.run; stored = is.stored };
    asked = sym is.all;
    answers = answers_of course;
    given = refl;
    each = length-map course (λ (taken : Taken). taken.answer) ∙ sym (length-map course (λ (taken : Taken). taken.asked))
        ∙ sym (ap (λ (row : List Request). length row) is.all);
    report = is.report ∙ ap (λ (t : List (List ℕ)). grown old.report t) (told_replies course
        ∙ sym (ap (λ (row : List Request). replies_lines row (answers_of course)) is.all));
    status = is.status ∙ ap whole_status (some_refused course);
  }
  requests_answered text requests there spells (Stopped is) =
      absurd (no_stop_end is.cause ended whole (put_end _ _ _ _ ended whole is.prints))
  requests_answered text requests there spells (BrokenOff is) = absurd (not_put ended whole is.fault)
  requests_answered text requests there spells (EndStopped is) = absurd (no_stop_end is.cause ended whole is.status)

  parsed_answered : (text : List ℕ) (parsed : Result (List Request) ℕ) → file_at files job ≡ Some text → job_of text ≡ parsed
      → PlaysParsed parsed old course new ended → AnswersJob job old course new ended
  parsed_answered text (Ok requests) there spells plays = requests_answered text requests there spells plays
  parsed_answered text (Err line) there spells tells = absurd (no_end status.BadJob ended whole (put_end _ _ _ _ ended whole tells.tells.prints) (λ e. e))

  job_answered : Plays job old course new ended → AnswersJob job old course new ended
  job_answered (There is) =
      parsed_answered is.text (job_of is.text) (text_there files job is.text (subst (λ (f : Option Files). IsText f job is.text) told is.told)) refl is.plays
  job_answered (Missing absent tells) = absurd (no_end status.Absent ended whole (put_end _ _ _ _ ended whole tells.tells.prints) (λ e. e))
  job_answered (TooLong longer tells) = absurd (no_end status.BadJob ended whole (put_end _ _ _ _ ended whole tells.tells.prints) (λ e. e))
  job_answered (Faulty nothing idle) = absurd (no_end status.FileFault ended whole idle.status (λ e. e))
  job_answered (Starved nothing idle) = absurd (no_end status.NoMemory ended whole idle.status (λ e. e))

pub play_answers : (job : List ℕ) (spares : List DriveCounts) (old new : Board) (before after : Outside) (ended : Status) (files : Files)
    → (over : RunsOver (Some (form.Play job)) old spares before new after ended) → IsEndStatus ended → before.files ≡ Some files
    → AnswersJob job (world over.start before.files before.report) over.runs.course (world over.last after.files after.report) ended
play_answers job spares old new before after ended files over whole told =
    let first = world over.start before.files before.report in
    let last = world over.last after.files after.report in
    job_answered job files first over.runs.course last ended whole told
    (asked_whole (form.Play job) first last over.runs.course ended whole over.runs.does)
