-- What the subcommands (forms) on files alone store and print.
use Rattle.std.proofs.Common.{◌≡◌, ℕ, List, Option, Result, Ok, Err, Some, ◌∙◌, refl, Bool, true, false, [], ◌∷◌, ◌++◌, map, None, ap, sym, subst, arith, ◌+◌, ◌≤◌}
use Rattle.std.specs.Prelude.{codes, MatchBool, length}
use Rattle.laws_program.proofs.Common.{Files, grown, Status, DriveCounts, Board, Stop, stop_status, Prints, Whole, Part, SurveyLine, Halt, Outside, Tells, MakesFromImd, MakesToImd, MakesRemaster, SurveysFile, TellsSurvey, RunsOver, MakesFile, TellsSurveyOf, calls_of, CallLine, Taken, World, IsText, Breaks, AtStop, AtPut, ServesCalls, ServesParsed, ServesLines, Through, Broken, world, IsEndStatus, not_put, AnswersCalls, list_all-append, list_all, range_with_len, Chrn, both, Request, State, is_acknowledged, StopsAt, IsEndStop, Round, AreRounds, lines_of, has_refused, DoesOrStarves, AsAsked, StarvesWords, Stand, RanOver, and_both, EndsAnswered, IsDiskFile, Names, named_by, HoldsBy, InsertsDisks, requests_among, Counters, TiesCounts, IsJob, accesses_of_job, Form}
use Rattle.laws_program.proofs.OfForms.{form_well, asked_whole, EndsAs, whole_as, put_as, stop_as, prints_as, ends_so}
use Rattle.text_commands.specs.CallCourses.{There, Missing, TooLong, Faulty, Starved, EndStopped}
use Rattle.bios_int13.specs.declared.work.Kind.{Kind}
use Rattle.bios_int13.specs.declared.work.Kind.TheVariants.{Read, Verify}
use Rattle.bios_int13.specs.declared.work.Work.{Work}
use Rattle.bios_int13.specs.declared.work.Work.TheVariants.{Answer, Changed, Move}
use Rattle.bios_int13.specs.Services.{record_requests, record_request, record_behind, place_of_record, put_requests, put_request, MovesRecords, All, UpToOne, MovesIn, AcksAlone, DoesWork}
use Rattle.text_commands.specs.CallRounds.{DoesLine}
use Rattle.laws_program.proofs.Inserting.{IsKept}
use Rattle.laws_program.proofs.KeptSteps.{same_kept, media_kept, step_kept, course_kept}
use Rattle.laws_program.proofs.Stepping.{keeps_media}
use Rattle.laws_program.proofs.Courses.{put_end, no_stop_end, no_end}
use Rattle.laws_program.proofs.FormTimes.{kept_stop, same_text, not_absent, not_long, begins_kept}
use Rattle.floppy_tools.proofs.Tied.{does_ties, job_accesses}
use Rattle.flop_base.specs.declared.answers.Status.TheVariants as status
use Rattle.sector_model.specs.declared.reply.Stop.TheVariants as stop
use Rattle.archive_commands.specs.declared.halt.Halt.TheVariants as halt
use Rattle.floppy_words.specs.declared.form.Form.TheVariants as form
use Rattle.floppy_jobs.specs.declared.calls.CallLine.TheVariants as call
use Rattle.floppy_jobs.specs.declared.request.Request.TheVariants as request

-- a line that was put with status 0 was put whole
put_well : (line : List (List ℕ)) (wanted : Status) (old new : Option (List (List ℕ))) → Prints line wanted old new status.AllOk
    → (new ≡ grown old line) × (status.AllOk ≡ wanted)
put_well line wanted old new (Whole is well) = (is, well)
put_well line wanted old new (Part grows fault) = absurd fault

not_stop : (cause : Stop) → status.AllOk ≡ stop_status cause → ⊥
not_stop (stop.BadImage name error) well = absurd (cc well)
not_stop _ well = absurd (cc well)

pub made_well : (Makes : Option Files → Result ℕ Halt → Option Files → Type 0) (verb : List ℕ) (before after : Outside) (outcome : Result ℕ Halt)
    → Makes before.files outcome after.files → Tells verb outcome before.report after.report status.AllOk → MakesFile Makes verb before after
made_well Makes verb before after (Ok count) makes tells = record { count = count; makes = makes; report = (put_well _ _ _ _ tells).0 }
made_well Makes verb before after (Err (halt.Unfit c h)) makes tells = let bad = (put_well _ _ _ _ tells).1 in absurd (cc bad)
made_well Makes verb before after (Err (halt.Stopped cause)) makes tells = absurd (not_stop cause (put_well _ _ _ _ tells).1)

pub survey_told : (name : List ℕ) (before after : Outside) (outcome : Result (List SurveyLine) Stop) → SurveysFile before.files name outcome
    → after.files ≡ before.files → TellsSurvey outcome before.report after.report status.AllOk → TellsSurveyOf name before after
survey_told name before after (Ok lines) surveys files tells =
    record { lines = lines; survey = surveys; files = files; report = (put_well _ _ _ _ tells).0 }
survey_told name before after (Err cause) surveys files tells = absurd (not_stop cause (put_well _ _ _ _ tells).1)

module _ (spares : List DriveCounts) (old new : Board) (before after : Outside) where
  pub fromimd_makes : (imd name : List ℕ) → RunsOver (Some (form.FromImd imd name)) old spares before new after status.AllOk
      → MakesFile (MakesFromImd imd name) (codes "fromimd") before after
  fromimd_makes imd name over =
      let does = (form_well (form.FromImd imd name) old spares before new after over).does.does in
      made_well (MakesFromImd imd name) (codes "fromimd") before after does.0 does.1 does.2

  pub toimd_makes : (name imd : List ℕ) → RunsOver (Some (form.ToImd name imd)) old spares before new after status.AllOk
      → MakesFile (MakesToImd name imd) (codes "toimd") before after
  toimd_makes name imd over =
      let does = (form_well (form.ToImd name imd) old spares before new after over).does.does in
      made_well (MakesToImd name imd) (codes "toimd") before after does.0 does.1 does.2

  pub remaster_makes : (from to : List ℕ) → RunsOver (Some (form.Remaster from to)) old spares before new after status.AllOk
      → MakesFile (MakesRemaster from to) (codes "remaster") before after
  remaster_makes from to over =
      let does = (form_well (form.Remaster from to) old spares before new after over).does.does in
      made_well (MakesRemaster from to) (codes "remaster") before after does.0 does.1 does.2

  pub survey_tells : (name : List ℕ) → RunsOver (Some (form.Survey name)) old spares before new after status.AllOk → TellsSurveyOf name before after
  survey_tells name over =
      let does = (form_well (form.Survey name) old spares before new after over).does.does in
      survey_told name before after does.0 does.1 does.2 does.3

-- ---- what a text of calls of INT 13h prints

module _ (name : List ℕ) (old : World) (course : List Taken) (new : World) (ended : Status) (whole : IsEndStatus ended) where
  abbrev Answered : Type 0
  Answered = AnswersCalls name old course new ended

  lines_answered : (text : List ℕ) (lines : List CallLine) → IsText old.files name text → calls_of text ≡ Ok lines → ServesLines lines old course new ended → Answered
  lines_answered text lines told spells (Through is) = record {
    text = text;
    told = told;
    lines = lines;
    spelled = spells;
    rounds = is.rounds;
    each = is.served.all;
    ran = is.course_is;
    done = record { mid = is.mid.state; files = is.mid.files; kept = is.kept; rounds_are = is.served.served; stored = is.stored };
    report = is.report ∙ is.served.report;
    status = is.status;
  }
  lines_answered text lines told spells (Broken is) = absurd (broken is.breaks)
    where
      broken : Breaks is.kept is.line is.mid is.last new ended → ⊥
      broken (AtStop asked cause line nothing stops prints) = no_stop_end cause ended whole (put_end _ _ _ _ ended whole prints)
      broken (AtPut round does last after grows fault) = not_put ended whole fault
  lines_answered text lines told spells (EndStopped is) = absurd (no_stop_end is.cause ended whole is.status)

  parsed_answered : (text : List ℕ) (parsed : Result (List CallLine) ℕ) → IsText old.files name text → calls_of text ≡ parsed
      → ServesParsed parsed old course new ended → Answered
  parsed_answered text (Ok lines) told spells serves = lines_answered text lines told spells serves
  parsed_answered text (Err line) told spells tells = absurd (no_end status.BadJob ended whole (put_end _ _ _ _ ended whole tells.tells.prints) (λ e. e))

  calls_answered : ServesCalls name old course new ended → Answered
  calls_answered (There is) = parsed_answered is.text (calls_of is.text) is.told refl is.serves
  calls_answered (Missing absent tells) = absurd (no_end status.Absent ended whole (put_end _ _ _ _ ended whole tells.tells.prints) (λ e. e))
  calls_answered (TooLong longer tells) = absurd (no_end status.BadJob ended whole (put_end _ _ _ _ ended whole tells.tells.prints) (λ e. e))
  calls_answered (Faulty nothing idle) = absurd (no_end status.FileFault ended whole idle.status (λ e. e))
  calls_answered (Starved nothing idle) = absurd (no_end status.NoMemory ended whole idle.status (λ e. e))

pub int13_answers : (name : List ℕ) (spares : List DriveCounts) (old new : Board) (before after : Outside) (ended : Status)
    → (over : RunsOver (Some (form.Int13 name)) old spares before new after ended) → IsEndStatus ended
    → AnswersCalls name (world over.start before.files before.report) over.runs.course (world over.last after.files after.report) ended
int13_answers name spares old new before after ended over whole =
    let first = world over.start before.files before.report in
    let last = world over.last after.files after.report in
    calls_answered name first over.runs.course last ended whole (asked_whole (form.Int13 name) first last over.runs.course ended whole over.runs.does)

-- ---- how a text of calls of INT 13h ends, where each file that is put in is the file of a disk

-- ---- the requests of a call keep the media

all_keep : (f : ℕ → Request) → ((i : ℕ) → keeps_media (f i) ≡ true) → (row : List ℕ) → list_all keeps_media (map f row) ≡ true
all_keep f each [] = refl
all_keep f each (i ∷ later) = rw (each i, all_keep f each later) refl

record_keeps : (kind : Kind) (bay address : ℕ) (key : Chrn) → keeps_media (record_request kind bay key address) ≡ true
record_keeps Read bay address key = refl
record_keeps kind bay address key = refl

records_keep : (kind : Kind) (bay : ℕ) (first : Chrn) (address count : ℕ) → list_all keeps_media (record_requests kind bay first address count) ≡ true
unfolding record_requests
records_keep kind bay first address count = all_keep _ (λ i. record_keeps kind bay (place_of_record kind address i) (record_behind first i)) (range_with_len 0 count)

puts_keep : (address : ℕ) (bytes : List ℕ) → list_all keeps_media (put_requests address bytes) ≡ true
unfolding put_requests
puts_keep address bytes = all_keep (put_request address bytes) (λ i. refl) (range_with_len 0 (length bytes))

module _ (Holds : List ℕ → Type 0) (names : Names) where
  moved_kept : (asked : List Request) (old new : State) (told : Option Files) (course : List Taken) (code moved : ℕ) → list_all keeps_media asked ≡ true
      → MovesRecords asked old told course code moved new → IsKept Holds names old told → IsKept Holds names new told
  moved_kept asked old new told course code moved all (All done many fine) kept =
      course_kept Holds names old new told told course (ap (λ (row : List Request). list_all keeps_media row) done.asked ∙ all) done.run kept
  moved_kept asked old new told course code moved all (UpToOne is) kept =
      let whole = ap (λ (row : List Request). list_all keeps_media row) (sym is.parts) ∙ all in
      let parts = and_both _ _ (sym (list_all-append keeps_media is.done (is.next ∷ is.later)) ∙ whole) in
      let mid = course_kept Holds names old is.mid told told is.before
      (ap (λ (row : List Request). list_all keeps_media row) is.done_well.asked ∙ parts.0) is.done_well.run kept in
      media_kept Holds names is.mid told mid is.next _ new told (and_both _ _ parts.1).0 is.step

  in_kept : (kind : Kind) (address : ℕ) (asked : List Request) (old new : State) (told : Option Files) (course : List Taken) (code moved : ℕ)
      → list_all keeps_media asked ≡ true → MovesIn kind address asked old told course code moved new → IsKept Holds names old told
      → IsKept Holds names new told
  in_kept Verify address asked old new told course code moved all is kept =
      let puts = is.puts_back in
      course_kept Holds names is.mid new told told is.puts
      (ap (λ (row : List Request). list_all keeps_media row) puts.asked ∙ puts_keep address _) puts.run
      (moved_kept asked old is.mid told is.reads code moved all is.moves kept)
  in_kept _ address asked old new told course code moved all moves kept = moved_kept asked old new told course code moved all moves kept

  goes_kept : (b : Bool) (kind : Kind) (bay address : ℕ) (asked : List Request) (old new : State) (told : Option Files) (course : List Taken) (code moved : ℕ)
      → list_all keeps_media asked ≡ true
      → MatchBool b (MovesIn kind address asked old told course code moved new) (AcksAlone bay old told course code moved new)
      → IsKept Holds names old told → IsKept Holds names new told
  goes_kept true kind bay address asked old new told course code moved all goes kept = in_kept kind address asked old new told course code moved all goes kept
  goes_kept false kind bay address asked old new told course code moved all is kept =
      media_kept Holds names old told kept (request.Ack bay) _ new told refl is.step

  work_kept : (work : Work) (old new : State) (told : Option Files) (course : List Taken) (code moved : ℕ) → DoesWork work old told course code moved new
      → IsKept Holds names old told → IsKept Holds names new told
  work_kept (Answer planned) old new told course code moved is kept = subst (λ (s : State). IsKept Holds names s told) (sym is.same) kept
  work_kept (Changed bay) old new told course code moved is kept = same_kept Holds names old told kept new told is.same refl
  work_kept (Move kind bay c h r count address) old new told course code moved is kept =
      goes_kept (is_acknowledged old.station bay) kind bay address _ is.looked new told is.later code moved (records_keep kind bay _ address count) is.goes
      (same_kept Holds names old told kept is.looked told is.same refl)

-- ---- lines

-- a line was done, and the lines after it go on
through_line : {R : Type 0} (Holds : List ℕ → Type 0) (names : Names) (line : CallLine) (more : List CallLine) (kept : ℕ) (old : State) (told : Option Files)
    (round : Round) (mid : Option Files) → DoesLine line kept old told round mid → IsKept Holds names old told
    → InsertsDisks Holds names (requests_among (line ∷ more))
    → ((Now : List ℕ → Type 0) (names : Names) → IsKept Now names round.after mid → InsertsDisks Now names (requests_among more) → R) → R
through_line Holds names (call.Job asked) more kept old told round mid does is inserts next =
    next (HoldsBy Holds names asked) (named_by names asked)
    (step_kept Holds names old told is asked does.answer round.after mid inserts.0 does.step) inserts.1
through_line Holds names (call.Call ax bx cx dx es) more kept old told round mid does is inserts next =
    next Holds names
    (subst (λ (f : Option Files). IsKept Holds names round.after f) (sym does.files)
    (work_kept Holds names _ old round.after told round.course does.serves.code does.serves.moved does.serves.work is)) inserts

rounds_stop : (asked : Request) (later : List CallLine) (cause : Stop) (mid new : State) (files after : Option Files) (kept_mid : ℕ)
    → StopsAt asked mid files cause new after
    → (rounds : List Round) (Holds : List ℕ → Type 0) (names : Names) (kept : ℕ) (old : State) (told : Option Files)
    → AreRounds kept old told rounds kept_mid mid files → InsertsDisks Holds names (requests_among (lines_of rounds ++ call.Job asked ∷ later))
    → IsKept Holds names old told → IsEndStop cause
rounds_stop asked later cause mid new files after kept_mid stops [] Holds names kept old told are inserts is =
    kept_stop Holds names mid files
    (subst (λ (f : Option Files). IsKept Holds names mid f) (sym are.2) (subst (λ (s : State). IsKept Holds names s told) (sym are.1) is))
    asked cause new after inserts.0 stops
rounds_stop asked later cause mid new files after kept_mid stops (round ∷ rest) Holds names kept old told are inserts is =
    through_line Holds names round.line (lines_of rest ++ call.Job asked ∷ later) kept old told round are.0 are.1 is inserts
    (λ Now now then_kept then_inserts.
    rounds_stop asked later cause mid new files after kept_mid stops rest Now now round.kept round.after are.0 are.2 then_inserts then_kept)

-- ---- the whole text

-- a status 0 or 1, or one that the outside gives
abbrev Any : Bool → Type 0
Any flag = Unit {0}

abbrev IsAnswered : Status → Type 0
IsAnswered ended = EndsAs Any ended

module _ (Holds : List ℕ → Type 0) (names : Names) where
  lines_by : (lines : List CallLine) (old : World) (course : List Taken) (new : World) (ended : Status) → InsertsDisks Holds names (requests_among lines)
      → IsKept Holds names old.state old.files → ServesLines lines old course new ended → IsAnswered ended
  lines_by lines old course new ended inserts kept (Through is) = subst IsAnswered (sym is.status) (whole_as Any (has_refused is.rounds) tt)
  lines_by lines old course new ended inserts kept (Broken is) = broken is.breaks
    where
      broken : Breaks is.kept is.line is.mid is.last new ended → IsAnswered ended
      broken (AtStop asked cause line nothing stops prints) =
          let parts = is.parts ∙ ap (λ (row : List CallLine). row ++ is.line ∷ is.later) is.served.all
          ∙ ap (λ (l : CallLine). lines_of is.rounds ++ l ∷ is.later) line in
          prints_as Any _ _ _ _ ended prints
          (λ well. stop_as Any cause
          (rounds_stop asked is.later cause is.mid.state new.state is.mid.files new.files is.kept stops is.rounds Holds names 0 old.state old.files
          is.served.served (subst (λ (l : List CallLine). InsertsDisks Holds names (requests_among l)) parts inserts) kept))
      broken (AtPut round does last after grows fault) = put_as Any ended fault
  lines_by lines old course new ended inserts kept (EndStopped is) = subst IsAnswered (sym is.status) (stop_as Any is.cause is.only)

calls_by : (name : List ℕ) (files : Files) (text : List ℕ) (lines : List CallLine) (old : World) (course : List Taken) (new : World) (ended : Status)
    → old.files ≡ Some files → IsText (Some files) name text → calls_of text ≡ Ok lines
    → InsertsDisks (IsDiskFile (Some files)) (both None) (requests_among lines) → IsKept (IsDiskFile (Some files)) (both None) old.state old.files
    → ServesCalls name old course new ended → IsAnswered ended
calls_by name files text lines old course new ended told is spells inserts kept (There there) =
    lines_by (IsDiskFile (Some files)) (both None) lines old course new ended inserts kept
    (subst (λ (parsed : Result (List CallLine) ℕ). ServesParsed parsed old course new ended)
    (ap calls_of (same_text files name text old.files told is there.text there.told) ∙ spells) there.serves)
calls_by name files text lines old course new ended told is spells inserts kept (Missing absent tells) = absurd (not_absent files name text old.files told is absent)
calls_by name files text lines old course new ended told is spells inserts kept (TooLong longer tells) = absurd (not_long files name text old.files told is longer)
calls_by name files text lines old course new ended told is spells inserts kept (Faulty nothing idle) = subst IsAnswered (sym idle.status) tt
calls_by name files text lines old course new ended told is spells inserts kept (Starved nothing idle) = subst IsAnswered (sym idle.status) tt

pub int13_ends : (name : List ℕ) (spares : List DriveCounts) (old new : Stand) (ended : Status) (files : Files) (text : List ℕ) (lines : List CallLine)
    → old.outside.outside.files ≡ Some files → IsText (Some files) name text → calls_of text ≡ Ok lines
    → InsertsDisks (IsDiskFile (Some files)) (both None) (requests_among lines) → (ran : RanOver (Some (form.Int13 name)) spares old new ended)
    → EndsAnswered (AnswersCalls name (world ran.runs.start old.outside.outside.files old.outside.outside.report) ran.runs.runs.course
    (world ran.runs.last new.outside.outside.files new.outside.outside.report) ended) old new ended
int13_ends name spares old new ended files text lines told is spells inserts ran =
    let over = ran.runs in
    let first = world over.start old.outside.outside.files old.outside.outside.report in
    let last = world over.last new.outside.outside.files new.outside.outside.report in
    let answers = AnswersCalls name first over.runs.course last ended in
    ends_so Any (λ s. (IsEndStatus s → answers) → EndsAnswered answers old new s) ended (λ fine told. told tt) (λ refused told. told tt) (λ told. tt)
    (λ is told. ran.shelf_faults.rose is) (λ is told. ran.sink_faults.rose is) (go over.runs.does)
    (λ whole. int13_answers name spares old.board new.board old.outside.outside new.outside.outside ended over whole)
  where
    go : DoesOrStarves (form.Int13 name) (world ran.runs.start old.outside.outside.files old.outside.outside.report) ran.runs.runs.course
        (world ran.runs.last new.outside.outside.files new.outside.outside.report) ended → IsAnswered ended
    go (AsAsked does) =
        calls_by name files text lines (world ran.runs.start old.outside.outside.files old.outside.outside.report) ran.runs.runs.course
        (world ran.runs.last new.outside.outside.files new.outside.outside.report) ended told is spells inserts
        (begins_kept files ran.runs.start old.outside.outside.files told ran.runs.set_up.names ran.runs.set_up.fresh) does
    go (StarvesWords nothing idle) = subst IsAnswered (sym idle.status) tt

-- ---- what a run over a machine counts

pub over_ties : (asked : Option Form) (spares : List DriveCounts) (old new : Board) (before after : Outside) (ended : Status)
    → (over : RunsOver asked old spares before new after ended)
    → TiesCounts over.start.station.counters over.runs.course over.last.station.counters
over_ties asked spares old new before after ended over =
    does_ties asked (world over.start before.files before.report) over.runs.course (world over.last after.files after.report) ended over.runs.does

pub machine_accesses : (job : List ℕ) (spares : List DriveCounts) (old new : Board) (before after : Outside) (ended : Status) (requests : List Request)
    → RunsOver (Some (form.Play job)) old spares before new after ended → IsJob before.files job requests
    → new.bus.direct ≤ old.bus.direct + accesses_of_job requests
machine_accesses job spares old new before after ended requests over spells =
    let began = over.set_up.starts.direct in
    let shown = ap (λ (c : Counters). c.direct) over.shows.counters in
    let within = job_accesses job (world over.start before.files before.report) over.runs.course (world over.last after.files after.report) ended requests over.runs.does spells in
    omega (arith, began, shown, within)
