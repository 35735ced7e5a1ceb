-- Plays: a job is read and run, and its answers are printed, up to its end or to what stops it, with the status of the
-- run.
use Rattle.std.specs.Prelude.{◌≡◌, ◌≤◌, ℕ, Bool, List, [], ◌∷◌, ◌++◌, length, Option, Result, Ok, Err, IfSome, IsSomeAnd, if◌then◌else◌}
use Rattle.sector_model.specs.Common.{Files, file_at, Status, job_of, Request}
use Rattle.flop_base.specs.Sink.{grown, GrowsByPart}
use Rattle.flop_base.specs.declared.answers.Status.TheVariants as status
use Rattle.sector_model.specs.declared.reply.Stop.{Stop}
use Rattle.sector_model.specs.States.{State}
use Rattle.sector_model.specs.Steps.{Step, StopsAt, IsAbsent, IsLonger}
use Rattle.sector_model.specs.Texts.{reply_lines, stop_lines, stop_status, bad_line_text, absent_text}
use Rattle.sector_model.specs.Runs.{Taken, Run, requests_of, course_lines, has_refusal, Ends, EndStopsAt, IsEndStop}

-- all that a play may change: the state of its session, the files and the report. Files and report may be unknown
pub record World : Type 0 where
  pub state : State
  pub files : Option Files
  pub report : Option (List (List ℕ))

-- the statuses after a failure to print
abbrev pub IsPutFault : Status → Type 0
IsPutFault status.NoMemory = Unit {0}
IsPutFault status.SinkFault = Unit {0}
IsPutFault _ = ⊥

-- last lines were printed, and the status is the wanted one; or the lines couldn't be printed whole
pub data Prints (lines : List (List ℕ)) (wanted : Status) (report after : Option (List (List ℕ))) (ended : Status) : Type 0 where
  Whole : after ≡ grown report lines → ended ≡ wanted → Prints lines wanted report after ended
  Part : GrowsByPart report lines after → IsPutFault ended → Prints lines wanted report after ended

-- nothing was done but to print a line
pub record Tells (line : List ℕ) (wanted : Status) (old new : World) (ended : Status) : Type 0 where
  pub state : new.state ≡ old.state
  pub files : new.files ≡ old.files
  pub prints : Prints (line ∷ []) wanted old.report new.report ended

-- nothing was done
pub record IsIdle (old new : World) (cause ended : Status) : Type 0 where
  pub same : new ≡ old
  pub status : ended ≡ cause

-- the status of a run to the end
abbrev pub whole_status : Bool → Status
whole_status refused = if refused then status.SomeRefused else status.AllOk

-- all requests were run and their answers printed, and the media that were left in were stored
pub record IsPlayed (requests : List Request) (old : World) (course : List Taken) (new : World) (ended : Status) : Type 0 where
  pub mid : State
  pub files : Option Files
  pub run : Run old.state old.files course mid files
  pub all : requests ≡ requests_of course
  pub stored : Ends mid files new.state new.files
  pub report : new.report ≡ grown old.report (course_lines course)
  pub status : ended ≡ whole_status (has_refusal course)

-- a request stopped the run, after all requests before it were run and their answers printed
pub record IsStopped (requests : List Request) (old : World) (course : List Taken) (new : World) (ended : Status) : Type 0 where
  pub asked : Request
  pub later : List Request
  pub mid : State
  pub files : Option Files
  pub cause : Stop
  pub run : Run old.state old.files course mid files
  pub all : requests ≡ requests_of course ++ asked ∷ later
  pub stops : StopsAt asked mid files cause new.state new.files
  pub prints : Prints (stop_lines cause) (stop_status cause) (grown old.report (course_lines course)) new.report ended

-- the answer to a request couldn't be printed whole, after all requests before it were run and their answers printed
pub record IsUnfinished (requests : List Request) (old : World) (course : List Taken) (new : World) (ended : Status) : Type 0 where
  pub before : List Taken
  pub last : Taken
  pub later : List Request
  pub mid : State
  pub files : Option Files
  pub run : Run old.state old.files before mid files
  pub step : Step last.asked mid files last.answer last.after new.files
  pub after : new.state ≡ last.after
  pub course_is : course ≡ before ++ last ∷ []
  pub all : requests ≡ requests_of before ++ last.asked ∷ later
  pub part : GrowsByPart (grown old.report (course_lines before)) (reply_lines last.asked last.answer) new.report
  pub fault : IsPutFault ended

-- all requests were run and their answers printed, and the end couldn't store the media that were left in
pub record IsEndStopped (requests : List Request) (old : World) (course : List Taken) (new : World) (ended : Status) : Type 0 where
  pub mid : State
  pub files : Option Files
  pub cause : Stop
  pub run : Run old.state old.files course mid files
  pub all : requests ≡ requests_of course
  pub only : IsEndStop cause
  pub stops : EndStopsAt mid files new.state new.files
  pub report : new.report ≡ grown old.report (course_lines course)
  pub status : ended ≡ stop_status cause

-- how the requests of a job are played, and the course of their run
pub data PlaysRequests (requests : List Request) (old : World) (course : List Taken) (new : World) (ended : Status) : Type 0 where
  Played : IsPlayed requests old course new ended → PlaysRequests requests old course new ended
  Stopped : IsStopped requests old course new ended → PlaysRequests requests old course new ended
  BrokenOff : IsUnfinished requests old course new ended → PlaysRequests requests old course new ended
  EndStopped : IsEndStopped requests old course new ended → PlaysRequests requests old course new ended

-- nothing was run, and a line says why
pub record TellsAlone (line : List ℕ) (wanted : Status) (old : World) (course : List Taken) (new : World) (ended : Status) : Type 0 where
  pub nothing : course ≡ []
  pub tells : Tells line wanted old new ended

-- a text in the grammar of jobs has requests, and any other text has a first bad line
abbrev pub PlaysParsed : Result (List Request) ℕ → World → List Taken → World → Status → Type 0
PlaysParsed (Ok requests) old course new ended = PlaysRequests requests old course new ended
PlaysParsed (Err line) old course new ended = TellsAlone (bad_line_text line) status.BadJob old course new ended

-- the most bytes of a job's text
abbrev pub most_job_bytes : ℕ
most_job_bytes = 4194304

-- the file of this name has this text, if the files are known
abbrev pub IsText : Option Files → List ℕ → List ℕ → Type 0
IsText told name text =
    IfSome told (λ files. IsSomeAnd (file_at files name) (λ bytes. (bytes ≡ text) × (length bytes ≤ most_job_bytes)))

-- the text of a job is there, and is played as it is parsed
pub record PlaysText (job : List ℕ) (old : World) (course : List Taken) (new : World) (ended : Status) : Type 0 where
  pub text : List ℕ
  pub told : IsText old.files job text
  pub plays : PlaysParsed (job_of text) old course new ended

-- how a job is played. Its text is there; no file has its name; the file is too long; the shelf failed; or memory ran
-- out before the first request
pub data Plays (job : List ℕ) (old : World) (course : List Taken) (new : World) (ended : Status) : Type 0 where
  There : PlaysText job old course new ended → Plays job old course new ended
  Missing : IsAbsent old.files job → TellsAlone (absent_text job) status.Absent old course new ended
      → Plays job old course new ended
  TooLong : IsLonger old.files job most_job_bytes → TellsAlone (bad_line_text 0) status.BadJob old course new ended
      → Plays job old course new ended
  Faulty : course ≡ [] → IsIdle old new status.FileFault ended → Plays job old course new ended
  Starved : course ≡ [] → IsIdle old new status.NoMemory ended → Plays job old course new ended
