-- How a text of calls is served, up to its end or to what stops it, with the status of the run.
use Rattle.std.specs.Prelude.{◌≡◌, ℕ, List, [], ◌∷◌, ◌++◌, Result, Ok, Err}
use Rattle.text_commands.specs.Common.{Status, calls_of, CallLine, Stop, IsAbsent, IsLonger, stop_status, bad_line_text, absent_text, Taken, Ends, EndStopsAt, IsEndStop, World, TellsAlone, IsIdle, IsText, most_job_bytes, whole_status}
use Rattle.flop_base.specs.declared.answers.Status.TheVariants as status
use Rattle.text_commands.specs.CallRounds.{Round, AreServed, Breaks, course_of, has_refused}

-- all lines were done and printed, and the media that were left in were stored
pub record IsThrough (lines : List CallLine) (old : World) (course : List Taken) (new : World) (ended : Status) : Type 0 where
  pub rounds : List Round
  pub mid : World
  pub kept : ℕ
  pub served : AreServed lines old rounds mid kept
  pub stored : Ends mid.state mid.files new.state new.files
  pub report : new.report ≡ mid.report
  pub status : ended ≡ whole_status (has_refused rounds)
  pub course_is : course ≡ course_of rounds

-- all lines were done and printed, and the end couldn't store what was left in
pub record IsEndStopped (lines : List CallLine) (old : World) (course : List Taken) (new : World) (ended : Status) : Type 0 where
  pub rounds : List Round
  pub mid : World
  pub kept : ℕ
  pub cause : Stop
  pub served : AreServed lines old rounds mid kept
  pub only : IsEndStop cause
  pub stops : EndStopsAt mid.state mid.files new.state new.files
  pub report : new.report ≡ mid.report
  pub status : ended ≡ stop_status cause
  pub course_is : course ≡ course_of rounds

-- a line broke off, after all lines before it were done and printed
pub record IsBroken (lines : List CallLine) (old : World) (course : List Taken) (new : World) (ended : Status) : Type 0 where
  pub rounds : List Round
  pub mid : World
  pub kept : ℕ
  pub done : List CallLine
  pub line : CallLine
  pub later : List CallLine
  pub last : List Taken
  pub parts : lines ≡ done ++ line ∷ later
  pub served : AreServed done old rounds mid kept
  pub breaks : Breaks kept line mid last new ended
  pub course_is : course ≡ course_of rounds ++ last

-- how lines are served: all of them, or up to a line that broke off, or up to the end, which stopped
pub data ServesLines (lines : List CallLine) (old : World) (course : List Taken) (new : World) (ended : Status) : Type 0 where
  Through : IsThrough lines old course new ended → ServesLines lines old course new ended
  Broken : IsBroken lines old course new ended → ServesLines lines old course new ended
  EndStopped : IsEndStopped lines old course new ended → ServesLines lines old course new ended

-- a text in the grammar of calls has lines, and these are served; any other text has a first bad line
abbrev pub ServesParsed : Result (List CallLine) ℕ → World → List Taken → World → Status → Type 0
ServesParsed (Ok lines) old course new ended = ServesLines lines old course new ended
ServesParsed (Err line) old course new ended = TellsAlone (bad_line_text line) status.BadJob old course new ended

-- the text of this name is among the told files, and is served as it is parsed
pub record ServesText (name : List ℕ) (old : World) (course : List Taken) (new : World) (ended : Status) : Type 0 where
  pub text : List ℕ
  pub told : IsText old.files name text
  pub serves : ServesParsed (calls_of text) old course new ended

-- how the calls of a file are served, in one of these cases:
-- - the text is there
-- - no file has its name
-- - the file is too long
-- - the file store (shelf) failed
-- - memory ran out before the first line
pub data ServesCalls (name : List ℕ) (old : World) (course : List Taken) (new : World) (ended : Status) : Type 0 where
  There : ServesText name old course new ended → ServesCalls name old course new ended
  Missing : IsAbsent old.files name → TellsAlone (absent_text name) status.Absent old course new ended
      → ServesCalls name old course new ended
  TooLong : IsLonger old.files name most_job_bytes → TellsAlone (bad_line_text 0) status.BadJob old course new ended
      → ServesCalls name old course new ended
  Faulty : course ≡ [] → IsIdle old new status.FileFault ended → ServesCalls name old course new ended
  Starved : course ≡ [] → IsIdle old new status.NoMemory ended → ServesCalls name old course new ended
