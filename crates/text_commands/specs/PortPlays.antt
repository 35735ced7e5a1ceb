-- How a text of port accesses is played: read, done and printed, up to its end or to what stops it, with the status of
-- the run.
use Rattle.std.specs.Prelude.{◌≡◌, ◌≢◌, ℕ, Bool, List, [], ◌∷◌, ◌++◌, Option, Result, Ok, Err}
use Rattle.text_commands.specs.Common.{Files, grown, GrowsByPart, Status, ports_of, PortLine, DriveState, IsInRange, MachineOf, Stop, IsAbsent, IsLonger, stop_lines, stop_status, bad_line_text, absent_text, IsEndStop, Prints, IsPutFault, IsText, most_job_bytes, whole_status}
use Rattle.flop_base.specs.declared.answers.Status.TheVariants as status
use Rattle.text_commands.specs.declared.ports.answer.LineAnswer.{LineAnswer}
use Rattle.text_commands.specs.declared.ports.answer.LineAnswer.TheVariants as answer
use Rattle.text_commands.specs.Benches.{Bench, Names, bench_of}
use Rattle.text_commands.specs.PortCourses.{Taken, PortRun, lines_of, course_lines, has_refusal, Ends, EndStopsAt}
use Rattle.text_commands.specs.PortLines.{DoesLine, StopsAt, is_refusal}
use Rattle.text_commands.specs.PortTexts.{answer_lines}

-- all that a run may change: the bench and the told report
pub record World : Type 0 where
  pub bench : Bench
  pub report : Option (List (List ℕ))

abbrev pub world_of : {D S K : Type 0} → (D → DriveState) → (S → Option Files) → (K → Option (List (List ℕ))) → MachineOf D → Names → S → K → World
world_of state files report machine names shelf out =
    record { bench = bench_of state files machine names shelf; report = report out }

-- ---- one line

-- a line was done and its answer printed whole; `refused` says whether the answer is a refusal
pub record IsRound (asked : PortLine) (old : World) (refused : Bool) (new : World) : Type 0 where
  pub answer : LineAnswer
  pub does : DoesLine asked old.bench answer new.bench
  pub range : IsInRange new.bench.board
  pub report : new.report ≡ grown old.report (answer_lines asked answer)
  pub is_refused : refused ≡ is_refusal answer

-- a line stopped the run, or it has an answer that couldn't be printed whole
pub data Breaks (asked : PortLine) (old new : World) (ended : Status) : Type 0 where
  AtStop : (cause : Stop) → StopsAt asked old.bench cause new.bench
      → Prints (stop_lines cause) (stop_status cause) old.report new.report ended → Breaks asked old new ended
  AtPut : (said : LineAnswer) → said ≢ answer.Nothing → DoesLine asked old.bench said new.bench → IsInRange new.bench.board
      → GrowsByPart old.report (answer_lines asked said) new.report → IsPutFault ended → Breaks asked old new ended

-- a line was done and its answer printed whole, or it broke off
abbrev pub RoundGoes : PortLine → World → Result Bool Status → World → Type 0
RoundGoes asked old (Ok refused) new = IsRound asked old refused new
RoundGoes asked old (Err ended) new = Breaks asked old new ended

-- ---- all lines

-- some lines were done, and their answers printed whole
pub record HasRun (lines : List PortLine) (old : World) (refused : Bool) (new : World) : Type 0 where
  pub course : List Taken
  pub run : PortRun old.bench course new.bench
  pub all : lines ≡ lines_of course
  pub report : new.report ≡ grown old.report (course_lines course)
  pub is_refused : refused ≡ has_refusal course

-- all lines were done and printed, and the media that were left in were stored
pub record IsPlayed (lines : List PortLine) (old : World) (course : List Taken) (new : World) (ended : Status) : Type 0 where
  pub mid : Bench
  pub run : PortRun old.bench course mid
  pub all : lines ≡ lines_of course
  pub stored : Ends mid new.bench
  pub report : new.report ≡ grown old.report (course_lines course)
  pub status : ended ≡ whole_status (has_refusal course)

-- a line stopped the run, after all lines before it were done and printed
pub record IsStopped (lines : List PortLine) (old : World) (course : List Taken) (new : World) (ended : Status) : Type 0 where
  pub asked : PortLine
  pub later : List PortLine
  pub mid : Bench
  pub cause : Stop
  pub run : PortRun old.bench course mid
  pub all : lines ≡ lines_of course ++ asked ∷ later
  pub stops : StopsAt asked mid cause new.bench
  pub prints : Prints (stop_lines cause) (stop_status cause) (grown old.report (course_lines course)) new.report ended

-- the answer to a line couldn't be printed whole, after all lines before it were done and printed
pub record IsUnfinished (lines : List PortLine) (old : World) (course : List Taken) (new : World) (ended : Status) : Type 0 where
  pub before : List Taken
  pub last : Taken
  pub later : List PortLine
  pub mid : Bench
  pub run : PortRun old.bench before mid
  pub does : DoesLine last.asked mid last.answer last.after
  pub tells : last.answer ≢ answer.Nothing
  pub after : new.bench ≡ last.after
  pub course_is : course ≡ before ++ last ∷ []
  pub all : lines ≡ lines_of before ++ last.asked ∷ later
  pub part : GrowsByPart (grown old.report (course_lines before)) (answer_lines last.asked last.answer) new.report
  pub fault : IsPutFault ended

-- all lines were done and printed, and the end couldn't store what was left in
pub record IsEndStopped (lines : List PortLine) (old : World) (course : List Taken) (new : World) (ended : Status) : Type 0 where
  pub mid : Bench
  pub cause : Stop
  pub run : PortRun old.bench course mid
  pub all : lines ≡ lines_of course
  pub only : IsEndStop cause
  pub stops : EndStopsAt mid new.bench
  pub report : new.report ≡ grown old.report (course_lines course)
  pub status : ended ≡ stop_status cause

-- how the lines of a text are played, and the course of their run
pub data PlaysLines (lines : List PortLine) (old : World) (course : List Taken) (new : World) (ended : Status) : Type 0 where
  Played : IsPlayed lines old course new ended → PlaysLines lines old course new ended
  Stopped : IsStopped lines old course new ended → PlaysLines lines old course new ended
  BrokenOff : IsUnfinished lines old course new ended → PlaysLines lines old course new ended
  EndStopped : IsEndStopped lines old course new ended → PlaysLines lines old course new ended

-- the lines of a text are played, by some course
abbrev pub HasPlayed : List PortLine → World → World → Status → Type 0
HasPlayed lines old new ended = (course : List Taken) × PlaysLines lines old course new ended

-- lines were done and their answers printed whole, or they were played up to what stopped them
abbrev pub RoundsGo : List PortLine → World → Result Bool Status → World → Type 0
RoundsGo lines old (Ok refused) new = HasRun lines old refused new
RoundsGo lines old (Err ended) new = HasPlayed lines old new ended

-- the end of a run: what was left in was stored, or storing a file stopped the run
pub data EndsAs (refused : Bool) (old new : Bench) (ended : Status) : Type 0 where
  InWhole : Ends old new → ended ≡ whole_status refused → EndsAs refused old new ended
  AtStore : (cause : Stop) → IsEndStop cause → EndStopsAt old new → ended ≡ stop_status cause → EndsAs refused old new ended

-- ---- the text

-- nothing was done, except that a line was printed
pub record Tells (line : List ℕ) (wanted : Status) (old new : World) (ended : Status) : Type 0 where
  pub bench : new.bench ≡ old.bench
  pub prints : Prints (line ∷ []) wanted old.report new.report ended

-- no line was done, and a last line says why
pub record TellsAlone (line : List ℕ) (wanted : Status) (old : World) (course : List Taken) (new : World) (ended : Status) : Type 0 where
  pub nothing : course ≡ []
  pub tells : Tells line wanted old new ended

-- nothing was done
pub record IsIdle (old : World) (course : List Taken) (new : World) (cause ended : Status) : Type 0 where
  pub nothing : course ≡ []
  pub same : new ≡ old
  pub status : ended ≡ cause

-- a text in the grammar of port accesses has lines, and these are played; any other text has a first bad line
abbrev pub PlaysParsed : Result (List PortLine) ℕ → World → List Taken → World → Status → Type 0
PlaysParsed (Ok lines) old course new ended = PlaysLines lines old course new ended
PlaysParsed (Err line) old course new ended = TellsAlone (bad_line_text line) status.BadJob old course new ended

-- a text is played as it is parsed, or memory for parsing ran out
pub data PlaysOrStarves (text : List ℕ) (old : World) (course : List Taken) (new : World) (ended : Status) : Type 0 where
  AsParsed : PlaysParsed (ports_of text) old course new ended → PlaysOrStarves text old course new ended
  Starving : IsIdle old course new status.NoMemory ended → PlaysOrStarves text old course new ended

-- a text is played in this way, by some course
abbrev pub PlaysGiven : List ℕ → World → World → Status → Type 0
PlaysGiven text old new ended = (course : List Taken) × PlaysOrStarves text old course new ended

-- the text of this name is among the told files, and is played as it is parsed
pub record PlaysText (name : List ℕ) (old : World) (course : List Taken) (new : World) (ended : Status) : Type 0 where
  pub text : List ℕ
  pub told : IsText old.bench.files name text
  pub plays : PlaysParsed (ports_of text) old course new ended

-- how a file of port accesses is played, in one of these cases:
-- - its text is there
-- - no file has its name
-- - the file is too long
-- - the file store (shelf) failed
-- - memory ran out before the first line
pub data Plays (name : List ℕ) (old : World) (course : List Taken) (new : World) (ended : Status) : Type 0 where
  There : PlaysText name old course new ended → Plays name old course new ended
  Missing : IsAbsent old.bench.files name → TellsAlone (absent_text name) status.Absent old course new ended
      → Plays name old course new ended
  TooLong : IsLonger old.bench.files name most_job_bytes → TellsAlone (bad_line_text 0) status.BadJob old course new ended
      → Plays name old course new ended
  Faulty : IsIdle old course new status.FileFault ended → Plays name old course new ended
  Starved : IsIdle old course new status.NoMemory ended → Plays name old course new ended
