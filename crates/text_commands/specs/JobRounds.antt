-- One request of a batch job: it is run, and its answer is printed.
use Rattle.std.specs.Prelude.{◌≡◌, ℕ, Bool, List, Option, Result, Ok, Err}
use Rattle.text_commands.specs.Common.{Files, grown, GrowsByPart, Status, job_of, Request, Reply, Stop, State, Step, StopsAt, reply_lines, stop_lines, stop_status, is_refusal, Taken, Run, requests_of, course_lines, has_refusal, World, Prints, IsPutFault, IsIdle, PlaysRequests, PlaysParsed, Plays}
use Rattle.flop_base.specs.declared.answers.Status.TheVariants as status

-- the world of a play: all that it may change
abbrev pub world : State → Option Files → Option (List (List ℕ)) → World
world state files report = record { state = state; files = files; report = report }

-- a request was run and its answer printed whole; `refused` says whether the answer is a refusal
pub record IsRound (asked : Request) (old : World) (refused : Bool) (new : World) : Type 0 where
  pub answer : Reply
  pub step : Step asked old.state old.files answer new.state new.files
  pub report : new.report ≡ grown old.report (reply_lines asked answer)
  pub is_refused : refused ≡ is_refusal answer

-- a request stopped the run, or its answer couldn't be printed whole
pub data Breaks (asked : Request) (old new : World) (ended : Status) : Type 0 where
  AtStop : (cause : Stop) → StopsAt asked old.state old.files cause new.state new.files
      → Prints (stop_lines cause) (stop_status cause) old.report new.report ended → Breaks asked old new ended
  AtPut : (answer : Reply) → Step asked old.state old.files answer new.state new.files
      → GrowsByPart old.report (reply_lines asked answer) new.report → IsPutFault ended → Breaks asked old new ended

-- a request was run and its answer printed whole, or it broke off
abbrev pub RoundGoes : Request → World → Result Bool Status → World → Type 0
RoundGoes asked old (Ok refused) new = IsRound asked old refused new
RoundGoes asked old (Err ended) new = Breaks asked old new ended

-- some requests were run, and their answers printed whole
pub record HasRun (requests : List Request) (old : World) (refused : Bool) (new : World) : Type 0 where
  pub course : List Taken
  pub run : Run old.state old.files course new.state new.files
  pub all : requests ≡ requests_of course
  pub report : new.report ≡ grown old.report (course_lines course)
  pub is_refused : refused ≡ has_refusal course

-- requests of a batch job are played, by some course
abbrev pub HasPlayed : List Request → World → World → Status → Type 0
HasPlayed requests old new ended = (course : List Taken) × PlaysRequests requests old course new ended

-- requests were run and their answers printed whole, or they were played up to what stopped them
abbrev pub RoundsGo : List Request → World → Result Bool Status → World → Type 0
RoundsGo requests old (Ok refused) new = HasRun requests old refused new
RoundsGo requests old (Err ended) new = HasPlayed requests old new ended

-- the batch job of a name is played, by some course
abbrev pub PlaysJob : List ℕ → World → World → Status → Type 0
PlaysJob job old new ended = (course : List Taken) × Plays job old course new ended

-- a text is played as it is parsed, or memory for parsing ran out
pub data PlaysOrStarves (text : List ℕ) (old new : World) (ended : Status) : Type 0 where
  AsParsed : (course : List Taken) → PlaysParsed (job_of text) old course new ended → PlaysOrStarves text old new ended
  Starving : IsIdle old new status.NoMemory ended → PlaysOrStarves text old new ended
