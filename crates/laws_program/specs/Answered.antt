-- What the subcommands (forms) that run a text of requests print.
use Rattle.std.specs.Prelude.{◌≡◌, ℕ, List, [], ◌∷◌, ◌++◌, length, map, Option, Ok}
use Rattle.std.specs.List.{list_any}
use Rattle.laws_program.specs.Common.{Files, grown, Status, Request, Reply, reply_lines, is_refusal, State, Taken, Run, requests_of, Ends, World, IsText, whole_status, IsJob, calls_of, CallLine}
use Rattle.text_commands.specs.CallRounds.{Round, AreRounds, lines_of, course_of, rounds_lines, has_refused}

-- the lines of the replies to requests, one after the other
abbrev pub replies_lines : List Request → List Reply → List (List ℕ)
replies_lines [] answers = []
replies_lines (asked ∷ later) [] = []
replies_lines (asked ∷ later) (answer ∷ rest) = reply_lines asked answer ++ replies_lines later rest

-- the replies of a course
abbrev pub answers_of : List Taken → List Reply
answers_of course = map (λ taken. taken.answer) course

-- a course was run, and then the media that were left in were stored
pub record RunsToEnd (old : World) (course : List Taken) (new : World) : Type 0 where
  pub mid : State
  pub files : Option Files
  pub run : Run old.state old.files course mid files
  pub stored : Ends mid files new.state new.files

-- the requests of the batch job of this name were run, and each had a reply. The replies were printed in their order,
-- and the status says whether some reply was a refusal
pub record AnswersJob (job : List ℕ) (old : World) (course : List Taken) (new : World) (ended : Status) : Type 0 where
  pub requests : List Request
  pub spelled : IsJob old.files job requests
  pub done : RunsToEnd old course new
  pub asked : requests_of course ≡ requests
  pub answers : List Reply
  pub given : answers ≡ answers_of course
  pub each : length answers ≡ length requests
  pub report : new.report ≡ grown old.report (replies_lines requests answers)
  pub status : ended ≡ whole_status (list_any is_refusal answers)

-- lines were done one after the other, beginning with the service as it is at first; then the media that were left in
-- were stored
pub record RoundsToEnd (old : World) (rounds : List Round) (new : World) : Type 0 where
  pub mid : State
  pub files : Option Files
  pub kept : ℕ
  pub rounds_are : AreRounds 0 old.state old.files rounds kept mid files
  pub stored : Ends mid files new.state new.files

-- each line of the text of calls of this name was done, and the course is the requests of these lines. What the lines
-- print is in the report, and the status says whether some line counts as a refusal
pub record AnswersCalls (name : List ℕ) (old : World) (course : List Taken) (new : World) (ended : Status) : Type 0 where
  pub text : List ℕ
  pub told : IsText old.files name text
  pub lines : List CallLine
  pub spelled : calls_of text ≡ Ok lines
  pub rounds : List Round
  pub each : lines ≡ lines_of rounds
  pub ran : course ≡ course_of rounds
  pub done : RoundsToEnd old rounds new
  pub report : new.report ≡ grown old.report (rounds_lines rounds)
  pub status : ended ≡ whole_status (has_refused rounds)
