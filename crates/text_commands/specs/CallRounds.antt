-- The lines of a text of calls, one after the other: what each runs, and what it prints.
use Rattle.std.specs.Prelude.{◌≡◌, ℕ, Bool, false, ◌||◌, List, [], ◌∷◌, ◌++◌, map, Option}
use Rattle.text_commands.specs.Common.{Files, grown, GrowsByPart, Status, CallLine, Request, Reply, Stop, State, Step, StopsAt, reply_lines, stop_lines, stop_status, is_refusal, Taken, World, Prints, IsPutFault, Regs, Serves}
use Rattle.floppy_jobs.specs.declared.calls.CallLine.TheVariants as call
use Rattle.text_commands.specs.CallTexts.{registers, call_text}

-- a line that was done: the requests that it ran, what it prints, whether this counts as a refusal, and the state after
-- it
pub record Round : Type 0 where
  pub line : CallLine
  pub course : List Taken
  pub lines : List (List ℕ)
  pub refused : Bool
  -- the status that the service keeps
  pub kept : ℕ
  pub after : State

-- a line that is a request, done as in a batch job
pub record IsAsked (asked : Request) (kept : ℕ) (old : State) (told : Option Files) (round : Round) (after : Option Files) : Type 0 where
  pub answer : Reply
  pub step : Step asked old told answer round.after after
  pub course_is : round.course ≡ record { asked = asked; answer = answer; after = round.after } ∷ []
  pub lines_are : round.lines ≡ reply_lines asked answer
  pub is_refused : round.refused ≡ is_refusal answer
  pub keeps : round.kept ≡ kept

-- a line that is a call of INT 13h; it counts as a refusal if its carry is set
pub record IsServed (regs : Regs) (kept : ℕ) (old : State) (told : Option Files) (round : Round) (after : Option Files) : Type 0 where
  pub answered : Regs
  pub serves : Serves kept regs old told answered round.kept round.course round.after
  pub lines_are : round.lines ≡ call_text answered ∷ []
  pub is_refused : round.refused ≡ answered.carry
  pub files : after ≡ told

-- what a line does
abbrev pub DoesLine : CallLine → ℕ → State → Option Files → Round → Option Files → Type 0
DoesLine (call.Job asked) kept old told round after = IsAsked asked kept old told round after
DoesLine (call.Call ax bx cx dx es) kept old told round after = IsServed (registers ax bx cx dx es) kept old told round after

-- the lines were done one after the other
abbrev pub AreRounds : ℕ → State → Option Files → List Round → ℕ → State → Option Files → Type 0
AreRounds kept old told [] kept_after new after = (kept_after ≡ kept) × (new ≡ old) × (after ≡ told)
AreRounds kept old told (round ∷ later) kept_after new after =
    (mid : Option Files) × DoesLine round.line kept old told round mid × AreRounds round.kept round.after mid later kept_after new after

-- the lines of these rounds
abbrev pub lines_of : List Round → List CallLine
lines_of rounds = map (λ round. round.line) rounds

-- all requests that the rounds ran, in order
abbrev pub course_of : List Round → List Taken
course_of [] = []
course_of (round ∷ later) = round.course ++ course_of later

-- what the rounds print
abbrev pub rounds_lines : List Round → List (List ℕ)
rounds_lines [] = []
rounds_lines (round ∷ later) = round.lines ++ rounds_lines later

-- some round counts as a refusal
abbrev pub has_refused : List Round → Bool
has_refused [] = false
has_refused (round ∷ later) = round.refused || has_refused later

-- a line was done and printed whole
pub record IsRound (kept : ℕ) (line : CallLine) (old : World) (refused : Bool) (new : World) (kept_after : ℕ) : Type 0 where
  pub round : Round
  pub line_is : round.line ≡ line
  pub does : DoesLine line kept old.state old.files round new.files
  pub after : round.after ≡ new.state
  pub keeps : round.kept ≡ kept_after
  pub report : new.report ≡ grown old.report round.lines
  pub is_refused : refused ≡ round.refused

-- a request stopped the run, or what a line prints couldn't be put whole; `last` has the requests that the line ran
pub data Breaks (kept : ℕ) (line : CallLine) (old : World) (last : List Taken) (new : World) (ended : Status) : Type 0 where
  AtStop : (asked : Request) (cause : Stop) → line ≡ call.Job asked → last ≡ []
      → StopsAt asked old.state old.files cause new.state new.files
      → Prints (stop_lines cause) (stop_status cause) old.report new.report ended → Breaks kept line old last new ended
  AtPut : (round : Round) → DoesLine line kept old.state old.files round new.files → last ≡ round.course → round.after ≡ new.state
      → GrowsByPart old.report round.lines new.report → IsPutFault ended → Breaks kept line old last new ended

-- some lines were done and printed whole, beginning with the service as it is at first
pub record AreServed (lines : List CallLine) (old : World) (rounds : List Round) (new : World) (kept : ℕ) : Type 0 where
  pub served : AreRounds 0 old.state old.files rounds kept new.state new.files
  pub all : lines ≡ lines_of rounds
  pub report : new.report ≡ grown old.report (rounds_lines rounds)
