-- What the calls of a text do, part by part.
use Rattle.std.specs.Prelude.{◌≡◌, ℕ, Bool, List, Result, Ok, Err}
use Rattle.text_commands.specs.Common.{Status, calls_of, CallLine, Taken, World, IsIdle, HasTries, Regs}
use Rattle.flop_base.specs.declared.answers.Status.TheVariants as status
use Rattle.floppy_jobs.specs.declared.calls.CallLine.TheVariants as call
use Rattle.text_commands.specs.CallTexts.{registers}
use Rattle.text_commands.specs.CallRounds.{Round, AreServed, has_refused, IsRound, Breaks}
use Rattle.text_commands.specs.CallCourses.{IsBroken, ServesLines, ServesParsed}

-- if a line is a request that sets the number of attempts, this number is from 1 to 10
abbrev pub LineHasTries : CallLine → Type 0
LineHasTries (call.Job asked) = HasTries asked
LineHasTries (call.Call ax bx cx dx es) = Unit {0}

-- a line is a call with these registers
abbrev pub IsCallOf : Regs → CallLine → Type 0
IsCallOf regs (call.Job asked) = ⊥
IsCallOf regs (call.Call ax bx cx dx es) = regs ≡ registers ax bx cx dx es

-- some lines were served and printed whole; `refused` says whether one counts as a refusal
pub record HasServed (lines : List CallLine) (old : World) (refused : Bool) (kept : ℕ) (new : World) : Type 0 where
  pub rounds : List Round
  pub served : AreServed lines old rounds new kept
  pub is_refused : refused ≡ has_refused rounds

-- a line of these broke off
abbrev pub HasBroken : List CallLine → World → World → Status → Type 0
HasBroken lines old new ended = (course : List Taken) × IsBroken lines old course new ended

-- a line was done and printed whole, or it broke off
abbrev pub LineGoes : ℕ → ℕ → CallLine → World → Result Bool Status → World → Type 0
LineGoes kept kept_after line old (Ok refused) new = IsRound kept line old refused new kept_after
LineGoes kept kept_after line old (Err ended) new = (last : List Taken) × Breaks kept line old last new ended

-- a call with these registers was done and printed whole, or it broke off
abbrev pub CallGoes : Regs → ℕ → ℕ → World → Result Bool Status → World → Type 0
CallGoes regs kept kept_after old result new =
    (line : CallLine) → IsCallOf regs line → LineGoes kept kept_after line old result new

-- some lines were done and printed whole, or one of them broke off
abbrev pub LinesGo : List CallLine → World → Result Bool Status → World → Type 0
LinesGo lines old (Ok refused) new = (kept : ℕ) × HasServed lines old refused kept new
LinesGo lines old (Err ended) new = HasBroken lines old new ended

-- lines are served by some course
abbrev pub Serving : List CallLine → World → World → Status → Type 0
Serving lines old new ended = (course : List Taken) × ServesLines lines old course new ended

-- a text is served as it is parsed, or memory for parsing ran out
pub data ServesOrStarves (text : List ℕ) (old new : World) (ended : Status) : Type 0 where
  AsParsed : (course : List Taken) → ServesParsed (calls_of text) old course new ended → ServesOrStarves text old new ended
  Starving : IsIdle old new status.NoMemory ended → ServesOrStarves text old new ended
