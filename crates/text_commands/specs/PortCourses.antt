-- Lines done one after the other, with the lines that print their answers; and the end, which stores what is left in.
use Rattle.std.specs.Prelude.{◌≡◌, ℕ, ◌+◌, Bool, true, false, ◌||◌, List, [], ◌∷◌, ◌++◌, map, Result, Ok, Err}
use Rattle.text_commands.specs.Common.{PortLine, IsInRange, Stop, IsEndStop}
use Rattle.text_commands.specs.declared.ports.answer.LineAnswer.{LineAnswer}
use Rattle.text_commands.specs.Benches.{Bench, is_loaded}
use Rattle.text_commands.specs.PortLines.{DoesLine, StoresMedium, DropsMedium, is_refusal, waits_in}
use Rattle.text_commands.specs.PortTexts.{answer_lines}

-- a line that was done: the line, its answer, and the bench that it leads to, whose board is in range
pub record Taken : Type 0 where
  pub asked : PortLine
  pub answer : LineAnswer
  pub after : Bench
  pub range : IsInRange after.board

-- the course of a run: its lines were done one after the other
abbrev pub PortRun : Bench → List Taken → Bench → Type 0
PortRun old [] new = new ≡ old
PortRun old (taken ∷ later) new = DoesLine taken.asked old taken.answer taken.after × PortRun taken.after later new

-- the lines of a course
abbrev pub lines_of : List Taken → List PortLine
lines_of course = map (λ taken. taken.asked) course

-- the lines that print the answers of a course
abbrev pub course_lines : List Taken → List (List ℕ)
course_lines [] = []
course_lines (taken ∷ later) = answer_lines taken.asked taken.answer ++ course_lines later

-- some answer of a course is a refusal
abbrev pub has_refusal : List Taken → Bool
has_refusal [] = false
has_refusal (taken ∷ later) = is_refusal taken.answer || has_refusal later

-- the device steps for which the lines of a course wait
abbrev pub waits_of : List Taken → ℕ
waits_of [] = 0
waits_of (taken ∷ later) = waits_in taken.asked + waits_of later

-- the end of a bay that has no medium: nothing is done
pub record IsLeft (bay : ℕ) (old new : Bench) : Type 0 where
  pub empty : is_loaded old.names bay ≡ false
  pub same : new ≡ old

-- the end of a bay: its medium is stored, if one is in
pub data EndsBay (bay : ℕ) (old new : Bench) : Type 0 where
  Stored : is_loaded old.names bay ≡ true → StoresMedium bay old new → EndsBay bay old new
  Left : IsLeft bay old new → EndsBay bay old new

-- the end of a run: bay 0, then bay 1
pub record Ends (old new : Bench) : Type 0 where
  pub mid : Bench
  pub first : EndsBay 0 old mid
  pub second : EndsBay 1 mid new

-- where the end of a run stopped: at the store of bay 0, or at that of bay 1 after the end of bay 0
pub data EndStopsAt (old new : Bench) : Type 0 where
  AtFirst : DropsMedium 0 old new → EndStopsAt old new
  AtSecond : (mid : Bench) → EndsBay 0 old mid → DropsMedium 1 mid new → EndStopsAt old new

-- a bay came to its end, or its medium was dropped
abbrev pub BayGoes : ℕ → Bench → Result (Unit {0}) Stop → Bench → Type 0
BayGoes bay old (Ok done) new = EndsBay bay old new
BayGoes bay old (Err cause) new = IsEndStop cause × DropsMedium bay old new

-- a run came to its end, or the end stopped
abbrev pub EndGoes : Bench → Result (Unit {0}) Stop → Bench → Type 0
EndGoes old (Ok done) new = Ends old new
EndGoes old (Err cause) new = IsEndStop cause × EndStopsAt old new
