-- Runs: steps one after the other, with the lines that answer them, and the end of a run, which stores the media that
-- are left in.
use Rattle.std.specs.Prelude.{◌≡◌, ℕ, Bool, true, false, ◌||◌, List, [], ◌∷◌, ◌++◌, map, Option, None}
use Rattle.sector_model.specs.Common.{Files, Request}
use Rattle.sector_model.specs.declared.reply.Reply.{Reply}
use Rattle.sector_model.specs.declared.reply.Stop.{Stop}
use Rattle.sector_model.specs.declared.reply.Stop.TheVariants as stop
use Rattle.sector_model.specs.States.{State, IsSame, ChangesMedium}
use Rattle.sector_model.specs.Steps.{Step, StoresMedium, is_loaded}
use Rattle.sector_model.specs.Texts.{reply_lines, is_refusal}

-- a step of a run: the request, its answer, and the state that it leads to
pub record Taken : Type 0 where
  pub asked : Request
  pub answer : Reply
  pub after : State

-- the course of a run: its steps were taken one after the other
abbrev pub Run : State → Option Files → List Taken → State → Option Files → Type 0
Run old told [] new told_after = (new ≡ old) × (told_after ≡ told)
Run old told (taken ∷ later) new told_after =
    (mid_told : Option Files) × Step taken.asked old told taken.answer taken.after mid_told
    × Run taken.after mid_told later new told_after

-- the requests of a course
abbrev pub requests_of : List Taken → List Request
requests_of course = map (λ taken. taken.asked) course

-- the lines that answer the requests of a course
abbrev pub course_lines : List Taken → List (List ℕ)
course_lines [] = []
course_lines (taken ∷ later) = reply_lines taken.asked taken.answer ++ course_lines later

-- some answer is a refusal
abbrev pub has_refusal : List Taken → Bool
has_refusal [] = false
has_refusal (taken ∷ later) = is_refusal taken.answer || has_refusal later

-- a bay without a medium at the end of a run
pub record IsLeft (bay : ℕ) (old : State) (told : Option Files) (new : State) (told_after : Option Files) : Type 0 where
  pub empty : is_loaded old bay ≡ false
  pub same : IsSame 0 old new
  pub files : told_after ≡ told

-- the end of a bay: its medium is stored, if one is in
pub data EndsBay (bay : ℕ) (old : State) (told : Option Files) (new : State) (told_after : Option Files) : Type 0 where
  Stored : StoresMedium bay old told new told_after → EndsBay bay old told new told_after
  Left : IsLeft bay old told new told_after → EndsBay bay old told new told_after

-- the end of a run: bay 0, then bay 1
abbrev pub Ends : State → Option Files → State → Option Files → Type 0
Ends old told new told_after =
    (mid : State) × (mid_told : Option Files) × EndsBay 0 old told mid mid_told × EndsBay 1 mid mid_told new told_after

-- the medium of a bay couldn't be stored, and is dropped
pub record DropsMedium (bay : ℕ) (old new : State) : Type 0 where
  pub loaded : is_loaded old bay ≡ true
  pub changes : ChangesMedium bay None None old new

-- where the end of a run stopped: at the store of bay 0, or at that of bay 1 after the end of bay 0
pub data EndStopsAt (old : State) (told : Option Files) (new : State) (told_after : Option Files) : Type 0 where
  AtFirst : DropsMedium 0 old new → told_after ≡ told → EndStopsAt old told new told_after
  AtSecond : (mid : State) → EndsBay 0 old told mid told_after → DropsMedium 1 mid new → EndStopsAt old told new told_after

-- what can stop the end of a run: a fault of the shelf, or a lack of memory
abbrev pub IsEndStop : Stop → Type 0
IsEndStop stop.FileFault = Unit {0}
IsEndStop stop.NoMemory = Unit {0}
IsEndStop _ = ⊥
