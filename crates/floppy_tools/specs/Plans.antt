-- How the program ends if the plan that the environment names wasn't loaded or wasn't read.
use Rattle.std.specs.Prelude.{◌≡◌, ℕ, ◌++◌, List, [], ◌∷◌, codes, Option, Some, Err, IfSome}
use Rattle.std.specs.Fmt.{decimal}
use Rattle.floppy_tools.specs.Common.{Files, Loads, file_at, Status, absent_text, Prints, ReadsPlan, plan_spelled}
use Rattle.flop_base.specs.declared.answers.Status.TheVariants as status
use Rattle.flop_base.specs.declared.answers.LoadError.{LoadError}
use Rattle.flop_base.specs.declared.answers.LoadError.TheVariants as load
use Rattle.fault_plan.specs.declared.error.PlanError.{PlanError}
use Rattle.fault_plan.specs.declared.error.PlanError.TheVariants as plan

-- the most bytes of a plan's text
abbrev pub most_plan_bytes : ℕ
most_plan_bytes = 4194304

-- the line where a plan's line isn't understood; line 0 where the text is too long
unfoldable pub bad_plan_text : ℕ → List ℕ
bad_plan_text line = codes "plan line " ++ (decimal line ++ codes " not understood\n")

-- nothing is printed
pub record Silent (wanted : Status) (old new : Option (List (List ℕ))) (ended : Status) : Type 0 where
  pub report : new ≡ old
  pub status : ended ≡ wanted

-- what is printed if a plan isn't loaded, and the status
abbrev pub TellsUnloaded : LoadError → List ℕ → Option (List (List ℕ)) → Option (List (List ℕ)) → Status → Type 0
TellsUnloaded load.Absent name old new ended = Prints (absent_text name ∷ []) status.Absent old new ended
TellsUnloaded load.TooLong name old new ended = Prints (bad_plan_text 0 ∷ []) status.BadJob old new ended
TellsUnloaded load.Failed name old new ended = Silent status.FileFault old new ended
TellsUnloaded load.NoMemory name old new ended = Silent status.NoMemory old new ended

-- what is printed if a plan's text isn't read, and the status
abbrev pub TellsUnread : PlanError → Option (List (List ℕ)) → Option (List (List ℕ)) → Status → Type 0
TellsUnread (plan.BadLine line) old new ended = Prints (bad_plan_text line ∷ []) status.BadJob old new ended
TellsUnread plan.NoMemory old new ended = Silent status.NoMemory old new ended

-- the program ends without the plan of this name: its file isn't loaded, or its text isn't read
pub data EndsWithoutPlan (told : Option Files) (name : List ℕ) (old new : Option (List (List ℕ))) (ended : Status) : Type 0 where
  Unloaded : (error : LoadError) → IfSome told (λ files. Loads files name most_plan_bytes (Err error))
      → TellsUnloaded error name old new ended → EndsWithoutPlan told name old new ended
  Unread : (text : List ℕ) (error : PlanError) → IfSome told (λ files. file_at files name ≡ Some text)
      → ReadsPlan (Err error) (plan_spelled text) → TellsUnread error old new ended → EndsWithoutPlan told name old new ended
