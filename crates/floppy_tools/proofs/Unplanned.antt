-- How the program ends if a plan wasn't loaded or wasn't read.
use Rattle.std.proofs.Common.{◌≡◌, ℕ, List, ap, sym, ◌∙◌, subst, Option, Some, None}
use Rattle.std.specs.Prelude.{Vec, IfSome, Result, Ok, Err}
use Rattle.std.specs.declared.alloc.Global.{Global}
use Rattle.floppy_tools.proofs.Common.{Files, Loads, file_at, Status, ReadsPlan, plan_spelled, most_plan_bytes, EndsWithoutPlan, Unread, TellsUnread}
use Rattle.fault_plan.specs.declared.error.PlanError.{PlanError}
use Rattle.fault_plan.specs.declared.plan.FaultPlan.{FaultPlan}

-- a text that was loaded is the text of the told file
there : (told : Option Files) (name text : List ℕ) (bytes : Vec ℕ Global) → text ≡ bytes.items → IfSome told (λ files. Loads files name most_plan_bytes (Ok bytes)) → IfSome told (λ files. file_at files name ≡ Some text)
there None name text bytes same loads = tt
there (Some files) name text bytes same loads = loads.0 ∙ ap Some (sym same)

-- a plan's text was loaded, and isn't in its grammar, or memory for reading it ran out
pub ends_unread : (told : Option Files) (name text : List ℕ) (bytes : Vec ℕ Global) (answer : Result FaultPlan PlanError) (error : PlanError) (old new : Option (List (List ℕ))) (ended : Status) → text ≡ bytes.items → answer ≡ Err error → IfSome told (λ files. Loads files name most_plan_bytes (Ok bytes)) → ReadsPlan answer (plan_spelled text) → TellsUnread error old new ended → EndsWithoutPlan told name old new ended
ends_unread told name text bytes answer error old new ended same is loads reads tells =
    Unread text error (there told name text bytes same loads) (subst (λ (a : Result FaultPlan PlanError). ReadsPlan a (plan_spelled text)) is reads) tells
