-- A quiet controller in its word time.
use Rattle.std.proofs.Common.{◌≡◌, ℕ, Bool, true, false, None, refl, ◌∙◌, ap, subst}
use Rattle.laws_machine.proofs.Common.{Seeking, pulse_due, is_executing, ExecutesIn, ExecutesTask, RestsIn, Fdc, Phase, Execute, only_listens, false≢true, stepped_seeks as stepped}
use Rattle.laws_machine.proofs.OnSteps.Outcomes.{Listened as Outcomes, Outcome, leaves, listened}

-- ---- the seeks

pub stepped_none : (seeks : Seeking) (track0 : Bool) → seeks.seek ≡ None → stepped seeks track0 ≡ seeks
stepped_none seeks track0 none = rw none refl

pub pulse_none : (seeks : Seeking) (track0 : Bool) → seeks.seek ≡ None → pulse_due seeks track0 ≡ None
pulse_none seeks track0 none = rw none refl

-- ---- a word

-- what a word leaves that a command in execution listens to. The seeks and the poll are the same, and no command
-- writes. INT is as it was while the command goes on, and rises when the command ends.
pub record Heard (old new : Fdc) : Type 0 where
  pub seeks : new.seeks ≡ old.seeks
  pub listens : only_listens new.phase ≡ true
  pub poll : new.poll_due ≡ old.poll_due
  pub goes_on : is_executing new.phase ≡ true → new.interrupt ≡ old.interrupt
  pub ends : is_executing new.phase ≡ false → new.interrupt ≡ true

still_listens : (old new : Fdc) → Outcomes old new → only_listens new.phase ≡ true
still_listens old new (Outcome.Continues head_drive steps task bytes listens is) = ap (λ fdc. only_listens fdc.phase) is ∙ listens
still_listens old new (Outcome.Finishes ending head_drive key over is) = ap (λ fdc. only_listens fdc.phase) is

heard_of : (old new : Fdc) → Outcomes old new → Heard old new
heard_of old new outcome =
    let on = leaves old new outcome in
    record { seeks = on.seeks; listens = still_listens old new outcome; poll = on.poll; goes_on = on.goes_on; ends = λ idle. (on.ends idle).up }

-- in execution
pub word_heard : (phase : Phase) (polls new : Fdc) (index : Bool) (word : ℕ) → is_executing phase ≡ true → only_listens phase ≡ true
    → ExecutesIn phase index word polls new → Heard polls new
word_heard (Execute execution) polls new index word busy listens executes =
    heard_of polls new (listened execution.head_drive execution.steps execution.task index word polls new listens
    (subst (λ b. ExecutesTask b execution.head_drive execution.steps execution.task index word polls new) listens executes))
word_heard _ polls new index word busy listens executes = absurd (false≢true busy)

-- ---- the word time

-- the seeks are the same, and no command writes
pub record Listened (old new : Fdc) : Type 0 where
  pub seeks : new.seeks ≡ old.seeks
  pub listens : only_listens new.phase ≡ true

-- at rest
rests_listens : (polls new : Fdc) (track0 : Bool) (phase : Phase) → polls.seeks.seek ≡ None → polls.phase ≡ phase → only_listens phase ≡ true
    → new.seeks ≡ stepped polls.seeks track0 → new.phase ≡ polls.phase → Listened polls new
rests_listens polls new track0 phase none same listens seeks is =
    record { seeks = seeks ∙ stepped_none polls.seeks track0 none; listens = ap only_listens (is ∙ same) ∙ listens }

pub word_listens : (phase : Phase) (polls new : Fdc) (index track0 : Bool) (word : ℕ) → polls.seeks.seek ≡ None → only_listens phase ≡ true → polls.phase ≡ phase
    → ExecutesIn phase index word polls new → RestsIn phase track0 polls new → Listened polls new
word_listens (Execute execution) polls new index track0 word none listens same executes rests =
    let heard = word_heard (Execute execution) polls new index word refl listens executes in record { seeks = heard.seeks; listens = heard.listens }
word_listens phase polls new index track0 word none listens same executes rests =
    rests_listens polls new track0 phase none same listens (ap (λ fdc. fdc.seeks) rests) (ap (λ fdc. fdc.phase) rests)
