-- Runs of subcommands (forms), by what was read of the arguments (words).
use Rattle.std.proofs.Common.{◌≡◌, ℕ, List, [], refl, ap, ◌∙◌, sym, subst, Option, Some, None}
use Rattle.std.specs.Prelude.{IsSome}
use Rattle.flop_base.specs.declared.answers.Status.TheVariants as status
use Rattle.floppy_tools.proofs.Common.{Status, Taken, World, Tells, TellsAlone, Plays, bad_words_text, Reads, Form, Runs, DoesForm, AsAsked, StarvesWords, Does}
use Rattle.std.specs.Prelude.{Result, Ok, Err}
use Rattle.flop_base.specs.declared.answers.NoMemory.{NoMemory}
use Rattle.floppy_words.specs.declared.form.Form.TheVariants as form
use Rattle.std.proofs.lemmas.Bool.{true≢false}

-- a play of a batch job is what its subcommand asks for
pub play_runs : (job : List ℕ) (old new : World) (ended : Status) → ((course : List Taken) × Plays job old course new ended) → Runs (DoesForm (form.Play job)) old new ended
play_runs job old new ended p = record { course = p.0; does = p.1 }

-- a run of a subcommand, by the subcommand that it was found to be
pub form_runs : (asked named : Form) (old new : World) (ended : Status) → asked ≡ named → Runs (DoesForm named) old new ended → Runs (DoesForm asked) old new ended
form_runs asked named old new ended is runs = subst (λ (f : Form). Runs (DoesForm f) old new ended) (sym is) runs

-- a subcommand was done
pub runs_asked : (spelled : Option Form) (asked : Form) (old new : World) (ended : Status) → spelled ≡ Some asked → Runs (DoesForm asked) old new ended → Runs (Does spelled) old new ended
runs_asked spelled asked old new ended is runs =
    subst (λ (o : Option Form). Runs (Does o) old new ended) (sym is) (record { course = runs.course; does = AsAsked runs.does })

-- a subcommand was done, up to a world that is the same
pub ran_asked : (spelled : Option Form) (asked : Form) (old new same : World) (ended : Status) → spelled ≡ Some asked → Runs (DoesForm asked) old new ended → new ≡ same
    → Runs (Does spelled) old same ended
ran_asked spelled asked old new same ended is runs ends = subst (λ (w : World). Runs (Does spelled) old w ended) ends (runs_asked spelled asked old new ended is runs)

-- memory for the arguments of a subcommand ran out
pub runs_starving : (spelled : Option Form) (old : World) → IsSome spelled → Runs (Does spelled) old old status.NoMemory
runs_starving None old some = absurd (true≢false (sym some))
runs_starving (Some asked) old some = record {
  course = [];
  does = StarvesWords refl (record { same = refl; status = refl });
}

-- arguments that are no subcommand
pub runs_none : (spelled : Option Form) (old new : World) (ended : Status) → spelled ≡ None → Tells bad_words_text status.BadWords old new ended → Runs (Does spelled) old new ended
runs_none spelled old new ended none tells =
    let alone : TellsAlone bad_words_text status.BadWords old [] new ended = record { nothing = refl; tells = tells } in
    subst (λ (o : Option Form). Runs (Does o) old new ended) (sym none)
    (record { course = []; does = alone })

-- ---- What was read of the arguments.

pub asked_runs : (asked : Result (Option Form) NoMemory) (form : Option Form) (old new : World) (ended : Status) → asked ≡ Ok form → Runs (Does form) old new ended → (spelled : Option Form) → Reads asked spelled → Runs (Does spelled) old new ended
asked_runs asked form old new ended is runs spelled reads =
    let spells : form ≡ spelled = subst (λ (read : Result (Option Form) NoMemory). Reads read spelled) is reads in
    subst (λ (o : Option Form). Runs (Does o) old new ended) spells runs

pub starved_runs : (asked : Result (Option Form) NoMemory) (error : NoMemory) (old : World) → asked ≡ Err error → (spelled : Option Form) → Reads asked spelled → Runs (Does spelled) old old status.NoMemory
starved_runs asked error old is spelled reads =
    runs_starving spelled old (subst (λ (read : Result (Option Form) NoMemory). Reads read spelled) is reads)

pub read_none : (asked : Result (Option Form) NoMemory) (spelled : Option Form) → asked ≡ Ok None → Reads asked spelled → spelled ≡ None
read_none asked spelled is reads = sym (subst (λ (read : Result (Option Form) NoMemory). Reads read spelled) is reads)

pub none_asked : (asked : Result (Option Form) NoMemory) (form : Option Form) → asked ≡ Ok form → form ≡ None → asked ≡ Ok None
none_asked asked form is none = is ∙ ap (λ (o : Option Form). Ok o) none
