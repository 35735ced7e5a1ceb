-- What a subcommand (form) counts.
use Rattle.std.proofs.Common.{arith, ◌≡◌, ℕ, ◌+◌, ◌≤◌, List, [], Option, Some, None, refl, ap, sym, subst}
use Rattle.floppy_tools.proofs.Common.{Status, State, Taken, World, bad_words_text, Form, DoesForm, DoesOrStarves, AsAsked, StarvesWords, Does}
use Rattle.flop_base.specs.declared.answers.Status.TheVariants as status
use Rattle.floppy_jobs.specs.declared.request.Request.{Request}
use Rattle.sector_model.specs.Ties.{TiesCounts, IsJob, accesses_of_job}
use Rattle.sector_model.proofs.PlayTies.{play_ties, alone_ties, play_accesses, ran_ties}
use Rattle.floppy_words.specs.declared.form.Form.TheVariants as form
use Rattle.commands.proofs.Running.{script_ties}
use Rattle.text_commands.proofs.RanCalls.{calls_ties}

abbrev Ties : World → List Taken → World → Type 0
Ties old course new = TiesCounts old.state.station.counters course new.state.station.counters

-- if nothing was run and the state stays, nothing was counted
nothing_ties : (old : World) (course : List Taken) (new : World) → course ≡ [] → new.state ≡ old.state → Ties old course new
nothing_ties old course new nothing same =
    subst (λ (steps : List Taken). Ties old steps new) (sym nothing)
    (subst (λ (s : State). TiesCounts old.state.station.counters [] s.station.counters) (sym same)
    (ran_ties old.state old.state old.files old.files [] (refl, refl)))

form_ties : (asked : Form) (old : World) (course : List Taken) (new : World) (ended : Status) → DoesForm asked old course new ended → Ties old course new
form_ties (form.Play job) old course new ended does = play_ties old new job course ended does
form_ties (form.FromImd imd name) old course new ended does = nothing_ties old course new does.nothing does.state
form_ties (form.ToImd name imd) old course new ended does = nothing_ties old course new does.nothing does.state
form_ties (form.Survey name) old course new ended does = nothing_ties old course new does.nothing does.state
form_ties (form.Remaster from to) old course new ended does = nothing_ties old course new does.nothing does.state
form_ties (form.Import flat name) old course new ended does = script_ties _ old course new ended does.2
form_ties (form.Int13 calls) old course new ended does = calls_ties old new calls course ended does
form_ties (form.Rescue from to log) old course new ended does = script_ties _ old course new ended does.2
form_ties _ old course new ended does = script_ties _ old course new ended does

asked_ties : (asked : Form) (old : World) (course : List Taken) (new : World) (ended : Status) → DoesOrStarves asked old course new ended → Ties old course new
asked_ties asked old course new ended (AsAsked does) = form_ties asked old course new ended does
asked_ties asked old course new ended (StarvesWords nothing idle) = nothing_ties old course new nothing (ap (λ (w : World). w.state) idle.same)

-- the counts of a run are tied to its course, whatever the arguments (words) ask for
pub does_ties : (asked : Option Form) (old : World) (course : List Taken) (new : World) (ended : Status) → Does asked old course new ended
    → TiesCounts old.state.station.counters course new.state.station.counters
does_ties (Some asked) old course new ended does = asked_ties asked old course new ended does
does_ties None old course new ended alone = alone_ties old new bad_words_text status.BadWords course ended alone

play_or_starve : (job : List ℕ) (old new : World) (course : List Taken) (ended : Status) (requests : List Request)
    → DoesOrStarves (form.Play job) old course new ended → IsJob old.files job requests
    → new.state.station.counters.direct ≤ old.state.station.counters.direct + accesses_of_job requests
play_or_starve job old new course ended requests (AsAsked plays) is = play_accesses old new job course ended requests plays is
play_or_starve job old new course ended requests (StarvesWords nothing idle) is =
    let same = ap (λ (w : World). w.state.station.counters.direct) idle.same in omega (arith, same)

-- the accesses past the driver of a job
pub job_accesses : (job : List ℕ) (old : World) (course : List Taken) (new : World) (ended : Status) (requests : List Request)
    → Does (Some (form.Play job)) old course new ended → IsJob old.files job requests
    → new.state.station.counters.direct ≤ old.state.station.counters.direct + accesses_of_job requests
job_accesses job old course new ended requests does is = play_or_starve job old new course ended requests does is
