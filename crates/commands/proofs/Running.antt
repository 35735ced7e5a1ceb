-- Parts of a script, one after the other.
use Rattle.std.specs.Prelude.{IfErr, OnOk, OnErr, Result, Ok, Err}
use Rattle.std.proofs.Common.{◌≡◌, ℕ, false, List, [], ◌∷◌, refl, ap, sym, subst, inl, inr, Option}
use Rattle.commands.proofs.Common.{true≢false, Files, grown, GrowsByPart, Status, Request, Reply, Reason, Stop, State, Step, StopsAt, stop_lines, stop_status, is_refusal, Taken, Run, World, Prints, IsPutFault, stopped_text, Script, Ends, Says, Asks, Stores, MayStarve, Fails, IsPrinted, RunsScript, unless_refused, StoresLast, IsStored, NotStored, Goes, PutsLines, Finishes, Runs, with_report}
use Rattle.flop_base.specs.declared.answers.Status.TheVariants as status
use Rattle.sector_model.specs.declared.reply.Reply.TheVariants as reply
use Rattle.sector_model.specs.Ties.{TiesCounts}
use Rattle.sector_model.proofs.PlayTies.{ran_ties, stopped_ties}
use Rattle.commands.specs.Parts.{asks, needs, says, may_starve}
use Rattle.commands.specs.Leading.{IsRunOf, Leads}

-- nothing was done yet
pub leads_itself : (script : Script) (start : World) → Leads script start script start
unfolding Leads
leads_itself script start new ended run = run

-- ---- Requests.

answered : (asked : Request) (rest : Reply → State → Script) (answer : Reply) (old new : World)
    → Step asked old.state old.files answer new.state new.files → new.report ≡ old.report → (end : World) (ended : Status)
    → IsRunOf (rest answer new.state) new end ended → IsRunOf (Asks asked rest) old end ended
unfolding IsRunOf
answered asked rest answer old new step report end ended run = (
  (record { asked = asked; answer = answer; after = new.state }) ∷ run.0,
  (
    refl,
    new.files,
    step,
    subst (λ (r : Option (List (List ℕ))). RunsScript (rest answer new.state) (with_report new.state new.files r) run.0 end ended) report run.1,
  ),
)

stopped : (asked : Request) (rest : Reply → State → Script) (cause : Stop) (old new : World) (ended : Status)
    → StopsAt asked old.state old.files cause new.state new.files → Prints (stop_lines cause) (stop_status cause) old.report new.report ended
    → IsRunOf (Asks asked rest) old new ended
unfolding IsRunOf
stopped asked rest cause old new ended stops prints = ([], (cause, stops, prints))

ended_by : (line : List (List ℕ)) (wanted : Status) (old new : World) (ended : Status) → new.state ≡ old.state → new.files ≡ old.files
    → Prints line wanted old.report new.report ended → IsRunOf (Ends line wanted) old new ended
unfolding IsRunOf
ended_by line wanted old new ended state files prints = ([], record { state = state; files = files; report = prints })

-- a request was answered, and the script goes on
pub asked_on : (whole : Script) (start : World) (asked : Request) (rest : Reply → State → Script) (answer : Reply) (old new : World)
    → Step asked old.state old.files answer new.state new.files → new.report ≡ old.report → Leads whole start (asks asked rest) old
    → Leads whole start (rest answer new.state) new
unfolding Leads asks
asked_on whole start asked rest answer old new step report leads end ended run = leads end ended (answered asked rest answer old new step report end ended run)

-- the request stopped the run
pub asked_stops : (whole : Script) (start : World) (asked : Request) (rest : Reply → State → Script) (cause : Stop) (old new : World) (ended : Status)
    → StopsAt asked old.state old.files cause new.state new.files → Prints (stop_lines cause) (stop_status cause) old.report new.report ended
    → Leads whole start (asks asked rest) old → IsRunOf whole start new ended
unfolding Leads asks
asked_stops whole start asked rest cause old new ended stops prints leads = leads new ended (stopped asked rest cause old new ended stops prints)

-- the script goes on after an answer that is no refusal
pub goes_on : (asked : Request) (answer : Reply) (later : Script) → is_refusal answer ≡ false → unless_refused asked answer later ≡ later
goes_on asked (reply.Refused cause) later fine = absurd (true≢false fine)
goes_on asked _ later fine = refl

-- a request that the script can't go on without was answered, and not refused
pub needed_on : (whole : Script) (start : World) (asked : Request) (rest : Reply → State → Script) (answer : Reply) (old new : World)
    → is_refusal answer ≡ false → Step asked old.state old.files answer new.state new.files → new.report ≡ old.report
    → Leads whole start (needs asked rest) old → Leads whole start (rest answer new.state) new
unfolding Leads needs
needed_on whole start asked rest answer old new fine step report leads end ended run =
    leads end ended (answered asked (λ given after. unless_refused asked given (rest given after)) answer old new step report end ended
    (subst (λ (s : Script). IsRunOf s new end ended) (sym (goes_on asked answer (rest answer new.state) fine)) run))

-- such a request was refused, which ended the script
pub needed_refused : (whole : Script) (start : World) (asked : Request) (rest : Reply → State → Script) (cause : Reason) (old new : World) (ended : Status)
    → Step asked old.state old.files (reply.Refused cause) new.state new.files
    → Prints (stopped_text asked cause ∷ []) status.SomeRefused old.report new.report ended → Leads whole start (needs asked rest) old
    → IsRunOf whole start new ended
unfolding Leads needs
needed_refused whole start asked rest cause old new ended step prints leads =
    leads new ended (answered asked (λ given after. unless_refused asked given (rest given after)) (reply.Refused cause) old
    (with_report new.state new.files old.report) step refl new ended
    (ended_by (stopped_text asked cause ∷ []) status.SomeRefused (with_report new.state new.files old.report) new ended refl refl prints))

pub needed_stops : (whole : Script) (start : World) (asked : Request) (rest : Reply → State → Script) (cause : Stop) (old new : World) (ended : Status)
    → StopsAt asked old.state old.files cause new.state new.files → Prints (stop_lines cause) (stop_status cause) old.report new.report ended
    → Leads whole start (needs asked rest) old → IsRunOf whole start new ended
unfolding Leads needs
needed_stops whole start asked rest cause old new ended stops prints leads =
    leads new ended (stopped asked (λ given after. unless_refused asked given (rest given after)) cause old new ended stops prints)

-- ---- Lines.

said_run : (line : List ℕ) (rest : Script) (state : State) (files : Option Files) (before after : Option (List (List ℕ))) → after ≡ grown before (line ∷ [])
    → (end : World) (ended : Status) → IsRunOf rest (with_report state files after) end ended
    → IsRunOf (Says line rest) (with_report state files before) end ended
unfolding IsRunOf
said_run line rest state files before after put end ended run =
    (run.0, inl (subst (λ (r : Option (List (List ℕ))). RunsScript rest (with_report state files r) run.0 end ended) put run.1))

cut_run : (line : List ℕ) (rest : Script) (state : State) (files : Option Files) (before after : Option (List (List ℕ))) (ended : Status)
    → GrowsByPart before (line ∷ []) after → IsPutFault ended
    → IsRunOf (Says line rest) (with_report state files before) (with_report state files after) ended
unfolding IsRunOf
cut_run line rest state files before after ended part fault = ([], inr (refl, (record { state = refl; files = refl; report = part }, fault)))

pub said_on : (whole : Script) (start : World) (line : List ℕ) (rest : Unit {0} → Script) (state : State) (files : Option Files)
    (before after : Option (List (List ℕ)))
    → after ≡ grown before (line ∷ []) → Leads whole start (says line rest) (with_report state files before)
    → Leads whole start (rest tt) (with_report state files after)
unfolding Leads says
said_on whole start line rest state files before after put leads end ended run =
    leads end ended (said_run line (rest tt) state files before after put end ended run)

pub said_cut : (whole : Script) (start : World) (line : List ℕ) (rest : Unit {0} → Script) (state : State) (files : Option Files)
    (before after : Option (List (List ℕ))) (ended : Status)
    → GrowsByPart before (line ∷ []) after → IsPutFault ended → Leads whole start (says line rest) (with_report state files before)
    → IsRunOf whole start (with_report state files after) ended
unfolding Leads says
said_cut whole start line rest state files before after ended part fault leads =
    leads _ ended (cut_run line (rest tt) state files before after ended part fault)

-- a line was put, whole or in part
pub said : (line : List ℕ) (state : State) (files : Option Files) (before after : Option (List (List ℕ))) (result : Result (Unit {0}) Status)
    → OnOk result (after ≡ grown before (line ∷ [])) → OnErr result (GrowsByPart before (line ∷ []) after) → IfErr result IsPutFault
    → Goes (says line) (with_report state files before) result (with_report state files after)
said line state files before after (Ok done) put part fault = λ whole start rest leads. said_on whole start line rest state files before after put leads
said line state files before after (Err ended) put part fault = λ whole start rest leads.
    said_cut whole start line rest state files before after ended part fault leads

-- lines were put, whole or in part, whatever they are a part of
pub put_whole : (lines : List (List ℕ)) (state : State) (files : Option Files) (before after : Option (List (List ℕ))) (result : Result (Unit {0}) Status)
    → OnOk result (after ≡ grown before lines) → OnErr result (GrowsByPart before lines after) → IfErr result IsPutFault
    → PutsLines lines (with_report state files before) result (with_report state files after)
put_whole lines state files before after (Ok done) put part fault = record { state = refl; files = refl; report = put }
put_whole lines state files before after (Err ended) put part fault = (record { state = refl; files = refl; report = part }, fault)

-- the last line
pub ends_here : (whole : Script) (start : World) (line : List (List ℕ)) (wanted : Status) (state : State) (files : Option Files)
    (before after : Option (List (List ℕ))) (ended : Status)
    → Prints line wanted before after ended → Leads whole start (Ends line wanted) (with_report state files before)
    → IsRunOf whole start (with_report state files after) ended
unfolding Leads
ends_here whole start line wanted state files before after ended prints leads =
    leads _ ended (ended_by line wanted (with_report state files before) (with_report state files after) ended refl refl prints)

-- the last line, where the worlds before and after are any
pub ends_told : (whole : Script) (start : World) (line : List (List ℕ)) (wanted : Status) (old new : World) (ended : Status)
    → IsPrinted (λ before after. Prints line wanted before after ended) old new → Leads whole start (Ends line wanted) old → IsRunOf whole start new ended
unfolding Leads
ends_told whole start line wanted old new ended printed leads = leads new ended (ended_by line wanted old new ended printed.state printed.files printed.report)

-- ---- Memory, and a file that is stored.

starve_run : (rest : Script) (old end : World) (ended : Status) → IsRunOf rest old end ended → IsRunOf (MayStarve rest) old end ended
unfolding IsRunOf
starve_run rest old end ended run = (run.0, inl run.1)

starved_run : (rest : Script) (old : World) → IsRunOf (MayStarve rest) old old status.NoMemory
unfolding IsRunOf
starved_run rest old = ([], inr (refl, refl, refl))

pub fed : (whole : Script) (start : World) (rest : Unit {0} → Script) (now : World) → Leads whole start (may_starve rest) now → Leads whole start (rest tt) now
unfolding Leads may_starve
fed whole start rest now leads end ended run = leads end ended (starve_run (rest tt) now end ended run)

pub starved : (whole : Script) (start : World) (rest : Unit {0} → Script) (now : World) → Leads whole start (may_starve rest) now
    → IsRunOf whole start now status.NoMemory
unfolding Leads may_starve
starved whole start rest now leads = leads now status.NoMemory (starved_run (rest tt) now)

stored_run : (name bytes line : List ℕ) (wanted : Status) (old new : World) (ended : Status) → StoresLast name bytes line wanted old new ended
    → IsRunOf (Stores name bytes line wanted) old new ended
unfolding IsRunOf
stored_run name bytes line wanted old new ended stores = ([], stores)

pub stores_here : (whole : Script) (start : World) (name bytes line : List ℕ) (wanted : Status) (old new : World) (ended : Status)
    → StoresLast name bytes line wanted old new ended → Leads whole start (Stores name bytes line wanted) old → IsRunOf whole start new ended
unfolding Leads
stores_here whole start name bytes line wanted old new ended stores leads = leads new ended (stored_run name bytes line wanted old new ended stores)

failed_run : (cause : Status) (now : World) → IsRunOf (Fails cause) now now cause
unfolding IsRunOf
failed_run cause now = ([], (refl, refl))

-- a status, with no last line
pub fails_here : (whole : Script) (start : World) (cause : Status) (now : World) → Leads whole start (Fails cause) now → IsRunOf whole start now cause
unfolding Leads
fails_here whole start cause now leads = leads now cause (failed_run cause now)

-- ---- What a run of a script leaves.

-- the requests of a run, and the one that stopped it, if any
pub data HasRun (old : World) (course : List Taken) (new : World) : Type 0 where
  Through : (files : Option Files) → Run old.state old.files course new.state files → HasRun old course new
  Stopped : (mid : State) (files : Option Files) (asked : Request) (cause : Stop) → Run old.state old.files course mid files
      → StopsAt asked mid files cause new.state new.files → HasRun old course new

has_more : (old new : World) (taken : Taken) (later : List Taken) (files : Option Files) (report : Option (List (List ℕ)))
    → Step taken.asked old.state old.files taken.answer taken.after files → HasRun (with_report taken.after files report) later new
    → HasRun old (taken ∷ later) new
has_more old new taken later files report step (Through told run) = Through told (files, step, run)
has_more old new taken later files report step (Stopped mid told asked cause run stops) = Stopped mid told asked cause (files, step, run) stops

by_report : (old : World) (report : Option (List (List ℕ))) (course : List Taken) (new : World) → HasRun (record old { report = report }) course new
    → HasRun old course new
by_report old report course new (Through files run) = Through files run
by_report old report course new (Stopped mid files asked cause run stops) = Stopped mid files asked cause run stops

stored_ran : (name bytes line : List ℕ) (wanted : Status) (old new : World) (ended : Status) → StoresLast name bytes line wanted old new ended
    → HasRun old [] new
stored_ran name bytes line wanted old new ended (IsStored state files prints) = Through old.files (state, refl)
stored_ran name bytes line wanted old new ended (NotStored same fault) = Through old.files (ap (λ (w : World). w.state) same, refl)

pub script_ran : (script : Script) (old : World) (course : List Taken) (new : World) (ended : Status) → RunsScript script old course new ended
    → HasRun old course new
script_ran (Ends line wanted) old [] new ended runs = Through new.files (runs.state, runs.files)
script_ran (Says line rest) old course new ended (inl runs) =
    by_report old (grown old.report (line ∷ [])) course new (script_ran rest (record old { report = grown old.report (line ∷ []) }) course new ended runs)
script_ran (Says line rest) old course new ended (inr cut) =
    subst (λ (steps : List Taken). HasRun old steps new) (sym cut.0) (Through new.files (cut.1.0.state, cut.1.0.files))
script_ran (Asks asked rest) old [] new ended runs = Stopped old.state old.files asked runs.0 (refl, refl) runs.1
script_ran (Asks asked rest) old (taken ∷ later) new ended runs =
    has_more old new taken later runs.1 old.report
    (subst (λ (r : Request). Step r old.state old.files taken.answer taken.after runs.1) (sym runs.0) runs.2)
    (script_ran (rest taken.answer taken.after) (record old { state = taken.after; files = runs.1 }) later new ended runs.3)
script_ran (Stores name bytes line wanted) old [] new ended runs = stored_ran name bytes line wanted old new ended runs
script_ran (MayStarve rest) old course new ended (inl runs) = script_ran rest old course new ended runs
script_ran (MayStarve rest) old course new ended (inr none) =
    subst (λ (steps : List Taken). HasRun old steps new) (sym none.0) (Through old.files (ap (λ (w : World). w.state) none.1, refl))
script_ran (Fails cause) old [] new ended runs = Through old.files (ap (λ (w : World). w.state) runs.0, refl)
script_ran _ old (taken ∷ later) new ended runs = absurd runs

ran_tied : (old : World) (course : List Taken) (new : World) → HasRun old course new → TiesCounts old.state.station.counters course new.state.station.counters
ran_tied old course new (Through files run) = ran_ties old.state new.state old.files files course run
ran_tied old course new (Stopped mid files asked cause run stops) = stopped_ties old.state mid new.state old.files files new.files course asked cause run stops

-- a run's counts are tied to its course
pub script_ties : (script : Script) (old : World) (course : List Taken) (new : World) (ended : Status) → RunsScript script old course new ended
    → TiesCounts old.state.station.counters course new.state.station.counters
script_ties script old course new ended runs = ran_tied old course new (script_ran script old course new ended runs)

-- a run by some course
pub with_course : (script : Script) (old new : World) (ended : Status) → IsRunOf script old new ended → Runs (RunsScript script) old new ended
unfolding IsRunOf
with_course script old new ended run = record { course = run.0; does = run.1 }

-- what ends a whole script from its beginning is a run of the script
pub finished : (script : Script) (old new : World) (ended : Status) → Finishes script old new ended → Runs (RunsScript script) old new ended
finished script old new ended ends = with_course script old new ended (ends script old (leads_itself script old))
