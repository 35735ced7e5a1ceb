-- What a run of a part of a script was.
use Rattle.std.proofs.Common.{◌≡◌, ℕ, false, List, [], ◌∷◌, refl, ap, ◌∙◌, sym, subst, Option}
use Rattle.commands.proofs.Common.{Files, grown, Status, Request, Reply, Reason, Stop, State, Step, StopsAt, stop_lines, stop_status, is_refusal, Taken, World, Prints, Whole, IsPutFault, stopped_text, Script, Ends, Fails, Asks, Stores, RunsScript, IsPrinted, StoresLast, unless_refused, with_report}
use Rattle.flop_base.specs.declared.answers.Status.TheVariants as status
use Rattle.sector_model.specs.declared.reply.Reply.TheVariants as reply
use Rattle.sector_model.specs.declared.reply.Stop.TheVariants as stop
use Rattle.sector_model.specs.Plays.{Part}
use Rattle.commands.specs.Parts.{asks, needs, carries}
use Rattle.commands.proofs.Running.{goes_on}

-- a request was answered, and what follows was run
pub record IsAnswered (asked : Request) (rest : Reply → State → Script) (old : World) (course : List Taken) (new : World) (ended : Status) : Type 0 where
  pub taken : Taken
  pub later : List Taken
  pub files : Option Files
  pub course_is : course ≡ taken ∷ later
  pub asked_is : taken.asked ≡ asked
  pub step : Step asked old.state old.files taken.answer taken.after files
  pub left : RunsScript (rest taken.answer taken.after) (with_report taken.after files old.report) later new ended

-- the request stopped the run
pub record IsStopped (asked : Request) (old : World) (course : List Taken) (new : World) (ended : Status) : Type 0 where
  pub cause : Stop
  pub nothing : course ≡ []
  pub stops : StopsAt asked old.state old.files cause new.state new.files
  pub prints : Prints (stop_lines cause) (stop_status cause) old.report new.report ended

-- the request was refused, and that ended the script
pub record IsRefused (asked : Request) (old : World) (course : List Taken) (new : World) (ended : Status) : Type 0 where
  pub taken : Taken
  pub cause : Reason
  pub course_is : course ≡ taken ∷ []
  pub asked_is : taken.asked ≡ asked
  pub answered : taken.answer ≡ reply.Refused cause
  pub after : new.state ≡ taken.after
  pub step : Step asked old.state old.files (reply.Refused cause) new.state new.files
  pub prints : Prints (stopped_text asked cause ∷ []) status.SomeRefused old.report new.report ended

pub data AskRun (asked : Request) (rest : Reply → State → Script) (old : World) (course : List Taken) (new : World) (ended : Status) : Type 0 where
  Answered : IsAnswered asked rest old course new ended → AskRun asked rest old course new ended
  Stopped : IsStopped asked old course new ended → AskRun asked rest old course new ended

asked_run : (asked : Request) (rest : Reply → State → Script) (old : World) (course : List Taken) (new : World) (ended : Status)
    → RunsScript (Asks asked rest) old course new ended → AskRun asked rest old course new ended
asked_run asked rest old [] new ended runs = Stopped (record { cause = runs.0; nothing = refl; stops = runs.1; prints = runs.2 })
asked_run asked rest old (taken ∷ later) new ended runs = Answered (record {
  taken = taken;
  later = later;
  files = runs.1;
  course_is = refl;
  asked_is = runs.0;
  step = runs.2;
  left = runs.3;
})

pub ask_run : (asked : Request) (rest : Reply → State → Script) (old : World) (course : List Taken) (new : World) (ended : Status)
    → RunsScript (asks asked rest) old course new ended → AskRun asked rest old course new ended
unfolding asks
ask_run asked rest old course new ended runs = asked_run asked rest old course new ended runs

-- a request that the script can't go on without. It was answered and not refused, or it was refused, or it stopped the
-- run
pub data NeedRun (asked : Request) (rest : Reply → State → Script) (old : World) (course : List Taken) (new : World) (ended : Status) : Type 0 where
  Done : (done : IsAnswered asked rest old course new ended) → is_refusal done.taken.answer ≡ false → NeedRun asked rest old course new ended
  Refused : IsRefused asked old course new ended → NeedRun asked rest old course new ended
  Halted : IsStopped asked old course new ended → NeedRun asked rest old course new ended

-- a last line was put
pub last_run : (line : List (List ℕ)) (wanted : Status) (old : World) (course : List Taken) (new : World) (ended : Status)
    → RunsScript (Ends line wanted) old course new ended → (course ≡ []) × IsPrinted (λ before after. Prints line wanted before after ended) old new
last_run line wanted old [] new ended runs = (refl, runs)
last_run line wanted old (taken ∷ later) new ended runs = absurd runs

-- nothing was done, and the status is this
pub last_failed : (cause : Status) (old : World) (course : List Taken) (new : World) (ended : Status)
    → RunsScript (Fails cause) old course new ended → (course ≡ []) × (new ≡ old) × (ended ≡ cause)
last_failed cause old [] new ended runs = (refl, runs.0, runs.1)
last_failed cause old (taken ∷ later) new ended runs = absurd runs

-- a last file was stored
pub last_stored : (name bytes line : List ℕ) (wanted : Status) (old : World) (course : List Taken) (new : World) (ended : Status)
    → RunsScript (Stores name bytes line wanted) old course new ended → (course ≡ []) × StoresLast name bytes line wanted old new ended
last_stored name bytes line wanted old [] new ended runs = (refl, runs)
last_stored name bytes line wanted old (taken ∷ later) new ended runs = absurd runs

-- the script goes on after any other answer than a refusal
as_done : (asked : Request) (rest : Reply → State → Script) (old : World) (course : List Taken) (new : World) (ended : Status)
    → (run : IsAnswered asked (λ given after. unless_refused asked given (rest given after)) old course new ended)
    → is_refusal run.taken.answer ≡ false → NeedRun asked rest old course new ended
as_done asked rest old course new ended run fine =
    let same = goes_on asked run.taken.answer (rest run.taken.answer run.taken.after) fine in
    Done (record {
      taken = run.taken;
      later = run.later;
      files = run.files;
      course_is = run.course_is;
      asked_is = run.asked_is;
      step = run.step;
      left = subst (λ (s : Script). RunsScript s (with_report run.taken.after run.files old.report) run.later new ended) same run.left;
    }) fine

by_answer : (asked : Request) (rest : Reply → State → Script) (old : World) (course : List Taken) (new : World) (ended : Status) (answer : Reply)
    (run : IsAnswered asked (λ given after. unless_refused asked given (rest given after)) old course new ended)
    → run.taken.answer ≡ answer → NeedRun asked rest old course new ended
by_answer asked rest old course new ended (reply.Refused cause) run is =
    let left = subst (λ (a : Reply). RunsScript (unless_refused asked a (rest a run.taken.after))
    (with_report run.taken.after run.files old.report) run.later new ended) is run.left in
    let last = last_run (stopped_text asked cause ∷ []) status.SomeRefused (with_report run.taken.after run.files old.report) run.later new ended left in
    Refused (record {
      taken = run.taken;
      cause = cause;
      course_is = run.course_is ∙ ap (λ (l : List Taken). run.taken ∷ l) last.0;
      asked_is = run.asked_is;
      answered = is;
      after = last.1.state;
      step = subst (λ (s : State). Step asked old.state old.files (reply.Refused cause) s new.files) (sym last.1.state)
          (subst (λ (f : Option Files). Step asked old.state old.files (reply.Refused cause) run.taken.after f) (sym last.1.files)
          (subst (λ (a : Reply). Step asked old.state old.files a run.taken.after run.files) is run.step));
      prints = last.1.report;
    })
by_answer asked rest old course new ended _ run is = as_done asked rest old course new ended run (ap is_refusal is)

pub need_run : (asked : Request) (rest : Reply → State → Script) (old : World) (course : List Taken) (new : World) (ended : Status)
    → RunsScript (needs asked rest) old course new ended → NeedRun asked rest old course new ended
unfolding needs
need_run asked rest old course new ended runs =
    by_run (asked_run asked (λ given after. unless_refused asked given (rest given after)) old course new ended runs)
  where
    by_run : AskRun asked (λ given after. unless_refused asked given (rest given after)) old course new ended → NeedRun asked rest old course new ended
    by_run (Answered run) = by_answer asked rest old course new ended run.taken.answer run refl
    by_run (Stopped run) = Halted run

pub carry_run : (asked : Request) (rest : Unit {0} → Script) (old : World) (course : List Taken) (new : World) (ended : Status)
    → RunsScript (carries asked rest) old course new ended → NeedRun asked (λ answer after. rest tt) old course new ended
unfolding carries
carry_run asked rest old course new ended runs = need_run asked (λ answer after. rest tt) old course new ended runs

-- ---- A script that ended well.

-- a line that was printed whole, with its status
pub prints_status : (report : Option (List (List ℕ))) (line : List (List ℕ)) (wanted ended : Status) (after : Option (List (List ℕ))) → (IsPutFault ended → ⊥)
    → Prints line wanted report after ended → (after ≡ grown report line) × (ended ≡ wanted)
prints_status report line wanted ended after sound (Whole told same) = (told, same)
prints_status report line wanted ended after sound (Part grows fault) = absurd (sound fault)

pub no_stop_is_ok : (cause : Stop) → status.AllOk ≡ stop_status cause → ⊥
no_stop_is_ok (stop.BadImage name error) same = cc same
no_stop_is_ok (stop.TooLong name most) same = cc same
no_stop_is_ok (stop.Absent name) same = cc same
no_stop_is_ok stop.FileFault same = cc same
no_stop_is_ok stop.NoMemory same = cc same

-- a script with this status went on to an end of its own: nothing stopped it, and each line was put whole
pub record IsWhole (ended : Status) : Type 0 where
  pub put : IsPutFault ended → ⊥
  pub stop : (cause : Stop) → ended ≡ stop_status cause → ⊥

pub ok_is_whole : IsWhole status.AllOk
ok_is_whole = record { put = λ fault. fault; stop = no_stop_is_ok }

-- a request was answered and not refused
pub record IsDone (asked : Request) (rest : Reply → State → Script) (old : World) (course : List Taken) (new : World) (ended : Status) : Type 0 where
  pub run : IsAnswered asked rest old course new ended
  pub fine : is_refusal run.taken.answer ≡ false

-- a request was answered, where a script went on to its end
pub ask_answered : (asked : Request) (rest : Reply → State → Script) (old : World) (course : List Taken) (new : World) (ended : Status) → IsWhole ended
    → AskRun asked rest old course new ended → IsAnswered asked rest old course new ended
ask_answered asked rest old course new ended whole (Answered run) = run
ask_answered asked rest old course new ended whole (Stopped run) = absurd
    (whole.stop run.cause (prints_status _ _ (stop_status run.cause) ended _ whole.put run.prints).1)

-- a request that the script can't go on without was done, if it wasn't refused
pub need_taken : (asked : Request) (rest : Reply → State → Script) (old : World) (course : List Taken) (new : World) (ended : Status) → IsWhole ended
    → (IsRefused asked old course new ended → ⊥) → NeedRun asked rest old course new ended → IsDone asked rest old course new ended
need_taken asked rest old course new ended whole fine (Done run done) = record { run = run; fine = done }
need_taken asked rest old course new ended whole fine (Refused run) = absurd (fine run)
need_taken asked rest old course new ended whole fine (Halted run) = absurd
    (whole.stop run.cause (prints_status _ _ (stop_status run.cause) ended _ whole.put run.prints).1)

-- no such request was refused in a script that ended well
pub refused_is_not_ok : (asked : Request) (old : World) (course : List Taken) (new : World) → IsRefused asked old course new status.AllOk → ⊥
refused_is_not_ok asked old course new run = let told = prints_status _ _ status.SomeRefused status.AllOk _
    (λ fault. fault) run.prints in let same = told.1 in cc same
