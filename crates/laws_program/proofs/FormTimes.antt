-- How long a subcommand (form) lasts at most, how many port accesses it makes, and how many data commands it sends.
use Rattle.std.proofs.Common.{[], arith, ◌≡◌, ℕ, ◌+◌, ◌-◌, ◌≤◌, List, ◌∷◌, length, Option, Some, None, ap, sym, subst, refl, inl, inr, ◌∙◌, ◌++◌, Result, Ok}
use Rattle.laws_program.proofs.Common.{accesses_twice, accesses_within, costs_none, AccessesPortsUpTo, Counters, DriveCounts, IsPastDriver, LastsUpTo, RoseBy, Files, Status, Request, Board, counters_of, State, IsSame, ChangesMedium, StationState, AfterStop, Taken, Run, EndsBay, Stored, Left, EndStopsAt, AtFirst, AtSecond, World, Stopped, course_port_accesses, course_time, run_costs, Script, RunsScript, HasRun, script_ran, world, Outside, Form, DoesForm, DoesOrStarves, AsAsked, StarvesWords, Does, RunsOver, EachStep, SendsFew, course_commands, most_commands, file_at, both, job_of, Stop, IsFresh, is_bay, StopsAt, StopCause, IsLonger, IsAbsent, refusal_of, is_loaded, requests_of, has_refusal, IsEndStop, Plays, There, Missing, TooLong, Faulty, Starved, PlaysParsed, PlaysRequests, Played, BrokenOff, EndStopped, IsText, most_job_bytes, IsDiskFile, Names, named_by, HoldsBy, InsertsDisk, InsertsDisks}
use Rattle.laws_machine.specs.OnSteps.Lasts.{clock_of}
use Rattle.laws_machine.specs.OnSteps.Uses.{Uses}
use Rattle.sector_model.specs.Runs.{Ends}
use Rattle.laws_program.proofs.Courses.{Rests, Still, AtRequest, AtEnd, AtStore, Went, went_play, went_calls, one_text, there_missing, there_long}
use Rattle.laws_program.proofs.StepCauses.{each_sends}
use Rattle.std.specs.Prelude.{◌&&◌, not, Bool, true}
use Rattle.laws_program.proofs.Inserting.{IsKept, AreHeld, file_image, goes_in, stop_cases, no_stop}
use Rattle.laws_program.proofs.KeptSteps.{loaded_is, step_kept}
use Rattle.laws_program.proofs.OfForms.{EndsBy, SaysRefused, whole_as, put_as, prints_as, stop_as}
use Rattle.floppy_jobs.specs.declared.request.Request.TheVariants as request
use Rattle.commands.proofs.Running as has
use Rattle.floppy_words.specs.declared.form.Form.TheVariants as form

-- A bound `R most old new` on what counters show of a call, which adds up from call to call. A run keeps within this sum,
-- and calls past the driver add nothing.
record IsBound (R : ℕ → Counters → Counters → Type 0) (sum : StationState → List Taken → ℕ) : Type 0 where
  none : (a : Counters) → R 0 a a
  more : (few most : ℕ) (a b : Counters) → few ≤ most → R few a b → R most a b
  twice : (n m : ℕ) (a b c : Counters) → R n a b → R m b c → R (n + m) a c
  run : (old new : State) (told after : Option Files) (course : List Taken) → Run old told course new after
      → R (sum old.station course) old.station.counters new.station.counters
  past : (most : ℕ) (a b : Counters) → IsPastDriver most a b → R 0 a b
  same : (old new : State) → IsSame 0 old new → R 0 old.station.counters new.station.counters

module _ (R : ℕ → Counters → Counters → Type 0) (sum : StationState → List Taken → ℕ) (bound : IsBound R sum) where
  abbrev Within : World → List Taken → World → Type 0
  Within old course new = R (sum old.state.station course) old.state.station.counters new.state.station.counters

  -- ---- Nothing is added where a run stops, or after its last request.

  changed_stays : (old new : State) (bay : ℕ) (name : Option (List ℕ)) (medium : Option _) → ChangesMedium bay name medium old new
      → R 0 old.station.counters new.station.counters
  changed_stays old new bay name medium changes = bound.past _ _ _ changes.exchanged.access

  stopped_stays : (old new : State) (asked : Request) → AfterStop asked old new → R 0 old.station.counters new.station.counters
  stopped_stays old new (request.Eject bay) stopped = changed_stays old new bay _ _ stopped
  stopped_stays old new _ stopped = bound.same old new stopped

  bay_stays : (old new : State) (told after : Option Files) (bay : ℕ) → EndsBay bay old told new after
      → R 0 old.station.counters new.station.counters
  bay_stays old new told after bay (Stored stores) = changed_stays old new bay _ _ stores.4
  bay_stays old new told after bay (Left left) = bound.same old new left.same

  ends_stay : (old new : State) (told after : Option Files) → Ends old told new after → R 0 old.station.counters new.station.counters
  ends_stay old new told after ends =
      bound.twice 0 0 old.station.counters ends.0.station.counters new.station.counters (bay_stays old ends.0 told ends.1 0 ends.2)
      (bay_stays ends.0 new ends.1 after 1 ends.3)

  end_stop_stays : (old new : State) (told after : Option Files) → EndStopsAt old told new after
      → R 0 old.station.counters new.station.counters
  end_stop_stays old new told after (AtFirst drops same) = changed_stays old new 0 _ _ drops.changes
  end_stop_stays old new told after (AtSecond mid ends drops) =
      bound.twice 0 0 old.station.counters mid.station.counters new.station.counters (bay_stays old mid told after 0 ends)
      (changed_stays mid new 1 _ _ drops.changes)

  run_and : (old mid : State) (told after : Option Files) (course : List Taken) (new : Counters) → Run old told course mid after
      → R 0 mid.station.counters new → R (sum old.station course) old.station.counters new
  run_and old mid told after course new run stays =
      let most = sum old.station course in
      bound.more (most + 0) most old.station.counters new (omega arith)
      (bound.twice most 0 old.station.counters mid.station.counters new (bound.run old mid told after course run) stays)

  -- nothing is added where nothing was run and the state stays
  idle_within : (old new : World) (course : List Taken) → new.state ≡ old.state → Within old course new
  idle_within old new course same =
      let counters = old.state.station.counters in
      subst (λ (s : State). R (sum old.state.station course) counters s.station.counters) (sym same)
      (bound.more 0 (sum old.state.station course) counters counters (omega arith) (bound.none counters))

  -- ---- Scripts.

  has_within : (old : World) (course : List Taken) (new : World) → HasRun old course new → Within old course new
  has_within old course new (has.Through files run) = bound.run old.state new.state old.files files course run
  has_within old course new (has.Stopped mid files asked cause run stops) =
      run_and old.state mid old.files files course new.state.station.counters run (stopped_stays mid new.state asked stops.after)

  script_within : (script : Script) (old : World) (course : List Taken) (new : World) (ended : Status) → RunsScript script old course new ended
      → Within old course new
  script_within script old course new ended runs = has_within old course new (script_ran script old course new ended runs)

  -- ---- Jobs, and calls of INT 13h.

  rests_stay : (mid new : State) (files after : Option Files) → Rests mid files new after → R 0 mid.station.counters new.station.counters
  rests_stay mid new files after (Still state same) =
      subst (λ (s : State). R 0 mid.station.counters s.station.counters) (sym state) (bound.none mid.station.counters)
  rests_stay mid new files after (AtRequest asked cause stops) = stopped_stays mid new asked stops.after
  rests_stay mid new files after (AtEnd ends) = ends_stay mid new files after ends
  rests_stay mid new files after (AtStore stops) = end_stop_stays mid new files after stops

  went_within : (old : World) (course : List Taken) (new : World) → Went old course new → Within old course new
  went_within old course new went =
      run_and old.state went.mid old.files went.files course new.state.station.counters went.run
      (rests_stay went.mid new.state went.files new.files went.rests)

  -- ---- Subcommands.

  form_within : (asked : Form) (old : World) (course : List Taken) (new : World) (ended : Status) → DoesForm asked old course new ended
      → Within old course new
  form_within (form.Play job) old course new ended does = went_within old course new (went_play old course new job ended does)
  form_within (form.FromImd imd name) old course new ended does = idle_within old new course does.state
  form_within (form.ToImd name imd) old course new ended does = idle_within old new course does.state
  form_within (form.Survey name) old course new ended does = idle_within old new course does.state
  form_within (form.Remaster from to) old course new ended does = idle_within old new course does.state
  form_within (form.Import flat name) old course new ended does = script_within _ old course new ended does.2
  form_within (form.Int13 name) old course new ended does = went_within old course new (went_calls old course new name ended does)
  form_within (form.Rescue from to log) old course new ended does = script_within _ old course new ended does.2
  form_within _ old course new ended does = script_within _ old course new ended does

  asked_within : (asked : Form) (old : World) (course : List Taken) (new : World) (ended : Status) → DoesOrStarves asked old course new ended
      → Within old course new
  asked_within asked old course new ended (AsAsked does) = form_within asked old course new ended does
  asked_within asked old course new ended (StarvesWords nothing idle) = idle_within old new course (ap (λ (w : World). w.state) idle.same)

  does_within : (asked : Option Form) (old : World) (course : List Taken) (new : World) (ended : Status) → Does asked old course new ended
      → Within old course new
  does_within (Some asked) old course new ended does = asked_within asked old course new ended does
  does_within None old course new ended alone = idle_within old new course alone.tells.state

-- ---- The clock, the port accesses, and the data commands.

abbrev pub CommandsUpTo : ℕ → Counters → Counters → Type 0
CommandsUpTo most old new = new.data_commands ≤ old.data_commands + most

times_bound : IsBound LastsUpTo course_time
times_bound = record {
  none = λ a. omega arith;
  more = λ few most a b less first. omega (arith, less, first);
  twice = λ n m a b c first second. omega (arith, first, second);
  run = λ old new told after course run. (run_costs old new told after course run).0;
  past = λ most a b past. past.no_cost.0;
  same = λ old new same. same.costs.0;
}

accesses_bound : IsBound AccessesPortsUpTo course_port_accesses
accesses_bound = record {
  none = λ a. (costs_none 0 0 a).1;
  more = accesses_within;
  twice = accesses_twice;
  run = λ old new told after course run. (run_costs old new told after course run).1;
  past = λ most a b past. past.no_cost.1;
  same = λ old new same. same.costs.1;
}

run_sends : (old new : State) (told after : Option Files) (course : List Taken) → EachStep SendsFew old course → Run old told course new after
    → new.station.counters.data_commands ≤ old.station.counters.data_commands + course_commands old.station course
run_sends old new told after [] each run = let same = ap (λ (s : State). s.station.counters.data_commands) run.0 in omega (arith, same)
run_sends old new told after (taken ∷ later) each run =
    let first = each.0.commands in
    let others = run_sends taken.after new run.0 after later each.1 run.2 in
    omega (arith, first, others)

commands_bound : IsBound CommandsUpTo course_commands
commands_bound = record {
  none = λ a. omega arith;
  more = λ few most a b less first. omega (arith, less, first);
  twice = λ n m a b c first second. omega (arith, first, second);
  run = λ old new told after course run. run_sends old new told after course (each_sends old new told after course run) run;
  past = λ most a b past. (let none = past.no_commands in omega (arith, none));
  same = λ old new same. same.idle.most_commands;
}

-- the device steps of a run over a machine
pub machine_lasts : (asked : Option Form) (spares : List DriveCounts) (old new : Board) (before after : Outside) (ended : Status)
    → (over : RunsOver asked old spares before new after ended)
    → clock_of new ≤ clock_of old + (2 + course_time over.start.station over.runs.course)
machine_lasts asked spares old new before after ended over =
    let began = over.set_up.starts.costs.0 in
    let shown = ap (λ (c : Counters). c.clock) over.shows.counters in
    let ran = does_within LastsUpTo course_time times_bound asked (world over.start before.files before.report) over.runs.course
    (world over.last after.files after.report) ended over.runs.does in
    omega (arith, began, shown, ran)

-- the port accesses of a run over a machine
pub machine_uses : (asked : Option Form) (spares : List DriveCounts) (old new : Board) (before after : Outside) (ended : Status)
    → (over : RunsOver asked old spares before new after ended)
    → Uses (22 + course_port_accesses over.start.station over.runs.course) old new
machine_uses asked spares old new before after ended over =
    let last : Counters = over.last.station.counters in
    let most = course_port_accesses over.start.station over.runs.course in
    let ran = does_within AccessesPortsUpTo course_port_accesses accesses_bound asked (world over.start before.files before.report) over.runs.course
    (world over.last after.files after.report) ended over.runs.does in
    let all : AccessesPortsUpTo (22 + most) (counters_of old) last =
    accesses_twice 22 most (counters_of old) over.start.station.counters last over.set_up.starts.costs.1 ran in
    let gaps : last.gaps ≡ length new.bus.gaps = ap (λ (c : Counters). c.gaps) over.shows.counters in
    let taken : last.taken ≡ new.bus.taken = ap (λ (c : Counters). c.taken) over.shows.counters in
    subst (λ n. RoseBy (length old.bus.gaps - n - (22 + most)) old.bus.taken new.bus.taken) gaps
    (subst (λ n. RoseBy (length old.bus.gaps - last.gaps - (22 + most)) old.bus.taken n) taken all)

-- the data commands of a run over a machine
pub machine_sends : (asked : Option Form) (spares : List DriveCounts) (old new : Board) (before after : Outside) (ended : Status)
    → (over : RunsOver asked old spares before new after ended)
    → over.last.station.counters.data_commands ≤ over.start.station.counters.data_commands + course_commands over.start.station over.runs.course
machine_sends asked spares old new before after ended over =
    does_within CommandsUpTo course_commands commands_bound asked (world over.start before.files before.report)
    over.runs.course (world over.last after.files after.report) ended over.runs.does

-- ---- the status of a batch job, where each file that is put in is the file of a disk

-- ---- what can stop a request

-- only the outside stops a request, if what it puts in is the file of a disk
pub disks_stop : (files : Files) (asked : Request) (cause : Stop) → StopCause (Some files) asked cause
    → ((bay : ℕ) (name : List ℕ) → asked ≡ request.Insert bay name → IsDiskFile (Some files) name) → IsEndStop cause
disks_stop files asked cause is there = elim (stop_cases files asked cause is) [
  | inl only ↦ only
  | inr load ↦
      let file = there load.bay load.name load.asked_is in
      let none = no_stop files load.name file.0 (file_image files load.name file) in
      let some = load.is in
      absurd (cc (none, some))
]

pub kept_stop : (Holds : List ℕ → Type 0) (names : Names) (old : State) (told : Option Files) → IsKept Holds names old told → (asked : Request)
    (cause : Stop) (new : State) (after : Option Files) → InsertsDisk Holds names asked → StopsAt asked old told cause new after → IsEndStop cause
kept_stop Holds names old told kept asked cause new after known stops =
    disks_stop kept.files asked cause (subst (λ (f : Option Files). StopCause f asked cause) kept.told_is stops.cause) (λ bay name is.
    let free = goes_in (is_bay bay) (is_loaded old bay) (subst (λ (q : Request). refusal_of old q ≡ None) is stops.taken) in
    let open_bay = subst (λ (b : Bool). (is_bay bay && not b) ≡ true) (loaded_is Holds names old told kept bay) free in
    let holds = subst (InsertsDisk Holds names) is known open_bay in
    subst (λ (f : Option Files). IsDiskFile f name) kept.told_is (kept.holds name holds))

-- only the outside stops such a request after a run
run_stop : (asked : Request) (later : List Request) (cause : Stop) (mid new : State) (files after : Option Files) → StopsAt asked mid files cause new after
    → (Holds : List ℕ → Type 0) (names : Names) (old : State) (told : Option Files) (course : List Taken) → Run old told course mid files
    → InsertsDisks Holds names (requests_of course ++ asked ∷ later) → IsKept Holds names old told → IsEndStop cause
run_stop asked later cause mid new files after stops Holds names old told [] run inserts kept =
    kept_stop Holds names mid files
    (subst (λ (f : Option Files). IsKept Holds names mid f) (sym run.1) (subst (λ (s : State). IsKept Holds names s told) (sym run.0) kept))
    asked cause new after inserts.0 stops
run_stop asked later cause mid new files after stops Holds names old told (taken ∷ rest) run inserts kept =
    run_stop asked later cause mid new files after stops (HoldsBy Holds names taken.asked) (named_by names taken.asked) taken.after run.0 rest run.2 inserts.1
    (step_kept Holds names old told kept taken.asked taken.answer taken.after run.0 inserts.0 run.1)

-- ---- a job

requests_by : (Holds : List ℕ → Type 0) (names : Names) (requests : List Request) (old : World) (course : List Taken) (new : World) (ended : Status)
    → InsertsDisks Holds names requests → IsKept Holds names old.state old.files → PlaysRequests requests old course new ended
    → EndsBy (has_refusal course) ended
requests_by Holds names requests old course new ended inserts kept (Played is) =
    subst (EndsBy (has_refusal course)) (sym is.status) (whole_as (SaysRefused (has_refusal course)) (has_refusal course) refl)
requests_by Holds names requests old course new ended inserts kept (Stopped is) =
    prints_as (SaysRefused (has_refusal course)) _ _ _ _ ended is.prints
    (λ well. stop_as (SaysRefused (has_refusal course)) is.cause
    (run_stop is.asked is.later is.cause is.mid new.state is.files new.files is.stops Holds names old.state old.files course is.run
    (subst (InsertsDisks Holds names) is.all inserts) kept))
requests_by Holds names requests old course new ended inserts kept (BrokenOff is) = put_as (SaysRefused (has_refusal course)) ended is.fault
requests_by Holds names requests old course new ended inserts kept (EndStopped is) =
    subst (EndsBy (has_refusal course)) (sym is.status) (stop_as (SaysRefused (has_refusal course)) is.cause is.only)

-- ---- the file of a text that is there

module _ (files : Files) (name text : List ℕ) (told : Option Files) (told_is : told ≡ Some files) (is : IsText (Some files) name text) where
  pub same_text : (other : List ℕ) → IsText told name other → other ≡ text
  same_text other there = one_text (file_at files name) text other is (subst (λ (f : Option Files). IsText f name other) told_is there)

  pub not_absent : IsAbsent told name → ⊥
  not_absent absent = there_missing (file_at files name) text is (subst (λ (f : Option Files). IsAbsent f name) told_is absent)

  pub not_long : IsLonger told name most_job_bytes → ⊥
  not_long longer = there_long (file_at files name) text is (subst (λ (f : Option Files). IsLonger f name most_job_bytes) told_is longer)

pub play_by : (job : List ℕ) (files : Files) (text : List ℕ) (requests : List Request) (old : World) (course : List Taken) (new : World) (ended : Status)
    → old.files ≡ Some files → IsText (Some files) job text → job_of text ≡ Ok requests → InsertsDisks (IsDiskFile (Some files)) (both None) requests
    → IsKept (IsDiskFile (Some files)) (both None) old.state old.files → Plays job old course new ended → EndsBy (has_refusal course) ended
play_by job files text requests old course new ended told is spells inserts kept (There there) =
    requests_by (IsDiskFile (Some files)) (both None) requests old course new ended inserts kept
    (subst (λ (parsed : Result (List Request) ℕ). PlaysParsed parsed old course new ended)
    (ap job_of (same_text files job text old.files told is there.text there.told) ∙ spells) there.plays)
play_by job files text requests old course new ended told is spells inserts kept (Missing absent tells) = absurd (not_absent files job text old.files told is absent)
play_by job files text requests old course new ended told is spells inserts kept (TooLong longer tells) = absurd (not_long files job text old.files told is longer)
play_by job files text requests old course new ended told is spells inserts kept (Faulty nothing idle) = subst (EndsBy (has_refusal course)) (sym idle.status) tt
play_by job files text requests old course new ended told is spells inserts kept (Starved nothing idle) = subst (EndsBy (has_refusal course)) (sym idle.status) tt

-- what holds of a session before its first request
pub begins_kept : (files : Files) (start : State) (told : Option Files) → told ≡ Some files → start.names ≡ both None → IsFresh start.station
    → IsKept (IsDiskFile (Some files)) (both None) start told
begins_kept files start told is named fresh = record {
  files = files;
  told_is = is;
  named = named;
  held = subst (AreHeld (both None)) (sym fresh.bays) (record { first = tt; second = tt });
  holds = λ name known. subst (λ (f : Option Files). IsDiskFile f name) (sym is) known;
}
