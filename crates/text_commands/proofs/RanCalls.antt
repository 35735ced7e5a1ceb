-- The requests that calls run are a run, and have its counts.
use Rattle.std.proofs.Common.{◌≡◌, ℕ, Bool, true, false, List, [], ◌∷◌, ◌++◌, refl, sym, subst, append-nil, Option, None, Result, Ok, Err}
use Rattle.std.specs.Prelude.{MatchBool}
use Rattle.text_commands.proofs.Common.{Files, Status, calls_of, CallLine, Request, State, is_acknowledged, Taken, Run, requests_of, has_refusal, World, Played, PlayEndStopped, whole_status, stop_status, run_more, Kind, Verify, Work, Answer, Changed, Move, MovesRecords, All, UpToOne, MovesIn, AcksAlone, DoesWork, Runs, Round, AreRounds, course_of, Breaks, AtStop, AtPut, ServesLines, Through, Broken, EndStopped, ServesParsed, ServesCalls, There, Missing, TooLong, Faulty, Starved}
use Rattle.floppy_jobs.specs.declared.calls.CallLine.TheVariants as call
use Rattle.sector_model.specs.Ties.{TiesCounts}
use Rattle.sector_model.proofs.PlayTies.{requests_tied, ran_ties, stopped_ties, alone_ties}
use Rattle.text_commands.specs.CallRounds.{DoesLine}

-- two runs, one after the other, are one
run_join : (old mid new : State) (told mid_told after : Option Files) (first second : List Taken) → Run old told first mid mid_told → Run mid mid_told second new after → Run old told (first ++ second) new after
run_join old mid new told mid_told after [] second run next =
    subst (λ (s : State). Run s told second new after) run.0 (subst (λ (f : Option Files). Run mid f second new after) run.1 next)
run_join old mid new told mid_told after (taken ∷ later) second run next =
    (run.0, run.1, run_join taken.after mid new run.0 mid_told after later second run.2 next)

at_course : (old new : State) (told after : Option Files) (course other : List Taken) → course ≡ other → Run old told other new after → Run old told course new after
at_course old new told after course other is run = subst (λ (c : List Taken). Run old told c new after) (sym is) run

records_run : (asked : List Request) (old new : State) (told : Option Files) (course : List Taken) (code moved : ℕ) → MovesRecords asked old told course code moved new → Run old told course new told
records_run asked old new told course code moved (All done many fine) = done.run
records_run asked old new told course code moved (UpToOne p) = at_course old new told told course _ p.course_is (run_more old p.mid told told told p.before _ p.done_well.run p.step)

in_run : (kind : Kind) (address : ℕ) (asked : List Request) (old new : State) (told : Option Files) (course : List Taken) (code moved : ℕ) → MovesIn kind address asked old told course code moved new → Run old told course new told
in_run Verify address asked old new told course code moved p = at_course old new told told course _ p.course_is (run_join old p.mid new told told told p.reads p.puts (records_run asked old p.mid told p.reads code moved p.moves) p.puts_back.run)
in_run _ address asked old new told course code moved moves = records_run asked old new told course code moved moves

goes_run : (b : Bool) (kind : Kind) (bay address : ℕ) (asked : List Request) (old new : State) (told : Option Files) (course : List Taken) (code moved : ℕ) → MatchBool b (MovesIn kind address asked old told course code moved new) (AcksAlone bay old told course code moved new) → Run old told course new told
goes_run true kind bay address asked old new told course code moved goes = in_run kind address asked old new told course code moved goes
goes_run false kind bay address asked old new told course code moved p = at_course old new told told course _ p.course_is (told, p.step, (refl, refl))

-- the work of a call is a run of requests
work_run : (work : Work) (old new : State) (told : Option Files) (course : List Taken) (code moved : ℕ) → DoesWork work old told course code moved new → Run old told course new told
work_run (Answer planned) old new told course code moved p = at_course old new told told course [] p.nothing (p.same, refl)
work_run (Changed bay) old new told course code moved p = at_course old new told told course _ p.course_is (told, (refl, refl, p.same), (refl, refl))
work_run (Move kind bay c h r count address) old new told course code moved p =
    at_course old new told told course _ p.course_is
    (told, (refl, refl, p.same), goes_run (is_acknowledged old.station bay) kind bay address _ p.looked new told p.later code moved p.goes)

-- what a line does is a run of requests
pub line_run : (line : CallLine) (kept : ℕ) (old : State) (told : Option Files) (round : Round) (after : Option Files) → DoesLine line kept old told round after → Run old told round.course round.after after
line_run (call.Job asked) kept old told round after p = at_course old round.after told after round.course _ p.course_is (after, p.step, (refl, refl))
line_run (call.Call ax bx cx dx es) kept old told round after p =
    subst (λ (f : Option Files). Run old told round.course round.after f) (sym p.files) (work_run _ old round.after told round.course p.serves.code p.serves.moved p.serves.work)

pub rounds_run : (kept : ℕ) (old : State) (told : Option Files) (rounds : List Round) (kept_after : ℕ) (new : State) (after : Option Files) → AreRounds kept old told rounds kept_after new after → Run old told (course_of rounds) new after
rounds_run kept old told [] kept_after new after p = (p.1, p.2)
rounds_run kept old told (round ∷ later) kept_after new after p =
    run_join old round.after new told p.0 after round.course (course_of later) (line_run round.line kept old told round p.0 p.1) (rounds_run round.kept round.after p.0 later kept_after new after p.2)

-- ---- Counts.

abbrev Ties : World → List Taken → World → Type 0
Ties old course new = TiesCounts old.state.station.counters course new.state.station.counters

-- a world without its report
abbrev silent : State → Option Files → World
silent state files = record { state = state; files = files; report = None }

lines_ties : (old new : World) (lines : List CallLine) (course : List Taken) (ended : Status) → ServesLines lines old course new ended → Ties old course new
lines_ties old new lines course ended (Through p) =
    let run = rounds_run 0 old.state old.files p.rounds p.kept p.mid.state p.mid.files p.served.served in
    subst (λ (c : List Taken). Ties old c new) (sym p.course_is)
    (requests_tied (silent old.state old.files) (silent new.state new.files) (requests_of (course_of p.rounds)) (course_of p.rounds) (whole_status (has_refusal (course_of p.rounds)))
    (Played (record { mid = p.mid.state; files = p.mid.files; run = run; all = refl; stored = p.stored; report = refl; status = refl }))).ties
lines_ties old new lines course ended (EndStopped p) =
    let run = rounds_run 0 old.state old.files p.rounds p.kept p.mid.state p.mid.files p.served.served in
    subst (λ (c : List Taken). Ties old c new) (sym p.course_is)
    (requests_tied (silent old.state old.files) (silent new.state new.files) (requests_of (course_of p.rounds)) (course_of p.rounds) (stop_status p.cause)
    (PlayEndStopped (record { mid = p.mid.state; files = p.mid.files; cause = p.cause; run = run; all = refl; only = p.only; stops = p.stops; report = refl; status = refl }))).ties
lines_ties old new lines course ended (Broken p) =
    let run = rounds_run 0 old.state old.files p.rounds p.kept p.mid.state p.mid.files p.served.served in
    subst (λ (c : List Taken). Ties old c new) (sym p.course_is) (broken p.mid p.kept p.line (course_of p.rounds) p.last run p.breaks)
  where
    broken : (mid : World) (kept : ℕ) (line : CallLine) (before last : List Taken) → Run old.state old.files before mid.state mid.files → Breaks kept line mid last new ended → Ties old (before ++ last) new
    broken mid kept line before last run (AtStop asked cause is none stops prints) =
        subst (λ (l : List Taken). Ties old (before ++ l) new) (sym none)
        (subst (λ (l : List Taken). Ties old l new) (sym (append-nil before))
        (stopped_ties old.state mid.state new.state old.files mid.files new.files before asked cause run stops))
    broken mid kept line before last run (AtPut round does is after part fault) =
        subst (λ (l : List Taken). Ties old (before ++ l) new) (sym is)
        (subst (λ (s : State). TiesCounts old.state.station.counters (before ++ round.course) s.station.counters) after
        (ran_ties old.state round.after old.files new.files (before ++ round.course) (run_join old.state mid.state round.after old.files mid.files new.files before round.course run (line_run line kept mid.state mid.files round new.files does))))

idle_ties : (old new : World) (course : List Taken) → course ≡ [] → new ≡ old → Ties old course new
idle_ties old new course nothing same =
    subst (λ (c : List Taken). Ties old c new) (sym nothing)
    (subst (λ (w : World). Ties old [] w) (sym same) (ran_ties old.state old.state old.files old.files [] (refl, refl)))

parsed_ties : (old new : World) (parsed : Result (List CallLine) ℕ) (course : List Taken) (ended : Status) → ServesParsed parsed old course new ended → Ties old course new
parsed_ties old new (Ok lines) course ended serves = lines_ties old new lines course ended serves
parsed_ties old new (Err line) course ended alone = alone_ties old new _ _ course ended alone

-- the counts of a file of calls are tied to its course
pub calls_ties : (old new : World) (name : List ℕ) (course : List Taken) (ended : Status) → ServesCalls name old course new ended → Ties old course new
calls_ties old new name course ended (There p) = parsed_ties old new (calls_of p.text) course ended p.serves
calls_ties old new name course ended (Missing absent alone) = alone_ties old new _ _ course ended alone
calls_ties old new name course ended (TooLong longer alone) = alone_ties old new _ _ course ended alone
calls_ties old new name course ended (Faulty nothing idle) = idle_ties old new course nothing idle.same
calls_ties old new name course ended (Starved nothing idle) = idle_ties old new course nothing idle.same

-- what is done for a file of calls, by its course
pub calls_run : (name : List ℕ) (old new : World) (ended : Status) → ((course : List Taken) × ServesCalls name old course new ended) → Runs (ServesCalls name) old new ended
calls_run name old new ended p = record { course = p.0; does = p.1 }
