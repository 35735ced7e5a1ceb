-- A play ties its counts.
use Rattle.std.proofs.Common.{arith, ◌≡◌, ℕ, ◌+◌, ◌≤◌, List, [], ◌∷◌, ◌++◌, length, refl, ap, ◌∙◌, sym, subst, Option, Result, Ok, Err}
use Rattle.sector_model.proofs.Common.{sum_by-cons, sum_by-append, Files, file_at, Status, Counters, GoesOn, faults_of, job_of, Request, State, Stop, StopsAt, Taken, Run, requests_of, World, TellsAlone, PlaysRequests, Played, Stopped, BrokenOff, EndStopped, PlaysParsed, Plays, There, Missing, TooLong, Faulty, Starved, IsText, most_job_bytes, TiesCounts, accesses_of, accesses_of_job, IsJob, goes_on_itself}
use Rattle.std.specs.Prelude.{sum_by, IsSomeAnd, IfSome}
use Rattle.sector_model.proofs.Runs.{run_more, requests_more}
use Rattle.sector_model.proofs.Ties.{Tied, tied_after, tied_more, tied_none, run_tied, run_counters, stop_accesses, stop_tied, ends_tied, end_stop_tied, stop_goes, ends_goes, end_stop_goes}
use Rattle.sector_model.proofs.Courses.{told_paid, all_tell, since_came, all_undisturbed}

-- the counters of a world
abbrev counters_of : World → Counters
counters_of world = world.state.station.counters

-- what a play of some requests with a course does to counters
pub record PlayTied (old : Counters) (requests : List Request) (course : List Taken) (new : Counters) : Type 0 where
  pub ties : TiesCounts old course new
  pub accesses : new.direct ≤ old.direct + accesses_of_job requests

-- a run, and the counts after it
run_ties : (old mid : State) (told after : Option Files) (course : List Taken) (new : Counters) (last : ℕ) → Run old told course mid after → GoesOn mid.station.counters new → Tied last mid.station.counters new → new.direct ≤ mid.station.counters.direct + 2 → TiesCounts old.station.counters course new
run_ties old mid told after course new last run goes tied few =
    let ran = run_tied old mid told after course run in
    let all = tied_after (sum_by accesses_of (requests_of course)) last _ _ _ ran tied in
    let there = ap (λ (c : Counters). c.direct) (run_counters old mid told after course run) in
    record {
      commands = all.commands;
      interrupts = all.interrupts;
      stalls = all.stalls;
      stalls_left = all.stalls_left;
      by_requests = omega (arith, ran.accesses, there);
      at_the_end = omega (arith, few, there);
      told = told_paid old mid told after course new run goes;
      tells = all_tell old mid told after course new run goes;
      since = λ bay is. since_came bay is new old mid told after course (faults_of old.station.counters bay) 0 run goes (omega arith);
      undisturbed = all_undisturbed old mid told after course run;
    }

play_tied : (old mid : State) (told after : Option Files) (course : List Taken) (requests : List Request) (new : Counters) (last : ℕ) → Run old told course mid after → GoesOn mid.station.counters new → Tied last mid.station.counters new → new.direct ≤ mid.station.counters.direct + 2 → sum_by accesses_of (requests_of course) + last ≤ accesses_of_job requests → PlayTied old.station.counters requests course new
play_tied old mid told after course requests new last run goes tied few within =
    let all = tied_after (sum_by accesses_of (requests_of course)) last _ _ _ (run_tied old mid told after course run) tied in
    record {
      ties = run_ties old mid told after course new last run goes tied few;
      accesses = (tied_more _ (accesses_of_job requests) _ _ within all).accesses;
    }

-- all requests and the two bays at the end
to_the_end : (course : List Taken) (requests : List Request) → requests ≡ requests_of course → sum_by accesses_of (requests_of course) + 2 ≤ accesses_of_job requests
to_the_end course requests all = omega (arith, ap (sum_by accesses_of) all)

-- a request and those before it make no more accesses than all
up_to_one : (course : List Taken) (requests later : List Request) (asked : Request) → requests ≡ requests_of course ++ asked ∷ later → sum_by accesses_of (requests_of course) + accesses_of asked ≤ accesses_of_job requests
up_to_one course requests later asked all =
    let whole : sum_by accesses_of requests ≡ sum_by accesses_of (requests_of course) + (accesses_of asked + sum_by accesses_of later) = ap (sum_by accesses_of) all ∙ sum_by-append accesses_of (requests_of course) (asked ∷ later) ∙ ap (λ n. sum_by accesses_of (requests_of course) + n) (sum_by-cons accesses_of asked later) in
    omega (arith, whole)

-- the same up to a request that was run
up_to_last : (before : List Taken) (last : Taken) (requests later : List Request) → requests ≡ requests_of before ++ last.asked ∷ later → sum_by accesses_of (requests_of (before ++ last ∷ [])) + 0 ≤ accesses_of_job requests
up_to_last before last requests later all =
    let one = up_to_one before requests later last.asked all in
    let run = ap (sum_by accesses_of) (requests_more before last) ∙ sum_by-append accesses_of (requests_of before) (last.asked ∷ []) ∙ ap (λ n. sum_by accesses_of (requests_of before) + n) (sum_by-cons accesses_of last.asked []) in
    omega (arith, one, run)

pub requests_tied : (old new : World) (requests : List Request) (course : List Taken) (ended : Status) → PlaysRequests requests old course new ended → PlayTied (counters_of old) requests course (counters_of new)
requests_tied old new requests course ended (Played p) =
    play_tied old.state p.mid old.files p.files course requests (counters_of new) 2 p.run (ends_goes p.mid new.state p.files new.files p.stored) (ends_tied p.mid new.state p.files new.files p.stored) (ends_tied p.mid new.state p.files new.files p.stored).accesses (to_the_end course requests p.all)
requests_tied old new requests course ended (Stopped p) =
    play_tied old.state p.mid old.files p.files course requests (counters_of new) (accesses_of p.asked) p.run (stop_goes p.mid new.state p.files new.files p.asked p.cause p.stops) (stop_tied p.mid new.state p.files new.files p.asked p.cause p.stops) (omega (arith, stop_accesses p.mid new.state p.files new.files p.asked p.cause p.stops)) (up_to_one course requests p.later p.asked p.all)
requests_tied old new requests course ended (BrokenOff p) =
    let run = run_more old.state p.mid old.files p.files new.files p.before p.last p.run p.step in
    let tied = play_tied old.state p.last.after old.files new.files (p.before ++ p.last ∷ []) requests p.last.after.station.counters 0 run (goes_on_itself _) (tied_none _) (omega arith) (up_to_last p.before p.last requests p.later p.all) in
    subst (λ (steps : List Taken). PlayTied (counters_of old) requests steps (counters_of new)) (sym p.course_is)
    (subst (λ (s : State). PlayTied (counters_of old) requests (p.before ++ p.last ∷ []) s.station.counters) (sym p.after) tied)
requests_tied old new requests course ended (EndStopped p) =
    play_tied old.state p.mid old.files p.files course requests (counters_of new) 2 p.run (end_stop_goes p.mid new.state p.files new.files p.stops) (end_stop_tied p.mid new.state p.files new.files p.stops) (end_stop_tied p.mid new.state p.files new.files p.stops).accesses (to_the_end course requests p.all)

-- a run alone
pub ran_ties : (old new : State) (told after : Option Files) (course : List Taken) → Run old told course new after → TiesCounts old.station.counters course new.station.counters
ran_ties old new told after course run = (play_tied old new told after course (requests_of course) new.station.counters 0 run (goes_on_itself _) (tied_none _) (omega arith) (omega arith)).ties

-- a run that a request stopped
pub stopped_ties : (old mid new : State) (told mid_told after : Option Files) (course : List Taken) (asked : Request) (cause : Stop) → Run old told course mid mid_told → StopsAt asked mid mid_told cause new after → TiesCounts old.station.counters course new.station.counters
stopped_ties old mid new told mid_told after course asked cause run stops =
    (play_tied old mid told mid_told course (requests_of course ++ asked ∷ []) new.station.counters (accesses_of asked) run (stop_goes mid new mid_told after asked cause stops) (stop_tied mid new mid_told after asked cause stops) (omega (arith, stop_accesses mid new mid_told after asked cause stops)) (up_to_one course (requests_of course ++ asked ∷ []) [] asked refl)).ties

-- if nothing was run and the state stays, nothing was counted
stays_tied : (old new : World) (requests : List Request) (course : List Taken) → course ≡ [] → new.state ≡ old.state → PlayTied (counters_of old) requests course (counters_of new)
stays_tied old new requests course nothing same =
    subst (λ (steps : List Taken). PlayTied (counters_of old) requests steps (counters_of new)) (sym nothing)
    (subst (λ (s : State). PlayTied (counters_of old) requests [] s.station.counters) (sym same)
    (play_tied old.state old.state old.files old.files [] requests (counters_of old) 0 (refl, refl) (goes_on_itself _) (tied_none _) (omega arith) (omega arith)))

-- a line alone
pub alone_ties : (old new : World) (line : List ℕ) (wanted : Status) (course : List Taken) (ended : Status) → TellsAlone line wanted old course new ended → TiesCounts (counters_of old) course (counters_of new)
alone_ties old new line wanted course ended alone = (stays_tied old new [] course alone.nothing alone.tells.state).ties

parsed_ties : (old new : World) (parsed : Result (List Request) ℕ) (course : List Taken) (ended : Status) → PlaysParsed parsed old course new ended → TiesCounts (counters_of old) course (counters_of new)
parsed_ties old new (Ok requests) course ended plays = (requests_tied old new requests course ended plays).ties
parsed_ties old new (Err line) course ended alone = (stays_tied old new [] course alone.nothing alone.tells.state).ties

-- a play ties its counts
pub play_ties : (old new : World) (job : List ℕ) (course : List Taken) (ended : Status) → Plays job old course new ended → TiesCounts (counters_of old) course (counters_of new)
play_ties old new job course ended (There p) = parsed_ties old new (job_of p.text) course ended p.plays
play_ties old new job course ended (Missing absent alone) = (stays_tied old new [] course alone.nothing alone.tells.state).ties
play_ties old new job course ended (TooLong longer alone) = (stays_tied old new [] course alone.nothing alone.tells.state).ties
play_ties old new job course ended (Faulty nothing idle) = (stays_tied old new [] course nothing (ap (λ (w : World). w.state) idle.same)).ties
play_ties old new job course ended (Starved nothing idle) = (stays_tied old new [] course nothing (ap (λ (w : World). w.state) idle.same)).ties

-- the text that was read is the one in the files
one_text : (told : Option Files) (job text : List ℕ) (requests : List Request) (is : IsJob told job requests) → IsText told job text → text ≡ is.text
one_text told job text requests is read =
    let there = subst (λ (t : Option Files). IfSome t (λ files. IsSomeAnd (file_at files job) (λ bytes. (bytes ≡ text) × (length bytes ≤ most_job_bytes)))) is.tells read in
    let here = subst (λ (found : Option (List ℕ)). IsSomeAnd found (λ bytes. (bytes ≡ text) × (length bytes ≤ most_job_bytes))) is.there there in
    sym here.0

-- a play of a job with these requests makes no more accesses than the requests may
pub play_accesses : (old new : World) (job : List ℕ) (course : List Taken) (ended : Status) (requests : List Request) → Plays job old course new ended → IsJob old.files job requests → (counters_of new).direct ≤ (counters_of old).direct + accesses_of_job requests
play_accesses old new job course ended requests (There p) is =
    (requests_tied old new requests course ended (subst (λ (parsed : Result (List Request) ℕ). PlaysParsed parsed old course new ended) (ap job_of (one_text old.files job p.text requests is p.told) ∙ is.spells) p.plays)).accesses
play_accesses old new job course ended requests (Missing absent alone) is = (stays_tied old new requests course alone.nothing alone.tells.state).accesses
play_accesses old new job course ended requests (TooLong longer alone) is = (stays_tied old new requests course alone.nothing alone.tells.state).accesses
play_accesses old new job course ended requests (Faulty nothing idle) is = (stays_tied old new requests course nothing (ap (λ (w : World). w.state) idle.same)).accesses
play_accesses old new job course ended requests (Starved nothing idle) is = (stays_tied old new requests course nothing (ap (λ (w : World). w.state) idle.same)).accesses
